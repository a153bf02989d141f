-- What the bounds of a lookup's answer mark: the URI that the record has in the resolver's text, and an unknown prefix in the
-- name.
use Rattle.std.specs.Prelude.{ℕ, zero, suc, Bool, List, [], Ok, Err}
use Rattle.scan.specs.First.{pick}
use Rattle.scan.specs.Bytes.{Marks}
use Rattle.name.specs.Split.{has_colon, prefix_of}
use Rattle.scope_table.specs.Lists.{last_below}
use Rattle.scope_table.specs.Records.{record_at, value_in}
use Rattle.scope_table.specs.declared.NamespaceBinding.{NamespaceBinding}
use Rattle.scope_table.specs.declared.NamespaceResolver.{NamespaceResolver}
use Rattle.scope_lookup.specs.Lookup.{Resolved, has_prefix, is_default, resolve_prefix_of, resolve_of}
use Rattle.scope_lookup.specs.declared.ResolveResult.TheVariants.{Bound, Unbound, Unknown}

-- the record that counts, by its number counted from 1: the last with the prefix, or the last default; 0 where there is none
abbrev pub last_for : (text : List ℕ) (rows : ℕ → NamespaceBinding) (count : ℕ) (p : List ℕ) (explicit : Bool) → ℕ
last_for text rows count p explicit =
    pick explicit (last_below (λ i. has_prefix text p (rows i)) count) (last_below (λ i. is_default (rows i)) count)

-- its value
unfoldable pub value_nth : (text : List ℕ) (rows : ℕ → NamespaceBinding) → ℕ → List ℕ
value_nth text rows zero = []
value_nth text rows (suc i) = value_in text (rows i)

-- Bound marks the URI in the text, and Unknown the prefix in the name. No other answer has bounds.
abbrev pub MarksFound : (text name uri prefix : List ℕ) → Resolved → Type 0
MarksFound text name uri prefix (Ok (Bound a e)) = Marks text a e uri
MarksFound text name uri prefix (Ok Unbound) = Unit {0}
MarksFound text name uri prefix (Ok (Unknown a e)) = Marks name a e prefix
MarksFound text name uri prefix (Err why) = Unit {0}

-- of `resolve_prefix`, where the prefix itself is lent, and of `resolve`, where it is a part of the name
abbrev pub PrefixMarks : (prefix : List ℕ) (explicit wanted : Bool) → NamespaceResolver → Type 0
PrefixMarks p explicit wanted x =
    let rows = record_at x.records in
    MarksFound x.text p (value_nth x.text rows (last_for x.text rows x.head.count p explicit)) p
    (resolve_prefix_of p explicit wanted x)

abbrev pub ResolveMarks : (name : List ℕ) (wanted : Bool) → NamespaceResolver → Type 0
ResolveMarks name wanted x =
    let rows = record_at x.records in
    let p = prefix_of name in
    MarksFound x.text name (value_nth x.text rows (last_for x.text rows x.head.count p (has_colon name))) p
    (resolve_of name wanted x)
