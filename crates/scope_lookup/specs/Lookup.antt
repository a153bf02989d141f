-- Document 01, "Scopes": what a name or a prefix resolves to. What is found is a part of the resolver's text, and what is
-- not is a part of the name: both stand in an answer as bounds, and `uri_part`, `prefix_part` give their bytes.
use Rattle.std.specs.Prelude.{ℕ, zero, suc, Bool, List, [], ◌∷◌, length, eqb, Option, Some, None, Result, Ok, Err}
use Rattle.scan.specs.First.{pick}
use Rattle.scan.specs.Bytes.{inside, same_bytes}
use Rattle.name.specs.Split.{has_colon, prefix_of}
use Rattle.scope_table.specs.Lists.{last_below}
use Rattle.scope_table.specs.Records.{record_at, value_start, value_end, prefix_in}
use Rattle.scope_table.specs.Table.{valid_of}
use Rattle.scope_table.specs.declared.NamespaceBinding.{NamespaceBinding}
use Rattle.scope_table.specs.declared.NamespaceResolver.{NamespaceResolver}
use Rattle.scope_table.specs.declared.FormError.{FormError}
use Rattle.scope_table.specs.declared.FormError.TheVariants.{BadResolver, WrongLength}
use Rattle.scope_lookup.specs.declared.ResolveResult.{ResolveResult}
use Rattle.scope_lookup.specs.declared.ResolveResult.TheVariants.{Bound, Unbound, Unknown}
use Rattle.scope_lookup.specs.declared.Namespace.{Namespace}
use Rattle.scope_lookup.specs.declared.LookupError.{LookupError}
use Rattle.scope_lookup.specs.declared.LookupError.TheVariants.{UnknownPrefix, Form}

-- what a lookup answers: what the name resolves to, or why the resolver is not asked
abbrev pub Resolved : Type 0
Resolved = Result ResolveResult FormError

-- Each answer by numbers: 0 Unbound, 1 Bound with the bounds of the URI in the text, 2 Unknown with those of the prefix in
-- the name; 20 is document 01's, and 99 that of lent memory. Only as a refusal has an unknown prefix document 01's number 11:
-- `namespace_numbers`.
unfoldable pub resolved_numbers : Resolved → List ℕ
resolved_numbers (Ok Unbound) = 0 ∷ []
resolved_numbers (Ok (Bound a e)) = 1 ∷ a ∷ e ∷ []
resolved_numbers (Ok (Unknown a e)) = 2 ∷ a ∷ e ∷ []
resolved_numbers (Err BadResolver) = 20 ∷ []
resolved_numbers (Err WrongLength) = 99 ∷ []

-- A record has the prefix p; it has none: a default.
unfoldable pub has_prefix : (text p : List ℕ) → NamespaceBinding → Bool
has_prefix text p b = same_bytes (prefix_in text b) p

unfoldable pub is_default : NamespaceBinding → Bool
is_default b = eqb b.prefix_len 0

-- a record that was found by its number counted from 1; 0 where there is none
abbrev pub counted : Option ℕ → ℕ
counted None = 0
counted (Some i) = suc i

-- a record's URI, as bounds in the text
abbrev pub bound_by : NamespaceBinding → ResolveResult
bound_by b = Bound (value_start b) (value_end b)

-- The URI of the record with this number, counted from 1; `other` where there is none, or its value is empty.
unfoldable pub value_or : (rows : ℕ → NamespaceBinding) → ResolveResult → ℕ → ResolveResult
value_or rows other zero = other
value_or rows other (suc i) = pick (eqb (rows i).value_len 0) other (bound_by (rows i))

-- An explicit prefix: the last record with it. With no record or an empty value it is Unknown, and an empty one always is.
-- It stands from 0 to its length.
unfoldable pub explicit_of : (text : List ℕ) (rows : ℕ → NamespaceBinding) (count : ℕ) (p : List ℕ) → ResolveResult
explicit_of text rows count p =
    pick (eqb (length p) 0) (Unknown 0 (length p))
    (value_or rows (Unknown 0 (length p)) (last_below (λ i. has_prefix text p (rows i)) count))

-- No prefix: the last default if wanted and not empty, else Unbound.
unfoldable pub default_of : (rows : ℕ → NamespaceBinding) (count : ℕ) → Bool → ResolveResult
default_of rows count wanted = pick wanted (value_or rows Unbound (last_below (λ i. is_default (rows i)) count)) Unbound

-- one or the other, in a table of the right form
unfoldable pub among_of : (text : List ℕ) (rows : ℕ → NamespaceBinding) (count : ℕ) (p : List ℕ) (explicit wanted : Bool) → ResolveResult
among_of text rows count p explicit wanted =
    pick explicit (explicit_of text rows count p) (default_of rows count wanted)

-- `resolve_prefix`: 20 comes first.
unfoldable pub resolve_prefix_of : (prefix : List ℕ) (explicit wanted : Bool) → NamespaceResolver → Resolved
resolve_prefix_of p explicit wanted x =
    pick (valid_of x) (Ok (among_of x.text (record_at x.records) x.head.count p explicit wanted)) (Err BadResolver)

-- `resolve`: a name splits at its first colon, and what stands before it is the explicit prefix. `resolve_element` wants the
-- default, `resolve_attribute` does not.
unfoldable pub resolve_of : (name : List ℕ) (wanted : Bool) → NamespaceResolver → Resolved
resolve_of name wanted x = resolve_prefix_of (prefix_of name) (has_colon name) wanted x

-- the URI: a part of the resolver's text
unfoldable pub uri_part : List ℕ → Resolved → List ℕ
uri_part text (Ok (Bound a e)) = inside text a e
uri_part text (Ok Unbound) = []
uri_part text (Ok (Unknown a e)) = []
uri_part text (Err why) = []

-- the prefix that is not known: a part of the name
unfoldable pub prefix_part : List ℕ → Resolved → List ℕ
prefix_part name (Ok (Bound a e)) = []
prefix_part name (Ok Unbound) = []
prefix_part name (Ok (Unknown a e)) = inside name a e
prefix_part name (Err why) = []

-- A lookup as an optional namespace: what is bound or not is one, and an unknown prefix is refusal 11 with the prefix.
unfoldable pub namespace_of : Resolved → Result (Option Namespace) LookupError
namespace_of (Ok (Bound a e)) = Ok (Some (record { start = a; end = e }))
namespace_of (Ok Unbound) = Ok None
namespace_of (Ok (Unknown a e)) = Err (UnknownPrefix a e)
namespace_of (Err why) = Err (Form why)

-- Its number in document 01, and its values. What is no refusal has 0, and 0 with the bounds of the URI.
unfoldable pub namespace_numbers : Result (Option Namespace) LookupError → List ℕ
namespace_numbers (Ok None) = 0 ∷ []
namespace_numbers (Ok (Some n)) = 0 ∷ n.start ∷ n.end ∷ []
namespace_numbers (Err (UnknownPrefix a e)) = 11 ∷ a ∷ e ∷ []
namespace_numbers (Err (Form BadResolver)) = 20 ∷ []
namespace_numbers (Err (Form WrongLength)) = 99 ∷ []
