-- Document 01, "Scopes": what a declaration adds to a resolver, how its level is set, and its limit.
use Rattle.std.specs.Prelude.{ℕ, ◌-◌, List, length, take, Ok, Err, true, false, Bool, Option, Some, None, Result}
use Rattle.scan.specs.First.{pick}
use Rattle.name.specs.Bind.{reserved_bind}
use Rattle.name.specs.declared.PrefixDeclaration.{PrefixDeclaration}
use Rattle.name.specs.declared.PrefixDeclaration.TheVariants.{Default, Named}
use Rattle.name.specs.declared.ReservedBinding.{ReservedBinding}
use Rattle.name.specs.declared.ReservedBinding.TheVariants as Check
use Rattle.scope_table.specs.Table.{head_of, resolver_of, valid_of}
use Rattle.scope_table.specs.Answer.{changed}
use Rattle.scope_table.specs.declared.NamespaceResolver.{NamespaceResolver}
use Rattle.scope_table.specs.declared.Changed.{Changed}
use Rattle.scope_table.specs.declared.NamespaceError.{NamespaceError}
use Rattle.scope_table.specs.declared.NamespaceError.TheVariants.{InvalidXmlPrefixBind, InvalidXmlnsPrefixBind, InvalidPrefixForXml, InvalidPrefixForXmlns, BadResolver}
use Rattle.scope_change.specs.Change.{whole, append_of, level_of}
use Rattle.scope_change.specs.declared.Room.{Room}
use Rattle.scope_declare.specs.declared.Places.{Places}

-- What a declaration comes to, whatever the resolver holds: a refusal, or so many bytes of the prefix to be bound, if any.
abbrev pub Judged : Type 0
Judged = Result (Option ℕ) NamespaceError

-- where a prefix and a value stand in the caller's own bytes
abbrev pub places_of : (prefixStart prefixEnd value_start value_end : ℕ) → Places
places_of prefixStart prefixEnd value_start value_end =
    record {
      prefix_start = prefixStart;
      prefix_end = prefixEnd;
      value_start = value_start;
      value_end = value_end;
    }

-- A named prefix: 12 and 13 hold the value, 14 and 15 the prefix; `xml` bound to its own URI adds nothing, whatever the
-- limit; else the binding is to be added, under the whole prefix. An empty one is a default binding from here on.
unfoldable pub named_of : Result Bool ReservedBinding → (prefix : List ℕ) → Places → Judged
named_of (Ok true) p at = Ok (Some (length p))
named_of (Ok false) p at = Ok None
named_of (Err Check.InvalidXmlPrefixBind) p at = Err (InvalidXmlPrefixBind at.value_start at.value_end)
named_of (Err Check.InvalidXmlnsPrefixBind) p at = Err (InvalidXmlnsPrefixBind at.value_start at.value_end)
named_of (Err Check.InvalidPrefixForXml) p at = Err (InvalidPrefixForXml at.prefix_start at.prefix_end)
named_of (Err Check.InvalidPrefixForXmlns) p at = Err (InvalidPrefixForXmlns at.prefix_start at.prefix_end)

-- What the prefix and the value of a declaration say, whatever the resolver holds: 12 to 15 for a named prefix, nothing
-- for a default, which is added with no prefix. A name that declares nothing adds nothing.
unfoldable pub judge_of : Option PrefixDeclaration → (prefix value : List ℕ) → Places → Judged
judge_of None p v at = Ok None
judge_of (Some Default) p v at = Ok (Some 0)
judge_of (Some Named) p v at = named_of (reserved_bind p v) p at

-- Only what is to be added comes to 16, 18, 19.
unfoldable pub settle_of : Room → Judged → (prefix value : List ℕ) → NamespaceResolver → Changed
settle_of room (Ok None) p v x = changed (Ok tt) x
settle_of room (Err e) p v x = changed (Err e) x
settle_of room (Ok (Some n)) p v x = append_of room (take n p) v x

-- A declaration on a resolver of the right form: 12 to 15, then 16, 18, 19, and else one binding more.
unfoldable pub declare_of : Room → Option PrefixDeclaration → (prefix value : List ℕ) → Places → NamespaceResolver → Changed
declare_of room d p v at x = settle_of room (judge_of d p v at) p v x

-- the whole of a prefix and of a value
abbrev pub wholly : (prefix value : List ℕ) → Places
wholly p v = places_of 0 (length p) 0 (length v)

-- `add`: 20 comes first. What 12 to 15 hold is the whole of its argument.
unfoldable pub add_of : Option PrefixDeclaration → (prefix value : List ℕ) → NamespaceResolver → Changed
add_of d p v x = pick (valid_of x) (declare_of whole d p v (wholly p v) x) (changed (Err BadResolver) x)

-- `pop` sets one level lower, from 0 to 0.
unfoldable pub pop_of : NamespaceResolver → Changed
pop_of x = level_of (x.head.level - 1) x

-- The limit may be set to any number, and drops nothing. Neither this nor reading it or the level comes to 20.
unfoldable pub limited_of : (limit : ℕ) → NamespaceResolver → NamespaceResolver
limited_of limit x =
    let h = x.head in
    resolver_of x.text x.records (head_of h.used h.count h.level limit)
