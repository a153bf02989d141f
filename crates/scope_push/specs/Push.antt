-- Document 01, "Scopes": what a tag leaves of a resolver. Its declarations are a list, whatever resolver they are added to,
-- and go in one after the other.
use Rattle.std.specs.Prelude.{ℕ, ◌+◌, ◌-◌, false, List, [], ◌∷◌, length, leb, Option, None, Some, Ok, Err}
use Rattle.scan.specs.First.{pick}
use Rattle.name.specs.declared.PrefixDeclaration.{PrefixDeclaration}
use Rattle.name.specs.Declares.{declares_of, declared_prefix}
use Rattle.tag_step.specs.declared.Span.{Span}
use Rattle.tag_step.specs.Answer.{Answer}
use Rattle.tag_step.specs.declared.Attr.TheVariants.{DoubleQ, SingleQ, Unquoted, Empty}
use Rattle.tag_step.specs.Next.{opened}
use Rattle.tag_step.specs.Run.{answers_of}
use Rattle.tag_parts.specs.Parts.{key_part, value_part}
use Rattle.scope_table.specs.Table.{DEEPEST, head_of, resolver_of, valid_of}
use Rattle.scope_table.specs.Answer.{is_done, changed}
use Rattle.scope_table.specs.declared.NamespaceResolver.{NamespaceResolver}
use Rattle.scope_table.specs.declared.Changed.{Changed}
use Rattle.scope_table.specs.declared.NamespaceError.TheVariants.{TooDeeplyNested, BadResolver}
use Rattle.scope_change.specs.Change.{whole}
use Rattle.scope_change.specs.declared.Room.{Room}
use Rattle.scope_declare.specs.Declare.{places_of, declare_of}
use Rattle.scope_declare.specs.declared.Places.{Places}
use Rattle.scope_push.specs.declared.Bounds.{Bounds}

-- what a name declares, with its value, and where both stand in the tag
pub record Declaration : Type 0 where
  pub kind : Option PrefixDeclaration
  pub prefix : List ℕ
  pub value : List ℕ
  pub at : Places

-- An attribute as a declaration; a key that declares nothing is one that adds nothing. The prefix is the end of the key, so
-- it ends where the key does.
unfoldable pub declaration_of : (key value : List ℕ) → Span → Span → Declaration
declaration_of key value k v =
    record {
      kind = declares_of key;
      prefix = declared_prefix key;
      value = value;
      at = places_of (k.end - length (declared_prefix key)) k.end v.start v.end;
    }

-- where the key and the value of an answer stand that is an attribute in quotes
abbrev pub bounds : Span → Span → Bounds
bounds k v = record { key = k; value = v }

unfoldable pub quoted_of : Answer → Option Bounds
quoted_of None = None
quoted_of (Some (Ok (DoubleQ k v))) = Some (bounds k v)
quoted_of (Some (Ok (SingleQ k v))) = Some (bounds k v)
quoted_of (Some (Ok (Unquoted k v))) = None
quoted_of (Some (Ok (Empty k))) = None
quoted_of (Some (Err e)) = None

-- One answer of the iterator before those that follow: an attribute, which in XML mode has quotes, or what stops the reading.
unfoldable pub declaration_then : (tag : List ℕ) → Answer → List Declaration → List Declaration
declaration_then s (Some (Ok (DoubleQ k v))) more = declaration_of (key_part s (Some (Ok (DoubleQ k v)))) (value_part s (Some (Ok (DoubleQ k v)))) k v ∷ more
declaration_then s (Some (Ok (SingleQ k v))) more = declaration_of (key_part s (Some (Ok (SingleQ k v)))) (value_part s (Some (Ok (SingleQ k v)))) k v ∷ more
declaration_then s (Some (Ok (Unquoted k v))) more = []
declaration_then s (Some (Ok (Empty k))) more = []
declaration_then s None more = []
declaration_then s (Some (Err e)) more = []

-- The declarations of a tag, given the answers of its iterator: those before the first refusal, which stops with success.
unfoldable pub declarations_of : (tag : List ℕ) → List Answer → List Declaration
declarations_of s [] = []
declarations_of s (a ∷ more) = declaration_then s a (declarations_of s more)

-- the answers of the tag s from the place where its attributes begin: XML mode, checks off
unfoldable pub tag_answers : (tag : List ℕ) (from : ℕ) → List Answer
tag_answers s from = answers_of s (opened from false false)

-- its declarations
abbrev pub tag_declarations : (tag : List ℕ) (from : ℕ) → List Declaration
tag_declarations s from = declarations_of s (tag_answers s from)

-- one of them on a resolver
abbrev pub declare_one : Room → Declaration → NamespaceResolver → Changed
declare_one room d = declare_of room d.kind d.prefix d.value d.at

-- where a refusal of `add` stops, and else what comes next
unfoldable pub then_of : Changed → (NamespaceResolver → Changed) → Changed
then_of c next = pick (is_done c.answer) (next c.resolver) c

-- One after the other. A refusal of `add` is returned with what went in before it.
unfoldable pub declare_all : Room → List Declaration → NamespaceResolver → Changed
declare_all room [] x = changed (Ok tt) x
declare_all room (d ∷ more) x = then_of (declare_one room d x) (declare_all room more)

-- `push` raises the level.
unfoldable pub raised_of : NamespaceResolver → NamespaceResolver
raised_of x =
    let h = x.head in
    resolver_of x.text x.records (head_of h.used h.count (h.level + 1) h.limit)

-- `push`: 20, then 17, which change nothing; then the level rises, and each declaration is added from left to right.
unfoldable pub push_of : (tag : List ℕ) (from : ℕ) → NamespaceResolver → Changed
push_of s from x =
    pick (valid_of x)
    (pick (leb DEEPEST x.head.level) (changed (Err (TooDeeplyNested DEEPEST)) x)
    (declare_all whole (tag_declarations s from) (raised_of x)))
    (changed (Err BadResolver) x)
