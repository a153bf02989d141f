-- Document 01, "Well-formed tags": a chain of tags pushed on a fresh resolver, and what a name means inside it by
-- Namespaces 1.0, 6.1 and 6.2. The meaning is said of the tags' attributes alone, and of no table.
use Rattle.std.specs.Prelude.{ℕ, ◌≡◌, Bool, true, false, List, [], ◌∷◌, ◌++◌, length, take, Ok, Option, Some, None}
use Rattle.scan.specs.First.{pick}
use Rattle.scan.specs.Bytes.{bytes, same_bytes}
use Rattle.name.specs.Split.{colon_of}
use Rattle.name.specs.Reserved.{is_xml, is_xmlns, xml_uri, xmlns_uri}
use Rattle.name.specs.Verdict.{is_empty, verdict_of}
use Rattle.law_wellformed.specs.Grammar.{Attribute, Body, body_text, WellFormed, Distinct}
use Rattle.scope_table.specs.Table.{fresh_of}
use Rattle.scope_table.specs.Answer.{changed}
use Rattle.scope_table.specs.declared.Changed.{Changed}
use Rattle.scope_declare.specs.Declare.{limited_of}
use Rattle.scope_push.specs.Push.{push_of}
use Rattle.law_rows.specs.Seen.{Seen, bound, unbound, unknown}

-- A start tag: the bytes before its body, which are its name, and the body.
pub record Tag : Type 0 where
  pub name : List ℕ
  pub body : Body

-- A chain is a list of tags, the innermost first.

-- All of them pushed on a fresh resolver, the outermost first, whatever limit is set on it: what the last push answers
-- and leaves. The attributes of a tag begin where its name ends.
unfoldable pub pushed_of : (limit : ℕ) → List Tag → Changed
pushed_of limit [] = changed (Ok tt) (limited_of limit fresh_of)
pushed_of limit (t ∷ outer) = push_of (t.name ++ body_text t.body) (length t.name) (pushed_of limit outer).resolver

-- no push is refused
unfoldable pub NoneRefused : (limit : ℕ) → List Tag → Type 0
NoneRefused limit [] = Unit {0}
NoneRefused limit (t ∷ outer) = ((pushed_of limit (t ∷ outer)).answer ≡ Ok tt) × NoneRefused limit outer

-- Each declaration has a yes verdict: no attribute has a no.
unfoldable pub NoneNo : List Attribute → Type 0
NoneNo [] = Unit {0}
NoneNo (a ∷ more) = (verdict_of a.name a.value ≡ Some false → ⊥) × NoneNo more

-- A tag of the productions with distinct names, whose declarations Namespaces 1.0 allows.
pub record FineTag (t : Tag) : Type 0 where
  pub well_formed : WellFormed t.body
  pub distinct : Distinct t.body.attributes
  pub verdicts : NoneNo t.body.attributes

unfoldable pub FineTags : List Tag → Type 0
FineTags [] = Unit {0}
FineTags (t ∷ outer) = FineTag t × FineTags outer

-- The innermost declaration.

-- a value that is stated, or none
pub data Stated : Type 0 where
  gives : List ℕ → Stated
  nowhere : Stated

-- the first of two where it is stated, else the second
unfoldable pub or_else : Stated → Stated → Stated
or_else (gives v) other = gives v
or_else nowhere other = other

-- the value of the attribute of this name; names being distinct, there is one at most
unfoldable pub given_by : List ℕ → List Attribute → Stated
given_by n [] = nowhere
given_by n (a ∷ more) = pick (same_bytes a.name n) (gives a.value) (given_by n more)

-- the value that the innermost tag with such an attribute gives it
unfoldable pub innermost : List ℕ → List Tag → Stated
innermost n [] = nowhere
innermost n (t ∷ outer) = or_else (given_by n t.body.attributes) (innermost n outer)

-- `xmlns:` and a prefix declares that prefix, `xmlns` the default.
unfoldable pub declaring : List ℕ → List ℕ
declaring p = bytes "xmlns:" ++ p

unfoldable pub declaring_default : List ℕ
declaring_default = bytes "xmlns"

-- What a name means.

-- A prefixed name is bound to the value that the innermost tag which declares its prefix gives. Where no tag does, `xml`
-- and `xmlns` are bound to their own URIs, and any other prefix, an empty one too, is unknown.
unfoldable pub prefixed_by : List ℕ → Stated → Seen
prefixed_by p (gives v) = bound v
prefixed_by p nowhere = pick (is_xml p) (bound xml_uri) (pick (is_xmlns p) (bound xmlns_uri) (unknown p))

-- An unprefixed element has the innermost default, and is unbound if that is empty or absent.
unfoldable pub default_by : Stated → Seen
default_by (gives v) = pick (is_empty v) unbound (bound v)
default_by nowhere = unbound

-- The default is not for attributes: an unprefixed one is unbound.
unfoldable pub unprefixed : List Tag → (element : Bool) → Seen
unprefixed tags true = default_by (innermost declaring_default tags)
unprefixed tags false = unbound

-- A name splits at its first colon, its prefix standing before it.
unfoldable pub meant_by : List Tag → (name : List ℕ) (element : Bool) → Option ℕ → Seen
meant_by tags name element (Some c) = prefixed_by (take c name) (innermost (declaring (take c name)) tags)
meant_by tags name element None = unprefixed tags element

unfoldable pub meant_of : List Tag → (name : List ℕ) (element : Bool) → Seen
meant_of tags name element = meant_by tags name element (colon_of name)
