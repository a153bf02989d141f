-- What a name declares when an attribute has it.
use Rattle.std.specs.Prelude.{ℕ, Bool, List, [], length, take, drop, Option, Some, None}
use Rattle.scan.specs.First.{pick}
use Rattle.scan.specs.Bytes.{bytes, same_bytes}
use Rattle.name.specs.Reserved.{is_xmlns}
use Rattle.name.specs.declared.PrefixDeclaration.{PrefixDeclaration}
use Rattle.name.specs.declared.PrefixDeclaration.TheVariants.{Default, Named}

-- what a named declaration begins with
unfoldable pub opening : List ℕ
opening = bytes "xmlns:"

-- whether a name begins so
unfoldable pub is_named : List ℕ → Bool
is_named name = same_bytes (take (length opening) name) opening

-- `xmlns` declares the default; `xmlns:` and anything after it declares that text as prefix, an empty one too; any other
-- name declares nothing.
unfoldable pub declares_of : List ℕ → Option PrefixDeclaration
declares_of name = pick (is_xmlns name) (Some Default) (pick (is_named name) (Some Named) None)

-- the text after `xmlns:`, and no bytes where the name does not begin so
unfoldable pub declared_prefix : List ℕ → List ℕ
declared_prefix name = pick (is_named name) (drop (length opening) name) []

-- the number of each answer
abbrev pub declares_number : Option PrefixDeclaration → ℕ
declares_number None = 0
declares_number (Some Default) = 1
declares_number (Some Named) = 2
