-- What the value of an attribute stands for by XML 1.0, 3.3.3, and the values that stand for themselves. Document 01 asks
-- of a chain's declarations that their values be such, for the crate compares values as they are written.
use Rattle.std.specs.Prelude.{ℕ, Bool, not, List, [], ◌∷◌, ◌++◌}
use Rattle.scan.specs.First.{pick}
use Rattle.scan.specs.Bytes.{is_space}
use Rattle.law_wellformed.specs.Grammar.{each, one_of, Piece, byte, entity, decimal, hex}

-- without `&`, tab or line end
unfoldable pub is_plain : List ℕ → Bool
is_plain v = each (λ b. not (one_of "&\t\r\n" b)) v

-- Whitespace stands for a blank, any other byte for itself, and a reference for what it refers to, whatever that is.
unfoldable pub meaning_of : (refers : Piece → List ℕ) → List Piece → List ℕ
meaning_of refers [] = []
meaning_of refers (byte b ∷ more) = pick (is_space b) 0x20 b ∷ meaning_of refers more
meaning_of refers (entity name ∷ more) = refers (entity name) ++ meaning_of refers more
meaning_of refers (decimal ds ∷ more) = refers (decimal ds) ++ meaning_of refers more
meaning_of refers (hex ds ∷ more) = refers (hex ds) ++ meaning_of refers more
