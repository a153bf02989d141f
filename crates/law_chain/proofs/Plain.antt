-- A value without `&`, tab or line end stands for itself, so what `innermost_declares` says of values as they are
-- written it says of what they stand for.
use Prim.Native.Nat.{ℕ}
use mathlib.Core.Path.{◌≡◌, refl, sym}
use mathlib.Core.Bool.{Bool, true, false, not, ◌||◌, false≢true}
use mathlib.Core.List.{List, [], ◌∷◌}
use lib.Dec.{eqb}
use borrow.Author.Tests.{eqb-true}
use Rattle.scan.specs.First.{pick}
use Rattle.scan.specs.Bytes.{is_space, bytes, bytes_from}
use Rattle.law_wellformed.specs.Grammar.{each, is_in, one_of, Piece, byte, entity, decimal, hex, piece_text, value_text}
use Rattle.scope_table.proofs.Lists.{and_left, and_right}
use Rattle.law_chain.specs.Plain.{is_plain, meaning_of}

-- a byte by the tests of the blank, the tab and the line ends
by_tests : (b : ℕ) (blank amp tab cr lf : Bool) → eqb b 32 ≡ blank → not (amp || (tab || (cr || (lf || false)))) ≡ true → pick (blank || (tab || (cr || lf))) 32 b ≡ b
by_tests b true amp tab cr lf e h = sym (eqb-true b 32 e)
by_tests b false true tab cr lf e h = absurd (false≢true h)
by_tests b false false true cr lf e h = absurd (false≢true h)
by_tests b false false false true lf e h = absurd (false≢true h)
by_tests b false false false false true e h = absurd (false≢true h)
by_tests b false false false false false e h = refl

byte_stands : (b : ℕ) → not (one_of "&\t\r\n" b) ≡ true → pick (is_space b) 32 b ≡ b
unfolding is_space one_of is_in bytes bytes_from
byte_stands b h = by_tests b (eqb b 32) (eqb b 38) (eqb b 9) (eqb b 13) (eqb b 10) refl h

pub plain_stands : (refers : Piece → List ℕ) (pieces : List Piece) → is_plain (value_text pieces) ≡ true → meaning_of refers pieces ≡ value_text pieces
unfolding is_plain meaning_of value_text piece_text each one_of is_in bytes bytes_from
plain_stands refers [] h = refl
plain_stands refers (byte b ∷ more) h =
    let plain : ℕ → Bool = λ c. not (one_of "&\t\r\n" c) in
    rw (byte_stands b (and_left (plain b) (each plain (value_text more)) h), plain_stands refers more (and_right (plain b) (each plain (value_text more)) h))
plain_stands refers (entity name ∷ more) h = absurd (false≢true h)
plain_stands refers (decimal ds ∷ more) h = absurd (false≢true h)
plain_stands refers (hex ds ∷ more) h = absurd (false≢true h)
