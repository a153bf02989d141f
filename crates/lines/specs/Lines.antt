-- Answers as text: document 01, "Program `attrs`". A line for each: D or S with four bounds, or E with the refusal's number
-- and its numbers in table order; a blank before each number, a line feed at the end. HTML mode, which `attrs` does not
-- read, adds U with four bounds, and B for a bare key with its two.
use Rattle.std.specs.Prelude.{ℕ, zero, suc, ◌/◌, ◌^◌, List, [], ◌∷◌, ◌++◌, length, take, drop, get_or, eqb, ltb}
use Rattle.io.specs.Digits.{last_digits}
use Rattle.scan.specs.First.{pick, first_to}
use Rattle.tag_step.specs.Answer.{Answer}
use Rattle.tag_step.specs.Numbers.{numbers_of}

-- how many decimal digits a number has: the fewest that hold it, and at least one; none of 64 bits has more than 20
unfoldable pub digit_count : ℕ → ℕ
digit_count n = first_to (λ k. ltb n (10 ^ k)) 1 20

unfoldable pub decimal_of : ℕ → List ℕ
decimal_of n = last_digits 10 (digit_count n) n

-- numbers, a blank (32) before each
unfoldable pub spaced : List ℕ → List ℕ
spaced [] = []
spaced (n ∷ more) = (32 ∷ decimal_of n) ++ spaced more

-- the letter for a number of `numbers_of`: D, S, U, B, and E for every refusal
unfoldable pub letter_of : ℕ → ℕ
letter_of code =
    pick (eqb code 101) 68 (pick (eqb code 102) 83 (pick (eqb code 103) 85 (pick (eqb code 104) 66 69)))

-- where what is shown begins: a refusal shows its number too, an attribute only its bounds
unfoldable pub shown_from : ℕ → ℕ
shown_from code = pick (ltb 100 code) 1 0

-- the line of an answer's numbers, with a line feed (10)
unfoldable pub line_of : List ℕ → List ℕ
line_of ns = letter_of (get_or ns 0 0) ∷ (spaced (drop (shown_from (get_or ns 0 0)) ns) ++ (10 ∷ []))

unfoldable pub lines_of : List Answer → List ℕ
lines_of [] = []
lines_of (a ∷ more) = line_of (numbers_of a) ++ lines_of more

-- The same from the five numbers that a batch writes for each answer, of which the last may be zeros that say nothing.

-- how many values a number of `numbers_of` has (`own_numbers`, proofs/Pages)
unfoldable pub values_of : ℕ → ℕ
values_of code =
    pick (eqb code 0) 0
    (pick (eqb code 7) 0
    (pick (eqb code 4) 2
    (pick (eqb code 5) 2
    (pick (eqb code 104) 2
    (pick (ltb code 7) 1 4)))))

unfoldable pub own_of : List ℕ → List ℕ
own_of five = take (suc (values_of (get_or five 0 0))) five

-- the lines of the first n fives (`fives_text`, proofs/Pages)
unfoldable pub five_lines : ℕ → List ℕ → List ℕ
five_lines zero ns = []
five_lines (suc n) ns = line_of (own_of (take 5 ns)) ++ five_lines n (drop 5 ns)

-- the lines of all of them; none where the text has not 107 bytes for each, which every line fits
unfoldable pub lines_in : List ℕ → List ℕ → List ℕ
lines_in ns out = pick (ltb (length out / 107) (length ns / 5)) [] (five_lines (length ns / 5) ns)
