-- The text of numbers and of answers: how long it can be, and that the five numbers of an answer give its line.
use Prim.Native.Nat.{ℕ, zero, suc, ◌+◌, ◌-◌, ◌*◌, ◌/◌, ◌^◌, ◌≤◌, ◌<◌}
use mathlib.Core.Path.{◌≡◌, refl, ap, ◌∙◌}
use mathlib.Core.Bool.{Bool, true, false}
use mathlib.Core.List.{List, [], ◌∷◌, ◌++◌}
use native.Mathlib.Nat.{pow-le-pow_right}
use native.Mathlib.Numerals.{add-one}
use native.Mathlib.Omega.{arith}
use lib.ListN.{length, take, drop, get_or, set, length-append, length-set, length-take, length-drop}
use lib.Seq.{drop-cons, drop-length, take_at, drop_at}
use lib.Dec.{eqb, ltb, leb}
use borrow.Author.Tests.{lt-ltb, le-ltb, leb-true, leb-false}
use Rattle.scan.specs.Lists.{over}
use Rattle.io.specs.Digits.{last_digits, IsDigitCount}
use Rattle.scan.proofs.Laws.{IsFirst, to_first, first_only, picks}
use Rattle.lines.proofs.Parts.{Part, part_first, part_byte, part_next, part_last}
use Rattle.lines.specs.Lines.{digit_count, decimal_of, spaced, letter_of, shown_from, line_of, values_of, own_of, five_lines, lines_in}

-- Numbers.

pub digits_length : (b k n : ℕ) → length (last_digits b k n) ≡ k
digits_length b zero n = refl
digits_length b (suc k) n = length-append (last_digits b k (n / b)) _ ∙ rw (digits_length b k (n / b)) (add-one k)

places_first : (n : ℕ) → IsFirst (λ k. ltb n (10 ^ k)) 1 20 (digit_count n)
unfolding digit_count
places_first n = to_first (λ k. ltb n (10 ^ k)) 1 20 (omega arith)

pub decimal_length : (n : ℕ) → length (decimal_of n) ≤ 20
unfolding decimal_of
decimal_length n = omega (arith, digits_length 10 (digit_count n) n, (places_first n).inside)

-- the fewest places that hold a number of 64 bits are those of the definition
module _ (n k : ℕ) (f : IsDigitCount 10 1 n k) (fits : n < 2 ^ 64) where
  small : k ≤ 20
  small = by (leb k 20) refl where
    by : (t : Bool) → leb k 20 ≡ t → k ≤ 20
    by true e = leb-true k 20 e
    by false e =
        let big : 20 < k = leb-false k 20 e in
        let low : 10 ^ (k - 1) ≤ n = f.2 (omega arith) in
        let up : 10 ^ 20 ≤ 10 ^ (k - 1) = pow-le-pow_right {n = 10} (omega arith) {i = 20} {j = k - 1} (omega arith) in
        absurd (omega arith)

  fewer : (j : ℕ) → 1 ≤ j → j < k → ltb n (10 ^ j) ≡ false
  fewer j a b =
      let low : 10 ^ (k - 1) ≤ n = f.2 (omega (arith, f.0)) in
      let up : 10 ^ j ≤ 10 ^ (k - 1) = pow-le-pow_right {n = 10} (omega arith) {i = j} {j = k - 1} (omega arith) in
      le-ltb n (10 ^ j) (omega arith)

  pub places_are : k ≡ digit_count n
  places_are =
      first_only (λ k. ltb n (10 ^ k)) 1 20 k (digit_count n)
      (record { ahead = f.0; inside = small; found = λ _. lt-ltb n (10 ^ k) f.1; before = fewer })
      (places_first n)

  pub digits_are : last_digits 10 k n ≡ decimal_of n
  unfolding decimal_of
  digits_are = ap (λ (p : ℕ). last_digits 10 p n) places_are

-- the next number
pub spaced_next : (ns : List ℕ) (i : ℕ) → i < length ns → spaced (drop i ns) ≡ 32 ∷ (decimal_of (get_or ns i 0) ++ spaced (drop (i + 1) ns))
unfolding spaced
spaced_next ns i h = rw (add-one, drop-cons ns i 0 h)

pub spaced_end : (ns : List ℕ) (i : ℕ) → i ≡ length ns → spaced (drop i ns) ≡ []
unfolding spaced
spaced_end ns i e = rw (e, drop-length ns)

pub spaced_length : (ns : List ℕ) → length (spaced ns) ≤ 21 * length ns
unfolding spaced
spaced_length [] = omega arith
spaced_length (n ∷ more) = omega (arith, decimal_length n, spaced_length more, length-append (decimal_of n) (spaced more))

-- Lines.

pub from_small : (code : ℕ) → shown_from code ≤ 1
unfolding shown_from
from_small code = picks (λ (k : ℕ). k ≤ 1) (ltb 100 code) (λ _. omega arith) (λ _. omega arith)

abbrev few : ℕ → Type 0
few k = k ≤ 4

pub values_few : (code : ℕ) → values_of code ≤ 4
unfolding values_of
values_few code =
    picks few (eqb code 0) (λ _. omega arith) (λ _.
    picks few (eqb code 7) (λ _. omega arith) (λ _.
    picks few (eqb code 4) (λ _. omega arith) (λ _.
    picks few (eqb code 5) (λ _. omega arith) (λ _.
    picks few (eqb code 104) (λ _. omega arith) (λ _.
    picks few (ltb code 7) (λ _. omega arith) (λ _. omega arith))))))

pub drop_take : (n m : ℕ) (l : List ℕ) → drop n (take m l) ≡ take (m - n) (drop n l)
drop_take zero m l =
    let e : m - 0 ≡ m = omega arith in
    rw e
drop_take (suc n) zero l =
    let e : 0 - suc n ≡ 0 = omega arith in
    rw e
drop_take (suc n) (suc m) [] = take_none (suc m - suc n) where
  take_none : (k : ℕ) → ◌≡◌ {A = List ℕ} [] (take k [])
  take_none zero = refl
  take_none (suc k) = refl
drop_take (suc n) (suc m) (x ∷ l) =
    let e : suc m - suc n ≡ m - n = omega arith in
    rw e (drop_take n m l)

-- the code's parts of five numbers make the line
module _ (five : List ℕ) (h : length five ≡ 5) where
  own_code : get_or (own_of five) 0 0 ≡ get_or five 0 0
  unfolding own_of
  own_code = by five h where
    by : (l : List ℕ) → length l ≡ 5 → get_or (take (suc (values_of (get_or l 0 0))) l) 0 0 ≡ get_or l 0 0
    by [] e = refl
    by (x ∷ l) e = refl

  shown : drop (shown_from (get_or five 0 0)) (own_of five) ≡ take (1 + values_of (get_or five 0 0) - shown_from (get_or five 0 0)) (drop (shown_from (get_or five 0 0)) five)
  unfolding own_of
  shown =
      let e : suc (values_of (get_or five 0 0)) ≡ 1 + values_of (get_or five 0 0) = omega arith in
      rw e (drop_take (shown_from (get_or five 0 0)) (1 + values_of (get_or five 0 0)) five)

  pub line_parts : line_of (own_of five) ≡ letter_of (get_or five 0 0) ∷ (spaced (take (1 + values_of (get_or five 0 0) - shown_from (get_or five 0 0)) (drop (shown_from (get_or five 0 0)) five)) ++ (10 ∷ []))
  unfolding line_of
  line_parts = rw own_code (ap (λ (l : List ℕ). letter_of (get_or five 0 0) ∷ (spaced l ++ (10 ∷ []))) shown)

  pub line_length : length (line_of (own_of five)) ≤ 107
  line_length =
      let code : ℕ = get_or five 0 0 in
      let shown : List ℕ = take (1 + values_of code - shown_from code) (drop (shown_from code) five) in
      rw line_parts (omega (arith, length-append (spaced shown) (10 ∷ []), spaced_length shown, length-take (1 + values_of code - shown_from code) (drop (shown_from code) five), length-drop (shown_from code) five))

-- what the code stores is the line
pub record LinePut (five out : List ℕ) (at end : ℕ) (text : List ℕ) : Type 0 where
  pub inside : end < length text
  pub size : length text ≡ length out
  pub many : end + 1 ≡ at + length (line_of (own_of five))
  pub line : set text end 10 ≡ over out at (line_of (own_of five))

pub part_few : (n m : ℕ) (five : List ℕ) → length five ≡ 5 → length (take n (drop m five)) ≤ 5
part_few n m five h = omega (arith, length-take n (drop m five), length-drop m five)

pub line_put : (five out : List ℕ) (at : ℕ) {letter from values end : ℕ} {text : List ℕ} → length five ≡ 5 → at + 107 ≤ length out → letter ≡ letter_of (get_or five 0 0) → from ≡ shown_from (get_or five 0 0) → values ≡ values_of (get_or five 0 0) → end ≡ at + 1 + length (spaced (take (1 + values - from) (drop from five))) → text ≡ over (set out at letter) (at + 1) (spaced (take (1 + values - from) (drop from five))) → LinePut five out at end text
line_put five out at {letter} {from} {values} {end} {text} h room el ef ev ee et =
    let shown : List ℕ = take (1 + values - from) (drop from five) in
    let small = spaced_length shown in
    let few = part_few (1 + values - from) from five h in
    let size = length-set out at letter in
    let e : line_of (own_of five) ≡ letter ∷ (spaced shown ++ (10 ∷ [])) = rw (el, ef, ev) (line_parts five h) in
    let p = part_byte out at letter (spaced shown ++ (10 ∷ [])) (omega arith) (part_first out at (letter ∷ (spaced shown ++ (10 ∷ [])))) in
    let q = part_next (set out at letter) (at + 1) (spaced shown) (10 ∷ []) (omega arith) p in
    let q' : Part out at (letter ∷ (spaced shown ++ (10 ∷ []))) text end (10 ∷ []) = rw (et, ee) q in
    let inside : end < length text = omega (arith, q'.size) in
    let z = part_last (set text end 10) (end + 1) (part_byte text end 10 [] inside q') in
    record { inside = inside; size = q'.size; many = rw e z.0; line = rw e z.1 }

-- the first five numbers, and their line
pub lines_next : (ns five rest : List ℕ) → ns ≡ five ++ rest → length five ≡ 5 → (length ns / 5 ≡ length rest / 5 + 1) × (five_lines (length ns / 5) ns ≡ line_of (own_of five) ++ five_lines (length rest / 5) rest)
unfolding five_lines
lines_next ns five rest e h =
    let n : length ns / 5 ≡ suc (length rest / 5) = omega (arith, ap length e, length-append five rest) in
    (omega arith, rw (n, e, take_at five rest 5 h, drop_at five rest 5 h))

pub lines_none : (ns : List ℕ) → length ns < 5 → five_lines (length ns / 5) ns ≡ []
unfolding five_lines
lines_none ns h =
    let e : length ns / 5 ≡ 0 = omega arith in
    rw e

-- room for every line, and not
pub lines_room : (ns out : List ℕ) → length ns / 5 ≤ length out / 107 → lines_in ns out ≡ five_lines (length ns / 5) ns
unfolding lines_in
lines_room ns out h = rw (le-ltb (length out / 107) (length ns / 5) h)

pub lines_short : (ns out : List ℕ) → length out / 107 < length ns / 5 → lines_in ns out ≡ []
unfolding lines_in
lines_short ns out h = rw (lt-ltb (length out / 107) (length ns / 5) h)
