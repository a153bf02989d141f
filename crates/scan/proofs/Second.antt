-- The second place of a byte. A word's marks are 128 at each equal byte and 0 at the others; with one mark alone m and m - 1 have no
-- bit in common, and a word whose upper bytes are shifted down to 0 has no mark among them.
use Prim.Native.Nat.{ℕ, zero, suc, ◌+◌, ◌-◌, ◌*◌, ◌/◌, ◌^◌, ◌≤◌, ◌<◌}
use mathlib.Core.Path.{◌≡◌, refl, sym, ap, ◌∙◌}
use mathlib.Core.Bool.{Bool, true, false, true≢false}
use mathlib.Core.List.{List}
use native.Mathlib.Omega.{arith}
use Rattle.std.proofs.Common.{Fits, w8}
use lib.Bits.{bit_and, bit_xor, and_block, and_self, xor_lt}
use lib.Pow.{shr-shr}
use lib.Dec.{eqb}
use lib.ListN.{length, get_or}
use borrow.Author.Tests.{eqb-true, eqb-false, eq-eqb, ne_eqb, lt-ltb, le-ltb}
use lib.Count.{count_trailing_zeros}
use Rattle.scan.specs.First.{pick, first_to, first_from, second_in, twice_in}
use Rattle.scan.specs.declared.Twice.{Twice}
use Rattle.scan.specs.Bytes.{is_byte}
use Rattle.scan.specs.Word.{word_of, repeated, mark_of, zero_marks}
use Rattle.scan.proofs.Laws.{first, skip, past}
use Rattle.scan.proofs.Marks.{z, z_step, byte_zero, byte_other, xor_rep, xor_same, xor_zero, word_first, word_hit, word_miss}

-- one byte's mark
byte_mark : (a : ℕ) → a < 256 → zero_marks a 127 255 128 ≡ pick (eqb a 0) 128 0
byte_mark zero l = byte_zero
byte_mark (suc a) l = byte_other a (omega arith) ∙ rw (ne_eqb (suc a) 0 (λ h. omega arith))

mark_byte : (a b : ℕ) → a < 256 → b < 256 → zero_marks (bit_xor a b) 127 255 128 ≡ mark_of b a
unfolding mark_of is_byte
mark_byte a b la lb = byte_mark (bit_xor a b) (xor_lt 8 a b la lb) ∙ ap (λ (t : Bool). pick t 128 0) (by (eqb a b) refl) where
  by : (t : Bool) → eqb a b ≡ t → eqb (bit_xor a b) 0 ≡ eqb a b
  by true e = eq-eqb (bit_xor a b) 0 (xor_zero a b (eqb-true a b e)) ∙ sym e
  by false e = ne_eqb (bit_xor a b) 0 (λ h. eqb-false a b e (xor_same a b h)) ∙ sym e

module _ (f : ℕ → ℕ) (b : ℕ) (small : (k : ℕ) → f k < 256) (lt : b < 256) where
  z_word : (n i : ℕ) → z n (word_of (λ k. bit_xor (f k) b) n i) ≡ word_of (λ k. mark_of b (f k)) n i
  unfolding z zero_marks repeated word_of
  z_word zero i = refl
  z_word (suc n) i =
      z_step n (word_of (λ k. bit_xor (f k) b) n (suc i)) (bit_xor (f i) b) (xor_lt 8 (f i) b (small i) lt)
      ∙ rw (z_word n (suc i), mark_byte (f i) b (small i) lt)

  -- the marks of a word, with the code's own numbers
  pub word_marks : (i : ℕ) → zero_marks (bit_xor (word_of f 8 i) (b * 72340172838076673)) 9187201950435737471 18446744073709551615 9259542123273814144 ≡ word_of (λ k. mark_of b (f k)) 8 i
  unfolding z repeated
  word_marks i =
      let r : b * 72340172838076673 ≡ repeated 8 b = omega arith in
      ap (λ (t : ℕ). zero_marks t 9187201950435737471 18446744073709551615 9259542123273814144) (rw r (xor_rep f b small lt 8 i))
      ∙ z_word 8 i

  -- and how many bytes stand before the first of them
  pub marked_first : (w r i : ℕ) → w ≡ word_of (λ k. mark_of b (f k)) 8 i → r ≡ count_trailing_zeros 64 w / 8 → i + r ≡ first_to (λ k. is_byte b (f k)) i (i + 8)
  marked_first w r i e h = ap (λ (x : ℕ). i + x) (h ∙ ap (λ (x : ℕ). count_trailing_zeros 64 x / 8) (e ∙ sym (word_marks i))) ∙ word_first f b small lt i

positive : (n : ℕ) → (n ≡ 0 → ⊥) → 0 < n
positive n h = omega (arith, h)

-- Of the n marks from i on.
module _ (f : ℕ → ℕ) (b : ℕ) where
  abbrev mark : ℕ → ℕ
  mark k = mark_of b (f k)

  mark_true : (k : ℕ) → is_byte b (f k) ≡ true → mark k ≡ 128
  unfolding mark_of
  mark_true k e = rw e

  mark_small : (k : ℕ) → mark k < 256
  unfolding mark_of
  mark_small k = by (is_byte b (f k)) where
    by : (t : Bool) → pick t 128 0 < 256
    by true = omega arith
    by false = omega arith

  -- with no mark a byte is none of them
  mark_none : (k : ℕ) → mark k ≡ 0 → is_byte b (f k) ≡ false
  unfolding mark_of
  mark_none k = by (is_byte b (f k)) where
    by : (t : Bool) → ◌≡◌ {A = ℕ} (pick t 128 0) 0 → t ≡ false
    by true e = absurd (omega arith)
    by false e = refl

  -- a word of marks that is 0 has none
  marks_none : (n i j : ℕ) → word_of mark n i ≡ 0 → j < n → is_byte b (f (i + j)) ≡ false
  unfolding word_of
  marks_none zero i j e l = absurd (omega arith)
  marks_none (suc n) i zero e l = ap (λ (k : ℕ). is_byte b (f k)) (omega arith) ∙ mark_none i (omega arith)
  marks_none (suc n) i (suc j) e l = ap (λ (k : ℕ). is_byte b (f k)) (omega arith) ∙ marks_none n (suc i) j (omega arith) (omega arith)

  -- one that has some is not 0
  marks_some : (n i a : ℕ) → a < n → is_byte b (f (i + a)) ≡ true → 0 < word_of mark n i
  marks_some n i a l e = by (eqb (word_of mark n i) 0) refl where
    by : (t : Bool) → eqb (word_of mark n i) 0 ≡ t → 0 < word_of mark n i
    by true z = absurd (true≢false (sym e ∙ marks_none n i a (eqb-true (word_of mark n i) 0 z) l))
    by false z = positive (word_of mark n i) (eqb-false (word_of mark n i) 0 z)

  -- where m and m - 1 have no bit in common, nothing is marked behind a mark
  lone_here : (v : ℕ) → bit_and (v * 256 + 128) (v * 256 + 128 - 1) ≡ 0 → v ≡ 0
  lone_here v e =
      let p : v * 256 + 128 - 1 ≡ v * 256 + 127 = omega arith in
      let q = and_block 8 v v 128 127 (omega arith) (omega arith) in
      omega (arith, and_self v, sym q ∙ ap (bit_and (v * 256 + 128)) (sym p) ∙ e)

  lone_later : (v : ℕ) → 0 < v → bit_and (v * 256 + 0) (v * 256 + 0 - 1) ≡ 0 → bit_and v (v - 1) ≡ 0
  lone_later v l e =
      let p : v * 256 + 0 - 1 ≡ (v - 1) * 256 + 255 = omega arith in
      let q = and_block 8 v (v - 1) 0 255 (omega arith) (omega arith) in
      omega (arith, sym q ∙ ap (bit_and (v * 256 + 0)) (sym p) ∙ e)

  mark_false : (k : ℕ) → is_byte b (f k) ≡ false → mark k ≡ 0
  unfolding mark_of
  mark_false k e = rw e

  lone_step : (n i a j : ℕ) (h : Bool) → is_byte b (f i) ≡ h → is_byte b (f (i + a)) ≡ true → bit_and (word_of mark n (suc i) * 256 + mark i) (word_of mark n (suc i) * 256 + mark i - 1) ≡ 0 → a < suc j → j < n → ((c : ℕ) → is_byte b (f (suc i + c)) ≡ true → bit_and (word_of mark n (suc i)) (word_of mark n (suc i) - 1) ≡ 0 → c < j → is_byte b (f (suc i + j)) ≡ false) → is_byte b (f (suc i + j)) ≡ false
  lone_step n i a j true h t e lo hi r =
      let m = mark_true i h in
      marks_none n (suc i) j (lone_here (word_of mark n (suc i)) (rw m at e)) hi
  lone_step n i zero j false h t e lo hi r =
      let p : i + 0 ≡ i = omega arith in
      absurd (true≢false (sym t ∙ ap (λ (k : ℕ). is_byte b (f k)) p ∙ h))
  lone_step n i (suc c) j false h t e lo hi r =
      let m = mark_false i h in
      let p : i + suc c ≡ suc i + c = omega arith in
      let s : is_byte b (f (suc i + c)) ≡ true = ap (λ (k : ℕ). is_byte b (f k)) (sym p) ∙ t in
      r c s (lone_later (word_of mark n (suc i)) (marks_some n (suc i) c (omega arith) s) (rw m at e)) (omega arith)

  lone_on : (n i a j : ℕ) → is_byte b (f (i + a)) ≡ true → bit_and (word_of mark n i) (word_of mark n i - 1) ≡ 0 → a < j → j < n → is_byte b (f (i + j)) ≡ false
  unfolding word_of
  lone_on zero i a j t e lo hi = absurd (omega arith)
  lone_on (suc n) i a zero t e lo hi = absurd (omega arith)
  lone_on (suc n) i a (suc j) t e lo hi =
      ap (λ (k : ℕ). is_byte b (f k)) (omega arith)
      ∙ lone_step n i a j (is_byte b (f i)) refl t e lo (omega arith) (λ c s d l. lone_on n (suc i) c j s d l (omega arith))

  -- where a word is shifted down to 0 nothing is marked in what is left of it
  high_on : (n i s j : ℕ) → word_of mark n i / 2 ^ (8 * s) ≡ 0 → s ≤ j → j < n → is_byte b (f (i + j)) ≡ false
  unfolding word_of
  high_on n i zero j e lo hi = marks_none n i j (omega arith) hi
  high_on zero i (suc s) j e lo hi = absurd (omega arith)
  high_on (suc n) i (suc s) zero e lo hi = absurd (omega arith)
  high_on (suc n) i (suc s) (suc j) e lo hi =
      let w : 8 * suc s ≡ 8 + 8 * s = omega arith in
      let v : (word_of mark n (suc i) * 256 + mark i) / 2 ^ 8 ≡ word_of mark n (suc i) = omega (arith, mark_small i) in
      let d : word_of mark n (suc i) / 2 ^ (8 * s) ≡ 0 = ap (λ (x : ℕ). x / 2 ^ (8 * s)) (sym v) ∙ shr-shr (word_of mark n (suc i) * 256 + mark i) 8 (8 * s) ∙ rw w at e in
      ap (λ (k : ℕ). is_byte b (f k)) (omega arith) ∙ high_on n (suc i) s j d (omega arith) (omega arith)

-- Of the first eight bytes of a text, and behind them.
module _ (s : List ℕ) (b : ℕ) (long : 8 ≤ length s) where
  module _ (r : ℕ) (e : 0 + r ≡ first_to (λ k. is_byte b (get_or s k 0)) 0 (0 + 8)) where
    pub first_near : r < 8 → r ≡ first_from (is_byte b) s 0
    first_near l =
        let z : r ≡ 0 + r = omega arith in
        z ∙ e ∙ sym (word_hit s b 0 (omega arith) (omega arith))

    pub first_far : 8 ≤ r → first_from (is_byte b) s 8 ≡ first_from (is_byte b) s 0
    first_far l = sym (word_miss s b 0 (omega arith) (omega arith))

  module _ (at : ℕ) (here : is_byte b (get_or s at 0) ≡ true) (low : at < 8) (w : ℕ) (word : w ≡ word_of (λ k. mark_of b (get_or s k 0)) 8 0) where
    at_mark : is_byte b (get_or s (0 + at) 0) ≡ true
    at_mark = ap (λ (k : ℕ). is_byte b (get_or s k 0)) (omega arith) ∙ here

    pub some_mark : 1 ≤ w
    some_mark = rw word (marks_some (λ k. get_or s k 0) b 8 0 at low at_mark)

    -- a mark that is alone: the search goes on behind the word
    pub near_skip : bit_and w (w - 1) ≡ 0 → first_from (is_byte b) s 8 ≡ first_from (is_byte b) s (at + 1)
    near_skip e =
        let alone = rw word at e in
        sym (skip (is_byte b) s (at + 1) 8 (omega arith) long
        (λ k lo hi.
        let y : 0 + k ≡ k = omega arith in
        ap (λ (j : ℕ). is_byte b (get_or s j 0)) (sym y) ∙ lone_on (λ j. get_or s j 0) b 8 0 at k at_mark alone (omega arith) hi))

  -- Behind the first eight bytes: there are no others, or none of them is marked in the last word.
  pub eight_past : length s ≡ 8 → 8 ≡ first_from (is_byte b) s 8
  eight_past l = sym (past (is_byte b) s 8 (omega arith))

  pub far_past : (from w : ℕ) → from + 8 ≡ length s → length s ≤ 16 → w ≡ word_of (λ k. mark_of b (get_or s k 0)) 8 from → w / 2 ^ (8 * (16 - length s)) ≡ 0 → length s ≡ first_from (is_byte b) s 8
  far_past from w l m word e =
      let high = rw word at e in
      sym (skip (is_byte b) s 8 (length s) long (omega arith)
      (λ k lo hi.
      let y : from + (k - from) ≡ k = omega arith in
      ap (λ (j : ℕ). is_byte b (get_or s j 0)) (sym y) ∙ high_on (λ j. get_or s j 0) b 8 from (16 - length s) (k - from) high (omega arith) (omega arith))
      ∙ past (is_byte b) s (length s) (omega arith))

-- The answers of the code: nothing at all, or the second behind the first.
module _ (p : ℕ → Bool) (s : List ℕ) where
  pub second_none : (at : ℕ) → at ≡ first_from p s 0 → length s ≤ at → at ≡ second_in p s
  unfolding second_in
  second_none at e l =
      let i = (first p s 0 (omega arith)).inside in
      rw (le-ltb (first_from p s 0) (length s) (omega arith)) (omega arith)

  pub second_again : (at r : ℕ) → at ≡ first_from p s 0 → at < length s → r ≡ first_from p s (at + 1) → r ≡ second_in p s
  unfolding second_in
  second_again at r e l h = rw (lt-ltb (first_from p s 0) (length s) (omega arith)) (h ∙ ap (λ (k : ℕ). first_from p s (k + 1)) e)

  pub twice_is : (at r : ℕ) → at ≡ first_from p s 0 → r ≡ second_in p s → ◌≡◌ {A = Twice} (record { first = at; second = r }) (twice_in p s)
  twice_is at r e h = rw (e, h)

  pub found_first : (at : ℕ) → at ≡ first_from p s 0 → at < length s → p (get_or s at 0) ≡ true
  found_first at e l = rw e ((first p s 0 (omega arith)).found (omega arith))

-- The first eight bytes by their marks w, of which the code counts the zeros at the end: r bytes stand before the first `b`.
module _ (s : List ℕ) (b : ℕ) (small : (k : ℕ) → Fits w8 (get_or s k 0)) (lt : b < 256) (long : 8 ≤ length s) (w r : ℕ) (word : w ≡ word_of (λ k. mark_of b (get_or s k 0)) 8 0) (zeros : r ≡ count_trailing_zeros 64 w / 8) where
  at_first : 0 + r ≡ first_to (λ k. is_byte b (get_or s k 0)) 0 (0 + 8)
  at_first = marked_first (λ k. get_or s k 0) b (λ k. omega (arith, small k)) lt w r 0 word zeros

  found_near : r < 8 → r ≡ first_from (is_byte b) s 0
  found_near = first_near s b long r at_first

  here_near : r < 8 → is_byte b (get_or s r 0) ≡ true
  here_near l = found_first (is_byte b) s r (found_near l) (omega arith)

  -- none of them is `b`
  pub none_near : 8 ≤ r → first_from (is_byte b) s 8 ≡ first_from (is_byte b) s 0
  none_near = first_far s b long r at_first

  -- one is, and so w is not 0
  pub some_near : r < 8 → 1 ≤ w
  some_near l = some_mark s b long r (here_near l) l w word

  -- the second is looked for behind the first, or, where the first is alone among the eight, behind all of them
  pub twice_again : (q : ℕ) → r < 8 → q ≡ first_from (is_byte b) s (r + 1) → ◌≡◌ {A = Twice} (record { first = r; second = q }) (twice_in (is_byte b) s)
  twice_again q l e = twice_is (is_byte b) s r q (found_near l) (second_again (is_byte b) s r q (found_near l) (omega arith) e)

  pub twice_alone : (q : ℕ) → r < 8 → bit_and w (w - 1) ≡ 0 → q ≡ first_from (is_byte b) s 8 → ◌≡◌ {A = Twice} (record { first = r; second = q }) (twice_in (is_byte b) s)
  twice_alone q l alone e = twice_again q l (e ∙ near_skip s b long r (here_near l) l w word alone)
