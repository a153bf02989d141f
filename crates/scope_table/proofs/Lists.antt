-- Laws of the tests and writes of specs/Lists, each for one turn of a loop or for the end of one.
use Prim.Native.Nat.{ℕ, zero, suc, ◌+◌, ◌-◌, ◌≤◌, ◌<◌}
use mathlib.Core.Path.{◌≡◌, refl, sym, ap, ◌∙◌, subst}
use mathlib.Core.Bool.{Bool, true, false, ◌&&◌, and-true, false≢true, true≢false}
use mathlib.Core.List.{List, [], ◌∷◌}
use mathlib.Core.Logic.{⊎_elim}
use native.Mathlib.Nat.{not-suc-le-zero, eq-or-lt_of_le}
use native.Mathlib.Numerals.{add-one}
use native.Mathlib.Omega.{arith}
use lib.Bits.{bit_or, or_add_and, and_le_l, and_le_r}
use lib.Dec.{eqb}
use lib.ListN.{length, take, drop, get_or, replicate, length-append, length-drop, length-replicate, drop_of_length-le, take-append-drop}
use lib.Seq.{drop-cons, length-take-le, drop-drop}
use borrow.Author.Tests.{eq-eqb, ne_eqb, eqb-true, eqb-false}
use borrow.Rule.Slice.PartMut.{put_mid, post_of}
use Rattle.std.specs.List.{fold}
use Rattle.std.proofs.lemmas.List.{replicate-append-replicate}
use Rattle.scope_table.specs.Lists.{all_below, all_zero, cut}

-- Rows of tests.

pub and_left : (a b : Bool) → (a && b) ≡ true → a ≡ true
and_left true b e = refl
and_left false b e = e

pub and_right : (a b : Bool) → (a && b) ≡ true → b ≡ true
and_right true b e = e
and_right false b e = absurd (false≢true e)

-- a test that holds is passed
pub and_take : {a b r : Bool} → a ≡ true → b ≡ r → (a && b) ≡ r
and_take {a} {b} {r} p q = rw (p, q)

-- one that fails decides
pub and_fail : {a : Bool} (b : Bool) → a ≡ false → (a && b) ≡ false
and_fail {a} b p = rw p

pub and_off : (a : Bool) {b : Bool} → b ≡ false → (a && b) ≡ false
and_off true p = p
and_off false p = refl

-- two that are not both so, whatever else is asked
pub both_off : (a b r : Bool) → (a && b) ≡ false → (a && (b && r)) ≡ false
both_off true b r p = and_fail r p
both_off false b r p = refl

-- Every number below n.

pub all_at : (p : ℕ → Bool) (n k : ℕ) → all_below p n ≡ true → k < n → p k ≡ true
unfolding all_below
all_at p zero k e h = absurd (not-suc-le-zero h)
all_at p (suc n) k e h =
    let le : k ≤ n = omega arith in
    ⊎_elim (λ (q : k ≡ n). subst (λ (j : ℕ). p j ≡ true) (sym q) (and_right (all_below p n) (p n) e))
    (λ (l : k < n). all_at p n k (and_left (all_below p n) (p n) e) l)
    (eq-or-lt_of_le le)

pub all_of : (p : ℕ → Bool) (n : ℕ) → ((k : ℕ) → k < n → p k ≡ true) → all_below p n ≡ true
unfolding all_below
all_of p zero h = refl
all_of p (suc n) h = and_take (all_of p n (λ k l. h k (omega arith))) (h n (omega arith))

pub all_off : (p : ℕ → Bool) (n k : ℕ) → k < n → p k ≡ false → all_below p n ≡ false
all_off p n k h f = by (all_below p n) refl where
  by : (t : Bool) → all_below p n ≡ t → all_below p n ≡ false
  by true e = absurd (true≢false (sym (all_at p n k e h) ∙ f))
  by false e = e

-- Zeros: the bits of all elements so far in one number.

pub or_none : (a b : ℕ) → eqb (bit_or a b) 0 ≡ (eqb a 0 && eqb b 0)
or_none a b = by (eqb (bit_or a b) 0) refl where
  off : (bit_or a b ≡ 0 → ⊥) → (t : Bool) → eqb a 0 ≡ t → (t && eqb b 0) ≡ false
  off n true e = ne_eqb b 0 (λ z. n (let h = eqb-true a 0 e in omega (arith, or_add_and a b)))
  off n false e = refl

  by : (t : Bool) → eqb (bit_or a b) 0 ≡ t → eqb (bit_or a b) 0 ≡ (eqb a 0 && eqb b 0)
  by true e =
      let z = eqb-true (bit_or a b) 0 e in
      let x : a ≡ 0 = omega (arith, or_add_and a b, and_le_r a b) in
      let y : b ≡ 0 = omega (arith, or_add_and a b, and_le_l a b) in
      e ∙ sym (and_take (eq-eqb a 0 x) (eq-eqb b 0 y))
  by false e = e ∙ sym (off (eqb-false (bit_or a b) 0 e) (eqb a 0) refl)

pub and_swap : (a b c : Bool) → (a && (b && c)) ≡ ((a && b) && c)
and_swap true b c = refl
and_swap false b c = refl

-- the bits of a list, with those so far
pub zero_fold : (bits : ℕ) (t : List ℕ) → eqb (fold bit_or bits t) 0 ≡ (eqb bits 0 && all_zero t)
unfolding all_zero
zero_fold bits [] = sym (and-true (eqb bits 0))
zero_fold bits (x ∷ t) =
    zero_fold (bit_or bits x) t ∙ ap (λ (b : Bool). b && all_zero t) (or_none bits x) ∙ sym (and_swap (eqb bits 0) (eqb x 0) (all_zero t))

-- one element more goes in
pub zero_next : (r : Bool) (bits : ℕ) (t : List ℕ) (i : ℕ) → i < length t → r ≡ (eqb bits 0 && all_zero (drop i t)) → r ≡ (eqb (bit_or bits (get_or t i 0)) 0 && all_zero (drop (i + 1) t))
unfolding all_zero
zero_next r bits t i h e =
    e ∙ rw (drop-cons t i 0, add-one i, or_none bits (get_or t i 0)) (and_swap (eqb bits 0) (eqb (get_or t i 0) 0) (all_zero (drop (suc i) t)))

-- nothing is left
pub zero_end : (r : Bool) (bits : ℕ) (t : List ℕ) (i : ℕ) → length t ≤ i → r ≡ (eqb bits 0 && all_zero (drop i t)) → eqb bits 0 ≡ r
unfolding all_zero
zero_end r bits t i h e = sym (e ∙ rw (drop_of_length-le t h) (and-true (eqb bits 0)))

pub zeros_are : (l : List ℕ) → all_zero l ≡ true → l ≡ replicate (length l) 0
unfolding all_zero
zeros_are [] e = refl
zeros_are (x ∷ xs) e =
    let h = eqb-true x 0 (and_left (eqb x 0) (all_zero xs) e) in
    let r = zeros_are xs (and_right (eqb x 0) (all_zero xs) e) in
    cc

zeros_drop : (n : ℕ) (l : List ℕ) → all_zero l ≡ true → all_zero (drop n l) ≡ true
unfolding all_zero
zeros_drop zero l e = e
zeros_drop (suc n) [] e = e
zeros_drop (suc n) (x ∷ xs) e = zeros_drop n xs (and_right (eqb x 0) (all_zero xs) e)

-- zeros from a place on are zeros from a later one on
pub zeros_later : (t : List ℕ) (a b : ℕ) → a ≤ b → all_zero (drop a t) ≡ true → all_zero (drop b t) ≡ true
zeros_later t a b h e =
    let s : a + (b - a) ≡ b = omega arith in
    rw (← s, ← drop-drop (b - a) a t) (zeros_drop (b - a) (drop a t) e)

-- nothing is past the end
pub all_read : (t : List ℕ) → all_zero (drop (length t) t) ≡ true
unfolding all_zero
all_read [] = refl
all_read (x ∷ t) = all_read t

-- Zeros written from a place on.

-- nothing is to be written where there are zeros already
pub cut_zeros : (t : List ℕ) (n : ℕ) → all_zero (drop n t) ≡ true → cut t n ≡ t
unfolding cut
cut_zeros t n e = rw (← length-drop n t, ← zeros_are (drop n t) e) (take-append-drop n t)

-- zeros are written up to where only zeros stand
pub cut_filled : (t : List ℕ) (from to : ℕ) (zeros : List ℕ) → from ≤ to → to ≤ length t → zeros ≡ replicate (length (take (to - from) (drop from t))) 0 → all_zero (drop to t) ≡ true → put_mid from (to - from) t zeros ≡ cut t from
unfolding cut
cut_filled t from to zeros h l z w =
    let some : length (take (to - from) (drop from t)) ≡ to - from = length-take-le (to - from) (drop from t) (omega (arith, length-drop from t)) in
    let to_is : from + (to - from) ≡ to = omega arith in
    let rest : post_of from (to - from) t ≡ replicate (length t - to) 0 = drop-drop (to - from) from t ∙ rw to_is (zeros_are (drop to t) w ∙ ap (λ (n : ℕ). replicate n 0) (length-drop to t)) in
    let all : (to - from) + (length t - to) ≡ length t - from = omega arith in
    rw (z, some, rest, replicate-append-replicate {A = ℕ} (to - from) (length t - to) 0, all) refl

-- or over all
pub cut_all : (t : List ℕ) → cut t 0 ≡ replicate (length t) 0
unfolding cut
cut_all t =
    let all : length t - 0 ≡ length t = omega arith in
    rw all

pub cut_length : (t : List ℕ) (n : ℕ) → n ≤ length t → length (cut t n) ≡ length t
unfolding cut
cut_length t n h = simp (length-append, length-take-le n t h, length-replicate) (omega arith)
