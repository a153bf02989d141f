-- The bits in which two texts differ, all in one number: none do exactly if the texts are the same.
use Prim.Native.Nat.{ℕ, suc, ◌+◌, ◌<◌}
use mathlib.Core.Path.{◌≡◌, refl, sym, ◌∙◌}
use mathlib.Core.Bool.{Bool, true, false, ◌&&◌, and-true}
use mathlib.Core.List.{List}
use native.Mathlib.Numerals.{add-one}
use native.Mathlib.Omega.{arith}
use lib.Bits.{bit_or, bit_xor, xor_add_and, xor_self, and_le_l, and_le_r}
use lib.Dec.{eqb}
use lib.ListN.{length, drop, get_or}
use lib.Seq.{drop-cons}
use borrow.Author.Tests.{eq-eqb, ne_eqb, eqb-true, eqb-false}
use Rattle.scan.specs.Bytes.{same_bytes}
use Rattle.scan.proofs.Bytes.{same_end}
use Rattle.scope_table.proofs.Lists.{or_none, and_swap}

-- no bit differs exactly if the numbers are the same
xor_none : (a b : ℕ) → eqb (bit_xor a b) 0 ≡ eqb a b
xor_none a b = by (eqb (bit_xor a b) 0) refl where
  by : (t : Bool) → eqb (bit_xor a b) 0 ≡ t → eqb (bit_xor a b) 0 ≡ eqb a b
  by true e =
      let z = eqb-true (bit_xor a b) 0 e in
      e ∙ sym (eq-eqb a b (omega (arith, xor_add_and a b, and_le_l a b, and_le_r a b)))
  by false e =
      let n = eqb-false (bit_xor a b) 0 e in
      e ∙ sym (ne_eqb a b (λ q. n (rw q (xor_self b))))

-- one byte more of each goes in
pub differ_next : (r : Bool) (bits : ℕ) (x y : List ℕ) (i : ℕ) → i < length x → i < length y → r ≡ (eqb bits 0 && same_bytes (drop i x) (drop i y)) → r ≡ (eqb (bit_or bits (bit_xor (get_or x i 0) (get_or y i 0))) 0 && same_bytes (drop (i + 1) x) (drop (i + 1) y))
unfolding same_bytes
differ_next r bits x y i h k e =
    e ∙ rw (drop-cons x i 0 h, drop-cons y i 0 k, add-one i, or_none bits (bit_xor (get_or x i 0) (get_or y i 0)), xor_none (get_or x i 0) (get_or y i 0)) (and_swap (eqb bits 0) (eqb (get_or x i 0) (get_or y i 0)) (same_bytes (drop (suc i) x) (drop (suc i) y)))

-- nothing is left
pub differ_end : (r : Bool) (bits : ℕ) (x y : List ℕ) (i : ℕ) → i ≡ length x → i ≡ length y → r ≡ (eqb bits 0 && same_bytes (drop i x) (drop i y)) → eqb bits 0 ≡ r
differ_end r bits x y i h k e = sym (e ∙ rw (same_end x y i h k) (and-true (eqb bits 0)))
