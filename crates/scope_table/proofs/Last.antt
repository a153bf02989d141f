-- Laws of the last number that passes a test: one turn of a search from the top for each case, and that tests which agree
-- have the same last one.
use Prim.Native.Nat.{ℕ, zero, suc, ◌-◌, ◌≤◌, ◌<◌}
use mathlib.Core.Path.{◌≡◌, refl}
use mathlib.Core.Bool.{Bool, true, false}
use native.Mathlib.Nat.{not-suc-le-zero}
use native.Mathlib.Numerals.{sub-one}
use native.Mathlib.Omega.{arith}
use Rattle.scope_table.specs.Lists.{last_below}

module _ (p : ℕ → Bool) where
  pub last_hit : (i : ℕ) → 0 < i → p (i - 1) ≡ true → last_below p i ≡ i
  unfolding last_below
  last_hit zero h e = absurd (not-suc-le-zero h)
  last_hit (suc j) h e =
      let k : p j ≡ true = rw (sub-one (suc j)) at e in
      rw k

  pub last_miss : (i : ℕ) → 0 < i → p (i - 1) ≡ false → last_below p i ≡ last_below p (i - 1)
  unfolding last_below
  last_miss zero h e = absurd (not-suc-le-zero h)
  last_miss (suc j) h e =
      let k : p j ≡ false = rw (sub-one (suc j)) at e in
      rw (k, sub-one (suc j))

  pub last_none : (i : ℕ) → i ≤ 0 → last_below p i ≡ 0
  unfolding last_below
  last_none i h =
      let z : i ≡ 0 = omega arith in
      rw z

  last_step : (n : ℕ) → last_below p n ≤ n → (t : Bool) → p n ≡ t → last_below p (suc n) ≤ suc n
  unfolding last_below
  last_step n h true e = rw e (omega arith)
  last_step n h false e = rw e (omega arith)

  pub last_within : (n : ℕ) → last_below p n ≤ n
  unfolding last_below
  last_within zero = omega arith
  last_within (suc n) = last_step n (last_within n) (p n) refl

-- what agrees below n has the same last one
pub last_same : (p q : ℕ → Bool) (n : ℕ) → ((k : ℕ) → k < n → p k ≡ q k) → last_below p n ≡ last_below q n
unfolding last_below
last_same p q zero h = refl
last_same p q (suc n) h =
    let a = last_same p q n (λ k l. h k (omega arith)) in
    let e = h n (omega arith) in
    rw (e, a)
