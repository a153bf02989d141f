-- How long the text of the built-ins is; and that what a level keeps is not above it, and what it drops is.
use Prim.Native.Nat.{ℕ, zero, suc, ◌≤◌, ◌<◌}
use mathlib.Core.Path.{◌≡◌}
use mathlib.Core.Bool.{true}
use mathlib.Core.Logic.{⊎_elim}
use native.Mathlib.Nat.{not-suc-le-zero, eq-or-lt_of_le}
use native.Mathlib.Omega.{arith}
use lib.Dec.{leb}
use borrow.Author.Tests.{leb-true, leb-false}
use Rattle.scan.proofs.Laws.{picks}
use Rattle.scope_table.specs.Lists.{last_below}
use Rattle.scope_table.specs.Records.{record_at}
use Rattle.scope_table.specs.Table.{text_of, level_before, is_record}
use Rattle.scope_table.specs.declared.NamespaceBinding.{NamespaceBinding}
use Rattle.scope_table.specs.declared.NamespaceResolver.{NamespaceResolver}
use Rattle.scope_table.proofs.Turns.{text_grows}
use Rattle.scope_table.proofs.Good.{Shaped, says}
use Rattle.scope_change.specs.Change.{kept_at}

-- no level before record n is above what the first n are not above
pub before_top : (n top : ℕ) (rows : ℕ → NamespaceBinding) → ((k : ℕ) → k < n → (rows k).level ≤ top) → level_before rows n ≤ top
unfolding level_before
before_top zero top rows h = omega arith
before_top (suc n) top rows h = h n (omega arith)

-- The built-ins have 73 bytes.

pub text_two : (rows : ℕ → NamespaceBinding) → is_record (rows 0) 3 36 0 ≡ true → is_record (rows 1) 5 29 0 ≡ true → text_of rows 2 ≡ 73
unfolding text_of
text_two rows a b =
    let x = says (rows 0) 3 36 0 a in
    let y = says (rows 1) 5 29 0 b in
    omega (arith, x.prefix_len, x.value_len, y.prefix_len, y.value_len)

-- their text is within the text of the first n records
pub opening_within : (x : NamespaceResolver) → Shaped x → (n : ℕ) → 2 ≤ n → 73 ≤ text_of (record_at x.records) n
opening_within x f n h =
    omega (arith, text_two (record_at x.records) f.xml f.xmlns, text_grows (record_at x.records) 2 n h)

-- The records that a level keeps.

module _ (rows : ℕ → NamespaceBinding) (v : ℕ) where
  abbrev pub Rising : ℕ → Type 0
  Rising n = (k : ℕ) → k < n → level_before rows k ≤ (rows k).level

  rises_to : (n j : ℕ) → Rising (suc n) → j ≤ n → (rows j).level ≤ (rows n).level
  unfolding level_before
  rises_to zero j r h =
      let z : j ≡ 0 = omega arith in
      rw z (omega arith)
  rises_to (suc n) j r h =
      ⊎_elim (λ (q : j ≡ suc n). rw q (omega arith))
      (λ (i : j < suc n). let g = rises_to n j (λ k l. r k (omega arith)) (omega arith) in let s = r (suc n) (omega arith) in omega arith)
      (eq-or-lt_of_le h)

  -- where levels do not fall, none of them is above it
  pub kept_below : (n : ℕ) → Rising n → (j : ℕ) → j < kept_at rows v n → (rows j).level ≤ v
  unfolding kept_at last_below
  kept_below zero r j = λ h. absurd (not-suc-le-zero h)
  kept_below (suc n) r j =
      picks (λ (m : ℕ). j < m → (rows j).level ≤ v) (leb (rows n).level v)
      (λ e i.
      let f = leb-true (rows n).level v e in
      let g = rises_to n j r (omega arith) in
      omega arith)
      (λ e i. kept_below n (λ k l. r k (omega arith)) j i)

  -- and what it drops is above it
  pub kept_above : (n j : ℕ) → kept_at rows v n ≤ j → j < n → v < (rows j).level
  unfolding kept_at last_below
  kept_above zero j = λ lo hi. absurd (not-suc-le-zero hi)
  kept_above (suc n) j =
      picks (λ (m : ℕ). m ≤ j → j < suc n → v < (rows j).level) (leb (rows n).level v) (λ e lo hi. absurd (omega arith))
      (λ e lo hi.
      ⊎_elim (λ (q : j ≡ n). rw q (leb-false (rows n).level v e)) (λ (i : j < n). kept_above n j lo i) (eq-or-lt_of_le (omega arith)))
