-- The branch of the crate's `set_level` that clears everything does not occur: the built-ins are at level 0, so a record that is
-- not above the level is always found. What follows it in the table begins where the text of the kept records ends; where
-- nothing follows it, zeros do.
use Prim.Native.Nat.{ℕ, zero, suc, ◌+◌, ◌≤◌, ◌<◌}
use mathlib.Core.Path.{◌≡◌}
use mathlib.Core.Logic.{⊎_elim}
use native.Mathlib.Nat.{eq-or-lt_of_le}
use native.Mathlib.Numerals.{add-one}
use native.Mathlib.Omega.{arith}
use borrow.Author.Tests.{lt-ltb, le-ltb}
use Rattle.scope_table.specs.Records.{row_at, record_at}
use Rattle.scope_table.specs.Table.{head_of, resolver_of}
use Rattle.scope_table.specs.declared.NamespaceResolver.{NamespaceResolver}
use Rattle.scope_table.proofs.Lists.{cut_zeros}
use Rattle.scope_table.proofs.Good.{Shaped, form_of_lem}
use Rattle.scope_change.specs.Change.{kept_at, kept_of, dropped_of}
use Rattle.scope_change.proofs.Change.{keep_within, keep_two}
use Rattle.law_scopes.specs.DeadClear.{clears_all, level_arm_by, level_arm_of, truncated_of, level_arm_leaves, crate_set_level_of, DeadClear}

-- where at least two stay, a record is found
arm_found : (k : ℕ) → 2 ≤ k → level_arm_by k ≡ clears_all → ⊥
unfolding level_arm_by
arm_found zero two = λ e. omega arith
arm_found (suc last) two = λ e. let z : ◌≡◌ {A = ℕ} 0 1 = cc in omega arith

module _ (x : NamespaceResolver) (f : Shaped x) (level : ℕ) where
  -- a record follows: its text starts where theirs ends
  drops_after : (k : ℕ) → k < x.head.count → truncated_of (record_at x.records k).start k level x ≡ kept_of k level x
  unfolding truncated_of kept_of
  drops_after k l = rw (f.links k l)

  -- none follows: all of it stays
  keeps_all : (k : ℕ) → k ≡ x.head.count → resolver_of x.text x.records (head_of x.head.used x.head.count level x.head.limit) ≡ kept_of k level x
  unfolding kept_of
  keeps_all k e =
      rw (e, f.ends, cut_zeros x.text x.head.used f.rest_text, cut_zeros x.records (row_at x.head.count) f.rest_records)

  found_leaves : (k : ℕ) → 2 ≤ k → k ≤ x.head.count → level_arm_leaves (level_arm_by k) level x ≡ kept_of k level x
  unfolding level_arm_by level_arm_leaves
  found_leaves zero two within = absurd (omega arith)
  found_leaves (suc last) two within =
      let n : last + 1 ≡ suc last = add-one last in
      ⊎_elim
      (λ (q : suc last ≡ x.head.count). rw (n, le-ltb (suc last) x.head.count (omega arith)) (keeps_all (suc last) q))
      (λ (l : suc last < x.head.count). rw (n, lt-ltb (suc last) x.head.count l) (drops_after (suc last) l))
      (eq-or-lt_of_le within)

pub dead_clear : DeadClear
unfolding DeadClear level_arm_of crate_set_level_of dropped_of
dead_clear x valid level =
    let f = form_of_lem x valid in
    let k = kept_at (record_at x.records) level x.head.count in
    let two : 2 ≤ k = keep_two x.text x.records x.head f level in
    record {
      built_ins = two;
      arm = arm_found k two;
      leaves = found_leaves x f level k two (keep_within (record_at x.records) level x.head.count);
    }
