-- The bounds of a listing's answer mark the prefix and the value of the record shown: a record that refusal 20 passes ends
-- within the text in use.
use Prim.Native.Nat.{ℕ, ◌+◌, ◌-◌, ◌≤◌, ◌<◌}
use mathlib.Core.Path.{◌≡◌, refl}
use mathlib.Core.Bool.{true}
use mathlib.Core.List.{List}
use native.Mathlib.Omega.{arith}
use lib.Dec.{ltb}
use lib.ListN.{length}
use borrow.Author.Tests.{ltb-true}
use Rattle.scan.specs.First.{first_to}
use Rattle.scan.proofs.Laws.{picks}
use Rattle.scope_table.specs.Records.{record_at, value_end, prefix_in, value_in}
use Rattle.scope_table.specs.Table.{valid_of}
use Rattle.scope_table.specs.declared.NamespaceBinding.{NamespaceBinding}
use Rattle.scope_table.specs.declared.NamespaceResolver.{NamespaceResolver}
use Rattle.scope_table.proofs.Good.{form_of_lem, lies}
use Rattle.scope_listing.specs.Listing.{in_effect, at_level, shown_of, listed_at, past_built_in, bindings_of, bindings_at_of}
use Rattle.scope_listing.specs.Marked.{MarksRecord, MarksShown}

module _ (text : List ℕ) (rows : ℕ → NamespaceBinding) (count : ℕ) (within : (k : ℕ) → k < count → value_end (rows k) ≤ length text) where
  record_marks : (i : ℕ) → i < count → MarksRecord text (rows i) (shown_of (rows i))
  unfolding shown_of prefix_in value_in
  record_marks i h = (
    record { ahead = omega arith; inside = omega (arith, within i h); between = refl },
    record { ahead = omega arith; inside = within i h; between = refl },
  )

  at_marks : (found place : ℕ) → MarksShown text rows (listed_at rows count found place)
  unfolding listed_at
  at_marks found place =
      picks (MarksShown text rows) (ltb found count)
      (λ e.
      let q : found + 1 - 1 ≡ found = omega arith in
      rw q (record_marks found (ltb-true found count e)))
      (λ e. tt)

-- `bindings`, and `bindings_of`.
module _ (x : NamespaceResolver) (v : valid_of x ≡ true) (w : x.head.used ≤ length x.text) where
  within_text : (k : ℕ) → k < x.head.count → value_end (record_at x.records k) ≤ length x.text
  within_text k h = omega (arith, lies x.text x.records x.head (form_of_lem x v) k h)

  pub bindings_mark : (place : ℕ) → MarksShown x.text (record_at x.records) (bindings_of place x)
  unfolding bindings_of
  bindings_mark place =
      let rows = record_at x.records in
      let count = x.head.count in
      rw v (at_marks x.text rows count within_text (first_to (in_effect x.text rows count) (past_built_in place) count) place)

  pub level_marks : (level place : ℕ) → MarksShown x.text (record_at x.records) (bindings_at_of level place x)
  unfolding bindings_at_of
  level_marks level place =
      let rows = record_at x.records in
      let count = x.head.count in
      rw v (at_marks x.text rows count within_text (first_to (λ i. at_level level (rows i)) place count) place)
