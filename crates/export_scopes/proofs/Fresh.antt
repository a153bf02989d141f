-- The two ways in which `mz_fresh` comes back, each as `fresh_by` says it.
use Prim.Native.Nat.{ℕ}
use mathlib.Core.Path.{◌≡◌, ap}
use mathlib.Core.Bool.{true, false}
use mathlib.Core.List.{List, []}
use Rattle.scan.specs.First.{pick}
use Rattle.scope_table.specs.Table.{head_of}
use Rattle.scope_table.specs.Answer.{change_numbers, is_done}
use Rattle.scope_table.specs.Lent.{Given, given, fresh_in}
use Rattle.scope_table.specs.declared.Outcome.{Outcome}
use Rattle.export_memory.specs.Boundary.{head_after, code_of, Crossed, crossed}
use Rattle.export_scopes.specs.Fresh.{fresh_by}

module _ (text records head text' records' : List ℕ) (out : Outcome) (made : given out.answer text' records' out.head ≡ fresh_in text records (head_of 0 0 0 0)) where
  abbrev by : Given → Crossed
  by g = crossed (code_of (change_numbers g.answer)) g.text g.records (pick (is_done g.answer) (head_after head g.head) head) []

  by_made : by (given out.answer text' records' out.head) ≡ fresh_by text records head
  unfolding fresh_by
  by_made = ap by made

  pub fresh_not : is_done out.answer ≡ false → (r : ℕ) → r ≡ code_of (change_numbers out.answer) → crossed r text' records' head [] ≡ fresh_by text records head
  fresh_not d r e = rw (e, ← by_made, d)

  pub fresh_done : is_done out.answer ≡ true → (r : ℕ) (head' : List ℕ) → r ≡ code_of (change_numbers out.answer) → head' ≡ head_after head out.head → crossed r text' records' head' [] ≡ fresh_by text records head
  fresh_done d r head' e f = rw (e, f, ← by_made, d)
