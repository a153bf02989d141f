-- `scope_change::write_binding` meets its contract: the two writes of text are one, and the record is written as a whole.
use Prim.Native.Nat.{ℕ, ◌+◌, ◌-◌, ◌≤◌}
use mathlib.Core.Path.{◌≡◌, ap, ◌∙◌}
use mathlib.Core.List.{List, ◌++◌}
use native.Mathlib.Omega.{arith}
use lib.ListN.{length}
use Rattle.scan.specs.Lists.{over}
use Rattle.scan.proofs.Lists.{length_over, over_over}
use Rattle.scope_change.specs.Change.{bound_of}
use Rattle.scope_change.proofs.write_binding.Goals as goal

pub overflow_add-middle : goal.overflow_add-middle
overflow_add-middle c = omega (arith, c.requires.text)

pub overflow_add-end : goal.overflow_add-end
overflow_add-end c = omega (arith, c.requires.text)

pub overflow_add-next : goal.overflow_add-next
overflow_add-next c = omega (arith, c.requires.row)

pub put-requires : goal.put-requires
put-requires c = omega (arith, c.requires.text)

pub put-requires-2 : goal.put-requires-2
put-requires-2 c =
    let a = c.args in
    omega (arith, ap length c.put.ensures ∙ length_over a.text.now a.head.used a.prefix.now (omega (arith, c.requires.text)), c.requires.text)

pub write_record-requires : goal.write_record-requires
write_record-requires c = c.requires.row

pub returns : goal.returns
unfolding bound_of
returns c =
    let a = c.args in
    let p = a.prefix.now in
    let v = a.value.now in
    let q : length p + length v ≤ length a.text.now - a.head.used = omega (arith, c.requires.text) in
    let w : c.put-2.new.text ≡ over a.text.now a.head.used (p ++ v) = c.put-2.ensures ∙ ap (λ (u : List ℕ). over u (a.head.used + length p) v) c.put.ensures ∙ over_over a.text.now a.head.used p v q in
    rw (w, c.write_record.ensures)
