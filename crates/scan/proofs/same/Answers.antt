-- `scan::same` meets its contract: `==` on slices compares byte by byte, and of short ones what the whole slices answer is what their rests
-- from i answer.
use mathlib.Core.Path.{sym, ◌∙◌}
use native.Mathlib.Omega.{arith}
use Rattle.scan.proofs.Bytes.{same_pointwise, same_length, same_on, same_off, same_end}
use Rattle.scan.proofs.same.Goals as goal

pub returns-then-x-y : goal.returns-then-x-y
returns-then-x-y c = sym (same_length _ _ c.if-x-y.true)

pub returns-then-x-gt8 : goal.returns-then-x-gt8
returns-then-x-gt8 c = c.eq.ensures ∙ same_pointwise c.args.x.now c.args.y.now

pub returns-then-x-i : goal.returns-then-x-i
returns-then-x-i c =
    let a = c.args in
    sym (c.loop-i.invariant ∙ same_off a.x.now a.y.now c.loop-i.i (omega arith) (omega arith) c.if-x-i.true)

pub loop-i-preserved : goal.loop-i-preserved
loop-i-preserved c =
    let a = c.args in
    c.loop-i.invariant ∙ same_on a.x.now a.y.now c.loop-i.i (omega arith) (omega arith) c.if-x-i.false

pub returns : goal.returns
returns c =
    let a = c.args in
    sym (c.loop-i.invariant ∙ same_end a.x.now a.y.now c.loop-i.i (omega arith) (omega arith))
