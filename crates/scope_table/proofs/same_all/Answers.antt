-- `scope_table::same_all` meets its contract: the slices are the same exactly if no bit differs so far and the rests are the same.
use mathlib.Core.Path.{refl, sym}
use native.Mathlib.Omega.{arith}
use Rattle.scan.proofs.Bytes.{same_length}
use Rattle.scope_table.proofs.Bits.{differ_next, differ_end}
use Rattle.scope_table.proofs.same_all.Goals as goal

pub returns-then-x-y : goal.returns-then-x-y
returns-then-x-y c = sym (same_length _ _ c.if-x-y.true)

pub loop-i-init : goal.loop-i-init
loop-i-init c = (omega arith, refl)

pub loop-i-preserved : goal.loop-i-preserved
loop-i-preserved c =
    let l = c.loop-i in
    let a = c.args in
    (omega arith, differ_next _ l.bits a.x.now a.y.now l.i (omega arith) (omega arith) l.invariant.1)

pub returns : goal.returns
returns c =
    let l = c.loop-i in
    let a = c.args in
    differ_end _ l.bits a.x.now a.y.now l.i (omega arith) (omega arith) l.invariant.1
