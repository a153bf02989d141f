-- `scan::put` meets its contract: after i turns the text is what it was with the first i bytes of s pasted in.
use mathlib.Core.Path.{◌∙◌}
use native.Mathlib.Omega.{arith}
use Rattle.scan.proofs.Lists.{paste_all, paste_more}
use Rattle.scan.proofs.put.Goals as goal

pub loop-i-preserved : goal.loop-i-preserved
loop-i-preserved c =
    let l = c.loop-i in
    let a = c.args in
    rw l.invariant (paste_more a.text.now a.at a.s.now l.i (omega arith) (omega arith))

pub returns : goal.returns
returns c =
    let l = c.loop-i in
    let a = c.args in
    l.invariant ∙ paste_all a.text.now a.at a.s.now l.i (omega arith)
