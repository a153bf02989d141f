-- `scan::first_where` meets its contract: whatever test it computes, the answer from `from` is the answer from i.
use Rattle.std.proofs.Common.{sym, ◌∙◌}
use Rattle.scan.proofs.Laws.{hit, miss, past}
use Rattle.scan.proofs.first_where.Goals as goal
use Rattle.scan.proofs.first_where.Goals.{then-loop-i-test+else-not-test, else-loop-i-test}

pub loop-i-preserved : goal.loop-i-preserved
loop-i-preserved g c =
    λ p h. c.loop-i.invariant p h ∙ miss p _ _ c.loop-i-test.true (sym (h _ _ c.test.ensures) ∙ c.if-not-test.true)

pub returns : goal.returns
returns g c =
    λ p h. sym (c.loop-i.invariant p h ∙ elim c.loop-i-test.branch [
      | then-loop-i-test+else-not-test w ↦ hit p _ _ w.loop-i-test.true (sym (h _ _ w.test.ensures) ∙ w.if-not-test.false)
      | else-loop-i-test w ↦ past p _ _ w.loop-i-test.false
    ])
