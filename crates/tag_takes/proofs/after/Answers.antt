-- `tag_takes::after` meets its contract.
use borrow.Author.Tests.{eq-eqb, ne_eqb}
use Rattle.tag_takes.specs.Takes.{cursor_after}
use Rattle.tag_takes.proofs.after.Goals as goal

pub returns-then-n-eq0 : goal.returns-then-n-eq0
unfolding cursor_after
returns-then-n-eq0 c = rw (eq-eqb _ _ c.if-n-eq0.true)

pub returns-else-n-eq0 : goal.returns-else-n-eq0
unfolding cursor_after
returns-else-n-eq0 c = rw (ne_eqb _ _ c.if-n-eq0.false)
