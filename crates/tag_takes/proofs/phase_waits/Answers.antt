-- `tag_takes::phase_waits` meets its contract.
use mathlib.Core.Path.{◌∙◌}
use Rattle.tag_takes.proofs.phase_waits.Goals as goal

pub returns-then-not-finished : goal.returns-then-not-finished
returns-then-not-finished c = c.waits.ensures ∙ rw c.if-not-finished.true

pub returns-else-not-finished : goal.returns-else-not-finished
returns-else-not-finished c = rw c.if-not-finished.false
