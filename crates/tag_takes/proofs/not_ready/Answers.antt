-- `tag_takes::not_ready` meets its contract.
use Rattle.tag_step.specs.Next.{keys_of}
use Rattle.tag_takes.specs.Takes.{looks_past}
use Rattle.tag_takes.proofs.not_ready.Goals as goal

pub returns-then-not-finished : goal.returns-then-not-finished
unfolding looks_past keys_of
returns-then-not-finished c = rw (c.if-not-finished.true, c.look_in.ensures)

pub returns-else-not-finished : goal.returns-else-not-finished
unfolding looks_past
returns-else-not-finished c = rw c.if-not-finished.false
