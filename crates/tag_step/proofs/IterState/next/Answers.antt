-- `tag_step::IterState::next` meets its contract: `next_in` on its own tables.
use mathlib.Core.Path.{ap}
use Rattle.tag_step.specs.Numbers.{numbered_step}
use Rattle.tag_step.specs.Next.{leaves}
use Rattle.tag_step.proofs.IterState.next.Goals as goal

pub returns : goal.returns
unfolding leaves
returns c = ap numbered_step c.next_in-made.ensures
