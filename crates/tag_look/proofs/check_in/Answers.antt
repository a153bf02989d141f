-- `tag_look::check_in` meets its contract: the verdict is known by its numbers.
use Rattle.tag_keys.proofs.Numbers.{checked_apart}
use Rattle.tag_step.specs.Next.{check_of}
use Rattle.tag_look.proofs.check_in.Goals as goal

pub returns : goal.returns
unfolding check_of
returns c = checked_apart _ _ c.check_unsifted.ensures
