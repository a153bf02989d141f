-- `name::second_colon` meets its contract: its test is the definition's.
use Rattle.name.proofs.Split.{second_told}
use Rattle.name.proofs.second_colon.Goals as goal

pub returns : goal.returns
returns c = rw (c.then_some.ensures, c.second_at-at.ensures) (second_told _)
