-- `name::index` meets its contract: its test is the definition's.
use Rattle.name.proofs.Split.{first_told}
use Rattle.name.proofs.index.Goals as goal

pub returns : goal.returns
returns c = rw (c.then_some.ensures, c.colon_at-at.ensures) (first_told _)
