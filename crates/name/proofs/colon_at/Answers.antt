-- `name::colon_at` meets its contract: the search from the start finds the first colon.
use Rattle.name.specs.Split.{colon_at}
use Rattle.name.proofs.colon_at.Goals as goal

pub returns : goal.returns
unfolding colon_at
returns c = c.byte_near.ensures
