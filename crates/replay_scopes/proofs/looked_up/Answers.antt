-- `replay_scopes::looked_up` meets its contract: the answer is that of the lookup.
use Rattle.replay_scopes.specs.Calls.{called_lookup}
use Rattle.replay_scopes.proofs.looked_up.Goals as goal

pub returns : goal.returns
unfolding called_lookup
returns c = rw c.lookup_said.ensures
