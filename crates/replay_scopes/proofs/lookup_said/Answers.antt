-- `replay_scopes::lookup_said` meets its contract: its three numbers are those of the answer.
use mathlib.Core.Path.{ap, ◌∙◌}
use Rattle.scope_table.specs.declared.Told.{Told}
use Rattle.replay_scopes.specs.Calls.{said_numbers, lookup_said}
use Rattle.replay_scopes.proofs.lookup_said.Goals as goal

pub returns : goal.returns
unfolding lookup_said
returns c = c.says.ensures ∙ ap (λ (x : Told). said_numbers x.number x.first x.second) c.resolved_numbers-told.ensures
