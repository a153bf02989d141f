-- `name::second_at` meets its contract: the second place of a colon is that of the first one in the local part.
use mathlib.Core.Path.{ap, ◌∙◌}
use Rattle.scan.specs.declared.Twice.{Twice}
use Rattle.name.proofs.Split.{second_place}
use Rattle.name.proofs.second_at.Goals as goal

pub returns : goal.returns
returns c = ap (λ (t : Twice). t.second) c.twice_near-colons.ensures ∙ second_place _
