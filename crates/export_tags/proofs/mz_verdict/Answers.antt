-- `export_tags::mz_verdict` meets its contract: both callees say so.
use mathlib.Core.Path.{ap, ◌∙◌}
use Rattle.name.specs.Verdict.{verdict_number}
use Rattle.export_tags.proofs.mz_verdict.Goals as goal

pub returns : goal.returns
returns c = c.verdict_number.ensures ∙ ap verdict_number c.verdict_of.ensures
