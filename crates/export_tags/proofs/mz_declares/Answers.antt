-- `export_tags::mz_declares` meets its contract: both callees say so.
use mathlib.Core.Path.{ap, ◌∙◌}
use Rattle.name.specs.Declares.{declares_number}
use Rattle.export_tags.proofs.mz_declares.Goals as goal

pub returns : goal.returns
returns c = c.declares_number.ensures ∙ ap declares_number c.as_namespace_binding.ensures
