-- `export_memory::left` meets its contract.
use mathlib.Core.Path.{◌∙◌}
use Rattle.export_memory.proofs.Calls.{told_is}
use Rattle.export_memory.proofs.left.Goals as goal

pub returns : goal.returns
returns c = (c.tell.ensures ∙ told_is _ _ _ c.change_numbers.ensures, c.put_head.ensures)
