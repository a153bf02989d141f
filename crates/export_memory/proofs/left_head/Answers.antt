-- `export_memory::left_head` meets its contract.
use mathlib.Core.Path.{ap}
use Rattle.scope_table.specs.declared.Told.{Told}
use Rattle.export_memory.specs.Boundary.{code_of}
use Rattle.export_memory.proofs.left_head.Goals as goal

pub returns : goal.returns
unfolding code_of
returns c = (ap (λ (x : Told). x.number) c.change_numbers-told.ensures, c.put_head.ensures)
