-- `export_memory::head_from` meets its contract.
use Rattle.std.proofs.Common.{rules}
use Rattle.export_memory.specs.Boundary.{head_in}
use Rattle.export_memory.proofs.head_from.Goals as goal

pub returns : goal.returns
unfolding head_in
returns c = search rules
