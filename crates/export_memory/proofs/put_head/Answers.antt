-- `export_memory::put_head` meets its contract.
use Rattle.std.proofs.Common.{rules}
use Rattle.export_memory.specs.Boundary.{head_after}
use Rattle.export_memory.proofs.put_head.Goals as goal

pub returns : goal.returns
unfolding head_after
returns c = search rules
