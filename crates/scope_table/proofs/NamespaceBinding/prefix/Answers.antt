-- `NamespaceBinding::prefix` meets its contract: a range of a slice is the part that the definition names.
use Rattle.std.proofs.Common.{rules}
use Rattle.scan.specs.Bytes.{part}
use Rattle.scope_table.specs.Records.{prefix_in}
use Rattle.scope_table.proofs.NamespaceBinding.prefix.Goals as goal

pub returns : goal.returns
unfolding prefix_in part
returns c = search rules
