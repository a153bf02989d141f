-- `scope_declare::set_max_namespace_bindings` meets its contract: the limit alone is another.
use Rattle.std.proofs.Common.{rules}
use Rattle.scope_declare.specs.Declare.{limited_of}
use Rattle.scope_declare.proofs.set_max_namespace_bindings.Goals as goal

pub returns : goal.returns
unfolding limited_of
returns c = search rules
