-- `scope_change::take_back` meets its contract: nothing stands after the end.
use native.Mathlib.Omega.{arith}
use Rattle.scope_table.proofs.Lists.{all_read}
use Rattle.scope_change.proofs.take_back.Goals as goal

pub clear_bytes-requires : goal.clear_bytes-requires
clear_bytes-requires c = (omega arith, all_read c.args.text.now)
