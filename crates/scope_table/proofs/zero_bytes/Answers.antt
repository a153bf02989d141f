-- `scope_table::zero_bytes` meets its contract: in the loop all is zero exactly if the bits so far are and the rest is.
use native.Mathlib.Omega.{arith}
use Rattle.scope_table.proofs.Lists.{zero_next, zero_end}
use Rattle.scope_table.proofs.zero_bytes.Goals as goal

pub loop-i-preserved : goal.loop-i-preserved
loop-i-preserved c = zero_next _ c.loop-i.bits c.args.t.now c.loop-i.i (omega arith) c.loop-i.invariant

pub returns : goal.returns
returns c = zero_end _ c.loop-i.bits c.args.t.now c.loop-i.i (omega arith) c.loop-i.invariant
