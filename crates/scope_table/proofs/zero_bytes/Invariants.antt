-- `scope_table::zero_bytes` meets its contract: in the loop all is zero exactly if the bits so far are and the rest is.
use mathlib.Core.Path.{◌≡◌}
use mathlib.Core.Bool.{◌&&◌}
use lib.Dec.{eqb}
use lib.ListN.{drop}
use Rattle.scope_table.specs.Lists.{all_zero}
use Rattle.scope_table.proofs.zero_bytes.Given as goal

abbrev pub invariant-loop-i : goal.invariant-loop-i
invariant-loop-i l = all_zero (drop l.from l.t) ≡ (eqb l.bits 0 && all_zero (drop l.i l.t))
