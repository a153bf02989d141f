-- `scope_table::same_all` meets its contract: the slices are the same exactly if no bit differs so far and the rests are the same.
use Prim.Native.Nat.{◌≤◌}
use mathlib.Core.Path.{◌≡◌}
use mathlib.Core.Bool.{◌&&◌}
use lib.Dec.{eqb}
use lib.ListN.{length, drop}
use Rattle.scan.specs.Bytes.{same_bytes}
use Rattle.scope_table.proofs.same_all.Given as goal

abbrev pub invariant-loop-i : goal.invariant-loop-i
invariant-loop-i l = (l.i ≤ length l.x) × (same_bytes l.x l.y ≡ (eqb l.bits 0 && same_bytes (drop l.i l.x) (drop l.i l.y)))
