-- `replay::same_numbers` meets its contract: what is left of both decides.
use Prim.Native.Nat.{◌≤◌}
use mathlib.Core.Path.{◌≡◌}
use lib.ListN.{length, drop}
use Rattle.scan.specs.Bytes.{same_bytes}
use Rattle.replay.specs.Numbers.{twos_of}
use Rattle.replay.proofs.same_numbers.Given as goal

abbrev pub invariant-loop-i : goal.invariant-loop-i
invariant-loop-i l = (l.i ≤ length l.numbers)
    × (same_bytes l.numbers (twos_of (length l.numbers) l.recorded) ≡ same_bytes (drop l.i l.numbers) (drop l.i (twos_of (length l.numbers) l.recorded)))
