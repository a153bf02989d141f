-- `lines::put_numbers` meets its contract: each turn writes a blank and a number, and the rest is left to write.
use Prim.Native.Nat.{◌+◌, ◌*◌, ◌-◌, ◌≤◌}
use lib.ListN.{length, drop}
use Rattle.lines.specs.Lines.{spaced}
use Rattle.lines.proofs.Parts.{Part}
use Rattle.lines.proofs.put_numbers.Given as goal

abbrev pub invariant-loop-n : goal.invariant-loop-n
invariant-loop-n l = (l.end + 21 * (length l.numbers - l.n-index) ≤ length l.out) × Part l.initial.out l.at (spaced l.numbers) l.out l.end (spaced (drop l.n-index l.numbers))
