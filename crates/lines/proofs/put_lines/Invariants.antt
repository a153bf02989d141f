-- `lines::put_lines` meets its contract: each turn writes a line, and the rest is left to write.
use Prim.Native.Nat.{◌+◌, ◌*◌, ◌/◌, ◌≤◌}
use mathlib.Core.Path.{◌≡◌}
use lib.ListN.{length}
use Rattle.lines.specs.Lines.{five_lines}
use Rattle.lines.proofs.Parts.{Part}
use Rattle.lines.proofs.put_lines.Given as goal

abbrev pub invariant-loop-five : goal.invariant-loop-five
invariant-loop-five l =
    let rest = l.five-iterator.rest.now in
    (l.five-iterator.size ≡ 5)
    × (l.end + 107 * (length rest / 5) ≤ length l.out)
    × Part l.initial.out 0 (five_lines (length l.numbers / 5) l.numbers) l.out l.end (five_lines (length rest / 5) rest)
