-- `attrs::Memory::count` meets its contract: the answers counted so far are those of the batches read, and the reader stands
-- behind them. The measure is how many answers can be left.
use Prim.Native.Nat.{◌+◌, ◌-◌}
use mathlib.Core.Path.{◌≡◌}
use mathlib.Core.Bool.{true, false}
use lib.ListN.{length}
use Rattle.tag_step.specs.Next.{lent_state}
use Rattle.lines.proofs.Batches.{Stand}
use Rattle.attrs.specs.Count.{attrs_opened}
use Rattle.attrs.proofs.Memory.count.Given as goal

abbrev pub invariant-loop-read : goal.invariant-loop-read
invariant-loop-read l = (length l.self.numbers ≡ length l.initial.self.numbers)
    × Stand l.tag (attrs_opened l.initial.self.starts l.initial.self.ends l.initial.self.hashes) l.total (lent_state l.place false true l.self.starts l.self.ends l.self.hashes l.recorded)
    × (length l.self.starts ≡ length l.initial.self.starts)
    × (length l.self.ends ≡ length l.initial.self.ends)
    × (length l.self.hashes ≡ length l.initial.self.hashes)

abbrev pub decreases-loop-read : goal.decreases-loop-read
decreases-loop-read l = length l.tag + 1 - l.total
