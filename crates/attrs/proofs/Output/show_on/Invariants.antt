-- `attrs::Output::show_on` meets its contract: each turn writes the lines of the next answers, where the last turn stopped. The
-- measure is how many answers can be left.
use Prim.Native.Nat.{◌+◌, ◌-◌}
use mathlib.Core.Path.{◌≡◌}
use mathlib.Core.Bool.{true, false}
use lib.ListN.{length}
use Rattle.tag_step.specs.Next.{lent_state}
use Rattle.attrs.proofs.Showing.{Showing}
use Rattle.attrs.proofs.Output.show_on.Given as goal

abbrev pub invariant-loop-left : goal.invariant-loop-left
invariant-loop-left g l = Showing l.tag l.memory.numbers l.memory.text l.self.written l.shown (lent_state l.place false true l.memory.starts l.memory.ends l.memory.hashes l.recorded)
    × (length l.memory.starts ≡ length l.initial.memory.starts)
    × (length l.memory.ends ≡ length l.initial.memory.ends)
    × (length l.memory.hashes ≡ length l.initial.memory.hashes)
    × (length l.memory.numbers ≡ length l.initial.memory.numbers)
    × (length l.memory.text ≡ length l.initial.memory.text)
    × (l.self.tag ≡ l.initial.self.tag)

abbrev pub decreases-loop-left : goal.decreases-loop-left
decreases-loop-left g l = length l.tag + 1 - l.shown
