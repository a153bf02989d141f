-- `scan::first_where` meets its contract: whatever test it computes, the answer from `from` is the answer from i.
use Rattle.std.proofs.Common.{◌≡◌, Bool, ℕ, ◌-◌, length}
use Rattle.scan.specs.First.{first_from}
use Rattle.scan.proofs.first_where.Given as goal

abbrev pub invariant-loop-i : goal.invariant-loop-i
invariant-loop-i g l = (p : ℕ → Bool) → ((x : ℕ) (r : Bool) → goal.F-post g l.test x r → r ≡ p x) → first_from p l.tag l.from ≡ first_from p l.tag l.i

abbrev pub decreases-loop-i : goal.decreases-loop-i
decreases-loop-i g l = length l.tag - l.i
