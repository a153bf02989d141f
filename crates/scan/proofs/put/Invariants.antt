-- `scan::put` meets its contract: after i turns the text is what it was with the first i bytes of s pasted in.
use mathlib.Core.Path.{◌≡◌}
use lib.Seq.{paste}
use Rattle.scan.proofs.put.Given as goal

abbrev pub invariant-loop-i : goal.invariant-loop-i
invariant-loop-i l = l.text ≡ paste l.initial.text l.at l.s l.i
