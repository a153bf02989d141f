-- `scan::same` meets its contract: what the whole slices answer is what their rests from i answer.
use mathlib.Core.Path.{◌≡◌}
use lib.ListN.{drop}
use Rattle.scan.specs.Bytes.{same_bytes}
use Rattle.scan.proofs.same.Given as goal

abbrev pub invariant-loop-i : goal.invariant-loop-i
invariant-loop-i l = same_bytes l.x l.y ≡ same_bytes (drop l.i l.x) (drop l.i l.y)
