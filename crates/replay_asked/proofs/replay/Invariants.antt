-- `replay_asked::replay` is safe and ends: the place stays within the records, and each turn brings it nearer to their end.
use Prim.Native.Nat.{◌-◌, ◌≤◌}
use lib.ListN.{length}
use Rattle.replay_asked.proofs.replay.Given as goal

abbrev pub invariant-loop-run : goal.invariant-loop-run
invariant-loop-run g l = (l.run.at ≤ length l.records) × (l.run.records ≤ l.run.at)

abbrev pub decreases-loop-run : goal.decreases-loop-run
decreases-loop-run g l = length l.records - l.run.at
