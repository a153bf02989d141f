-- `replay_tags::agrees_carried` meets its contract: what is left of the run and of the record decides. The measure is how many
-- recorded answers are left.
use Prim.Native.Nat.{◌-◌, ◌*◌, ◌≤◌}
use mathlib.Core.Path.{◌≡◌}
use lib.ListN.{drop}
use Rattle.tag_step.specs.Next.{opened}
use Rattle.tag_step.proofs.Good.{Sized}
use Rattle.replay_tags.specs.Replay.{answers_agree}
use Rattle.replay_tags.proofs.agrees_carried.Given as goal

abbrev pub invariant-loop-step : goal.invariant-loop-step
invariant-loop-step l = (l.total ≤ l.answers)
    × Sized l.state
    × (answers_agree l.tag (opened l.opening l.html l.checks) l.answers l.recorded ≡ answers_agree l.tag l.state (l.answers - l.total) (drop (10 * l.total) l.recorded))

abbrev pub decreases-loop-step : goal.decreases-loop-step
decreases-loop-step l = l.answers - l.total
