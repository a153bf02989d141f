-- `replay_tags::agrees_on` meets its contract: what is left of the run and of the record decides. The measure is how many
-- recorded answers are left.
use Prim.Native.Nat.{◌-◌, ◌*◌, ◌≤◌}
use mathlib.Core.Path.{◌≡◌}
use lib.ListN.{length, drop}
use Rattle.tag_step.proofs.Good.{Sized}
use Rattle.tag_step.specs.Next.{lent_state}
use Rattle.replay_tags.specs.Replay.{answers_agree}
use Rattle.replay_tags.proofs.agrees_on.Given as goal

abbrev pub invariant-loop-read : goal.invariant-loop-read
invariant-loop-read l = (l.total ≤ l.answers)
    × Sized (lent_state l.place l.html l.checks l.starts l.ends l.hashes l.keys)
    × (answers_agree l.tag (lent_state l.initial.place l.html l.checks l.initial.starts l.initial.ends l.initial.hashes l.initial.keys) l.answers l.recorded ≡ answers_agree l.tag (lent_state l.place l.html l.checks l.starts l.ends l.hashes l.keys) (l.answers - l.total) (drop (10 * l.total) l.recorded))
    × (length l.out ≡ length l.initial.out)
    × (length l.starts ≡ length l.initial.starts)
    × (length l.ends ≡ length l.initial.ends)
    × (length l.hashes ≡ length l.initial.hashes)

abbrev pub decreases-loop-read : goal.decreases-loop-read
decreases-loop-read l = l.answers - l.total
