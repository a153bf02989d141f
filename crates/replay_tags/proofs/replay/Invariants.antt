-- `replay_tags::replay` meets its contract: the run from the start is the run from the place. The measure is what is left.
use Prim.Native.Nat.{ℕ, ◌-◌}
use mathlib.Core.Path.{◌≡◌}
use lib.ListN.{length}
use Rattle.replay.proofs.Turns.{Stands}
use Rattle.replay_tags.specs.Replay.{tag_record_of}
use Rattle.replay_tags.proofs.replay.Given as goal

abbrev pub invariant-loop-run : goal.invariant-loop-run
invariant-loop-run l = Stands {A = ℕ} (λ x rest. tag_record_of rest) (λ x rest. x) l.records 0 0 l.run × (length l.out ≡ length l.initial.out)

abbrev pub decreases-loop-run : goal.decreases-loop-run
decreases-loop-run l = length l.records - l.run.at
