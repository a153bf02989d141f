-- `replay_names::replay` meets its contract: the run from the start is the run from the place. The measure is what is left.
use mathlib.Core.Path.{refl}
use Rattle.replay.specs.Run.{replay_each}
use Rattle.replay.proofs.Turns.{stands_first, stands_next, stands_nearer, stands_last, fits}
use Rattle.replay_names.specs.Replay.{names_replayed}
use Rattle.replay_names.proofs.Laws.{passes}
use Rattle.replay_names.proofs.replay.Goals as goal

pub loop-run-init : goal.loop-run-init
loop-run-init c = rw c.begun-run.ensures (stands_first _ _ _ 0)

pub after-run-requires : goal.after-run-requires
after-run-requires c = fits _ _ _ c.loop-run.invariant c.loop-run-test.true c.record_of-step.ensures passes

pub loop-run-smaller : goal.loop-run-smaller
loop-run-smaller c = stands_nearer _ _ _ c.loop-run.invariant c.loop-run-test.true c.record_of-step.ensures passes c.after-run.ensures

pub loop-run-preserved : goal.loop-run-preserved
loop-run-preserved c = stands_next _ _ _ c.loop-run.invariant c.loop-run-test.true c.record_of-step.ensures passes c.after-run.ensures refl

pub returns : goal.returns
unfolding names_replayed replay_each
returns c = stands_last _ _ _ c.loop-run.invariant c.loop-run-test.false
