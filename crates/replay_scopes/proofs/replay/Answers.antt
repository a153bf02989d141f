-- `replay_scopes::replay` meets its contract: the run from the start is the run from the place. The measure is what is left.
use mathlib.Core.Path.{ap}
use Rattle.scope_table.specs.Table.{fresh_of}
use Rattle.replay.proofs.Turns.{stands_first, stands_next, stands_nearer, stands_last, fits}
use Rattle.replay_scopes.specs.Replay.{calls_replayed}
use Rattle.replay_scopes.proofs.Laws.{passes}
use Rattle.replay_scopes.proofs.replay.Goals as goal

pub loop-run-init : goal.loop-run-init
loop-run-init g c = rw (c.fresh-resolver.ensures, c.begun-run.ensures) (stands_first _ _ _ fresh_of)

pub after-run-requires : goal.after-run-requires
after-run-requires g c = fits _ _ _ c.loop-run.invariant c.loop-run-test.true (ap (λ t. t.step) c.record_of-turn.ensures) (passes _)

pub loop-run-smaller : goal.loop-run-smaller
loop-run-smaller g c = stands_nearer _ _ _ c.loop-run.invariant c.loop-run-test.true (ap (λ t. t.step) c.record_of-turn.ensures) (passes _) c.after-run.ensures

pub loop-run-preserved : goal.loop-run-preserved
loop-run-preserved g c = stands_next _ _ _ c.loop-run.invariant c.loop-run-test.true (ap (λ t. t.step) c.record_of-turn.ensures) (passes _) c.after-run.ensures (ap (λ t. t.resolver) c.record_of-turn.ensures)

pub returns : goal.returns
unfolding calls_replayed
returns g c = stands_last _ _ _ c.loop-run.invariant c.loop-run-test.false
