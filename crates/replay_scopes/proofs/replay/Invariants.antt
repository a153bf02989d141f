-- `replay_scopes::replay` meets its contract: the run from the start is the run from the place. The measure is what is left.
use Prim.Native.Nat.{◌-◌}
use lib.ListN.{length}
use Rattle.scope_table.specs.Table.{fresh_of}
use Rattle.replay.proofs.Turns.{Stands}
use Rattle.replay_scopes.specs.Replay.{call_record_of}
use Rattle.replay_scopes.proofs.replay.Given as goal

abbrev pub invariant-loop-run : goal.invariant-loop-run
invariant-loop-run g l = Stands (λ x rest. (call_record_of x rest).step) (λ x rest. (call_record_of x rest).resolver) l.records fresh_of l.resolver l.run

abbrev pub decreases-loop-run : goal.decreases-loop-run
decreases-loop-run g l = length l.records - l.run.at
