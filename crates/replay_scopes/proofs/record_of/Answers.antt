-- `replay_scopes::record_of` meets its contract: a whole record is a turn.
use mathlib.Core.Path.{sym, ◌∙◌}
use Rattle.replay_scopes.specs.Replay.{turn_at, call_record_of}
use Rattle.replay_scopes.proofs.Laws.{whole_fits}
use Rattle.replay_scopes.proofs.record_of.Goals as goal

pub turn_of-requires : goal.turn_of-requires
turn_of-requires g c = whole_fits c.args.rest.now (sym c.lengths_of-lengths.ensures ∙ c.in-Some.is)

pub returns-in-Some : goal.returns-in-Some
unfolding turn_at call_record_of
returns-in-Some g c = rw (sym c.lengths_of-lengths.ensures ∙ c.in-Some.is) c.turn_of.ensures

pub returns-in-None : goal.returns-in-None
unfolding turn_at call_record_of
returns-in-None g c = rw (sym c.lengths_of-lengths.ensures ∙ c.in-None.is)
