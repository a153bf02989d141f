-- `tag_step::step_unchecked` meets its contract: with checks off a step is the same on any tables, so none are given to it, and it
-- lacks no place.
use Rattle.tag_keys.proofs.Laws.{keys_none}
use Rattle.tag_keys.proofs.Sieve.{sieve_unasked}
use Rattle.tag_step.proofs.Unchecked.{unchecked_made, unchecked_never}
use Rattle.tag_step.proofs.step_unchecked.Goals as goal

pub step_in-step-requires : goal.step_in-step-requires
step_in-step-requires c = record { keys_in = keys_none _ _ _ _; sieve_of = sieve_unasked _ _ _ }

pub returns-in-Some : goal.returns-in-Some
returns-in-Some c = unchecked_made _ _ _ c.requires _ _ _ _ _ _ _ c.step_in-step.ensures.0 _ c.in-Some.is

pub returns-in-None : goal.returns-in-None
returns-in-None c = absurd (unchecked_never _ _ _ c.requires _ _ _ _ _ _ _ c.step_in-step.ensures.0 c.in-None.is)
