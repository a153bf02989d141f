-- `replay_scopes::turn_of` meets its contract: the call is made with the parts of the record.
use mathlib.Core.Path.{◌∙◌}
use Rattle.scan.proofs.Lists.{to_end}
use Rattle.replay_scopes.specs.Replay.{turn_of}
use Rattle.scan.specs.Bytes.{part}
use Rattle.replay_scopes.proofs.turn_of.Goals as goal

pub returns : goal.returns
unfolding turn_of part
returns g c = c.held_to.ensures ∙ rw (c.make-made.ensures, c.call_of.ensures, c.two_at.ensures, c.two_at-2.ensures, to_end)
