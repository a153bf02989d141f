-- `replay_tags::agrees` meets its contract: tables of zeros are those of a fresh iterator.
use Rattle.tag_step.specs.Next.{opened, no_keys}
use Rattle.replay_tags.specs.Replay.{replay_opened}
use Rattle.replay_tags.proofs.agrees.Goals as goal

pub returns : goal.returns
unfolding replay_opened opened no_keys
returns c = c.agrees_on.ensures
