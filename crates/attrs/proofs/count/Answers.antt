-- `attrs::count` meets its contract: tables of zeros are those of a fresh iterator.
use mathlib.Core.Path.{refl}
use Rattle.tag_step.specs.Next.{opened, no_keys}
use Rattle.tag_batch.specs.Batch.{answers_room}
use Rattle.attrs.specs.Count.{attrs_opened, attrs_answers}
use Rattle.attrs.proofs.count.Goals as goal

pub count-requires : goal.count-requires
unfolding answers_room
count-requires c = record { starts = refl; ends = refl; hashes = refl; room = refl }

pub returns : goal.returns
unfolding attrs_answers attrs_opened opened no_keys
returns c = c.count.ensures
