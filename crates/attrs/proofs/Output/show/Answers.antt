-- `attrs::Output::show` meets its contract: tables of zeros are those of a fresh iterator, and the text has room for a page.
use mathlib.Core.Path.{refl}
use native.Mathlib.Omega.{arith}
use Rattle.tag_batch.specs.Batch.{answers_room}
use Rattle.attrs.proofs.Output.show.Goals as goal

pub show_on-requires : goal.show_on-requires
unfolding answers_room
show_on-requires g c = record { lent = record { starts = refl; ends = refl; hashes = refl; room = refl }; fresh = (refl, refl, refl); room = omega arith; counted = c.requires }
