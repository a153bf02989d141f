-- `scope_push::take_all` meets its contract: what all declarations of the tag leave is what those from the place leave of the
-- memory as it is. The measure is what is left to read.
use mathlib.Core.Path.{◌≡◌}
use mathlib.Core.Bool.{true}
use lib.ListN.{length}
use Rattle.tag_step.specs.Read.{recover_of}
use Rattle.tag_step.specs.Next.{place_good}
use Rattle.tag_step.proofs.Run.{todo}
use Rattle.scope_change.specs.Change.{whole}
use Rattle.scope_push.specs.Push.{tag_declarations}
use Rattle.scope_push.specs.Run.{one_by_one}
use Rattle.scope_push.proofs.Run.{Kept}
use Rattle.scope_push.proofs.Turns.{declarations_at}
use Rattle.scope_push.proofs.take_all.Given as goal

abbrev pub invariant-loop-found : goal.invariant-loop-found
invariant-loop-found l = Kept l.initial.text l.initial.records l.text l.records l.left
    × (place_good l.tag l.place ≡ true)
    × (one_by_one whole (tag_declarations l.tag l.from) l.initial.text l.initial.records l.initial.left ≡ one_by_one whole (declarations_at l.tag l.place) l.text l.records l.left)

abbrev pub decreases-loop-found : goal.decreases-loop-found
decreases-loop-found l = todo (length l.tag) (recover_of l.tag l.place)
