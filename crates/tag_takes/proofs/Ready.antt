-- What one turn of the loop over ready answers does.
use Prim.Native.Nat.{ℕ, suc, ◌+◌, ◌*◌, ◌≤◌, ◌<◌}
use mathlib.Core.Path.{◌≡◌, refl, ap, ◌∙◌}
use mathlib.Core.Bool.{Bool, true, false}
use mathlib.Core.List.{List, []}
use lib.ListN.{length}
use Rattle.std.proofs.Common.{Option, Some, None}
use Rattle.scan.specs.Lists.{over}
use Rattle.tag_step.specs.Answer.{Answer}
use Rattle.tag_step.specs.declared.IterState.{IterState}
use Rattle.tag_step.specs.declared.Place.{Place}
use Rattle.tag_step.specs.declared.Advance.{Advance}
use Rattle.tag_step.specs.Next.{keys_lent, step_of, lent_state}
use Rattle.tag_step.specs.Lent.{whole_next, needs_more, stepped_of, taken, taken_on}
use Rattle.tag_step.specs.Run.{is_end}
use Rattle.tag_batch.specs.declared.Why.TheVariants.{OutFull, AtEnd, LendMore}
use Rattle.tag_batch.specs.Batch.{five_of, Ran, ran, ahead, batched, read}
use Rattle.tag_batch.proofs.Turns.{TurnOf, turn_stops, turn_next, turn_full, stopped, short_needs, short_left, step_held, step_answer, step_leaves, step_ripe}
use Rattle.tag_takes.specs.Takes.{looks_past, ready_of, ready_shown}

abbrev pub readies : Bool → List ℕ → ℕ → IterState → Ran
readies finished s n st = ready_of finished n s st

-- a step: it has to wait, it lacks a place, it is the end, or it gives an answer
module _ (finished : Bool) (s : List ℕ) (st : IterState) (m : ℕ) where
  ready_waits : looks_past finished s st ≡ true → ready_of finished (suc m) s st ≡ ran [] st AtEnd
  unfolding ready_of
  ready_waits h = rw h

  module _ (looks : looks_past finished s st ≡ false) where
    ready_short : needs_more s st ≡ true → ready_of finished (suc m) s st ≡ ran [] st LendMore
    unfolding ready_of
    ready_short h = rw (looks, h)

    module _ (held : needs_more s st ≡ false) (a : Answer) (after : IterState) (answer : (whole_next s st).answer ≡ a) (leaves : stepped_of s st ≡ after) where
      ready_end : is_end a ≡ true → ready_of finished (suc m) s st ≡ ran [] after AtEnd
      unfolding ready_of
      ready_end e = rw (looks, held, answer, e, leaves)

      ready_next : is_end a ≡ false → ready_of finished (suc m) s st ≡ ahead a (ready_of finished m s after)
      unfolding ready_of
      ready_next e = rw (looks, held, answer, e, leaves)

pub ready_full : (finished : Bool) (s : List ℕ) (first : IterState) (whole : List ℕ) (n : ℕ) (st : IterState) (out : List ℕ) → TurnOf s (readies finished s) first whole n st out → length out < 5 * n + 5
    → stopped n st OutFull out ≡ ready_shown finished s first whole
unfolding ready_of
ready_full finished s first whole n st out t h = turn_full s (readies finished s) first whole n st out t h refl

module _ (finished : Bool) (s : List ℕ) (first : IterState) (whole : List ℕ) (n : ℕ) (place : Place) (html checks : Bool) (starts ends hashes : List ℕ) (count : ℕ) (out : List ℕ)
    (t : TurnOf s (readies finished s) first whole n (lent_state place html checks starts ends hashes count) out) (room : 5 * n + 5 ≤ length out) where
  abbrev st : IterState
  st = lent_state place html checks starts ends hashes count

  -- it looks at or past the end
  pub waits_here : looks_past finished s st ≡ true → batched (read n place count AtEnd) starts ends hashes out ≡ ready_shown finished s first whole
  waits_here h = turn_stops s (readies finished s) first whole n st out t room st AtEnd (λ k. ready_waits finished s st k h)

  module _ (looks : looks_past finished s st ≡ false) (r : Option Advance) (starts' ends' hashes' : List ℕ) (e : taken r starts' ends' hashes' count ≡ taken_on (keys_lent starts ends hashes count) (step_of s html checks (keys_lent starts ends hashes count) place)) where
    pub short_here : r ≡ None → batched (read n place count LendMore) starts' ends' hashes' out ≡ ready_shown finished s first whole
    short_here m =
        ap (λ (x : IterState). stopped n x LendMore out) (short_left s place html checks starts ends hashes count t.ripe r starts' ends' hashes' e m)
        ∙ turn_stops s (readies finished s) first whole n st out t room st LendMore (λ k. ready_short finished s st k looks (short_needs s place html checks starts ends hashes count t.ripe r starts' ends' hashes' e m))

    module _ (o : Advance) (m : r ≡ Some o) where
      abbrev left : IterState
      left = lent_state o.place html checks starts' ends' hashes' o.count

      held : needs_more s st ≡ false
      held = step_held s place html checks starts ends hashes count t.ripe r starts' ends' hashes' e o m

      answer : (whole_next s st).answer ≡ o.answer
      answer = step_answer s place html checks starts ends hashes count t.ripe r starts' ends' hashes' e o m

      leaves : stepped_of s st ≡ left
      leaves = step_leaves s place html checks starts ends hashes count t.ripe r starts' ends' hashes' e o m

      pub ends_here : is_end o.answer ≡ true → batched (read n o.place o.count AtEnd) starts' ends' hashes' out ≡ ready_shown finished s first whole
      ends_here h = turn_stops s (readies finished s) first whole n st out t room left AtEnd (λ k. ready_end finished s st k looks held o.answer left answer leaves h)

      pub goes_here : is_end o.answer ≡ false → TurnOf s (readies finished s) first whole (n + 1) left (over out (5 * n) (five_of o.answer))
      goes_here h =
          turn_next s (readies finished s) first whole n st out t room o.answer left (λ k. ready_next finished s st k looks held o.answer left answer leaves h)
          (step_ripe s place html checks starts ends hashes count t.ripe r starts' ends' hashes' e o m)
