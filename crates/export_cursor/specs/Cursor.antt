-- An iterator that stands in lent memory: three tables of recorded keys, and four numbers, of which the last is only written.
use Rattle.std.specs.Prelude.{ℕ, Bool, ◌&&◌, List, length, get_or, set, eqb}
use Rattle.scan.specs.First.{pick}
use Rattle.tag_step.specs.declared.Place.{Place}
use Rattle.tag_step.specs.declared.Place.TheVariants.{Done, Next, SkipValue, SkipEqValue}
use Rattle.tag_step.specs.declared.IterState.{IterState}
use Rattle.tag_step.specs.Next.{lent_state}

-- A place as its kind and its position: 0 done, 1 next, 2 skip value, 3 skip from `=`. Another kind is no place that
-- reading leaves, so it is read as a value to be skipped at the tag's end, which refusal 7 answers. Position beside done
-- says nothing, and is left as 0.
unfoldable pub place_from : (end kind position : ℕ) → Place
place_from end kind position =
    pick (eqb kind 0) Done
    (pick (eqb kind 1) (Next position)
    (pick (eqb kind 2) (SkipValue position)
    (pick (eqb kind 3) (SkipEqValue position)
    (SkipValue end))))

unfoldable pub kind_of : Place → ℕ
kind_of Done = 0
kind_of (Next o) = 1
kind_of (SkipValue o) = 2
kind_of (SkipEqValue o) = 3

unfoldable pub position_of : Place → ℕ
position_of Done = 0
position_of (Next o) = o
position_of (SkipValue o) = o
position_of (SkipEqValue o) = o

-- two places are the same
unfoldable pub same_place : Place → Place → Bool
same_place p q = eqb (kind_of p) (kind_of q) && eqb (position_of p) (position_of q)

-- The numbers after a call: one that leaves the place as it was leaves kind and position as they were, whatever stands beside
-- done; done that is newly reached is 0, 0. A fourth number, where there is one, is not touched.
unfoldable pub settled_of : List ℕ → (before after : Place) → ℕ → List ℕ
settled_of state before after recorded =
    pick (same_place before after) (set state 2 recorded)
    (set (set (set state 2 recorded) 0 (kind_of after)) 1 (position_of after))

-- the iterator that stands in lent memory
unfoldable pub held_in : (tag starts ends hashes state : List ℕ) (html checks : Bool) → IterState
held_in tag starts ends hashes state html checks =
    lent_state (place_from (length tag) (get_or state 0 0) (get_or state 1 0)) html checks starts ends hashes (get_or state 2 0)
