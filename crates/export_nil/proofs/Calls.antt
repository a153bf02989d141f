-- A search across the boundary is the search on lent memory, with the iterator's numbers and the answer's number written.
use Prim.Native.Nat.{ℕ}
use mathlib.Core.Path.{◌≡◌, ap, ◌∙◌}
use mathlib.Core.Bool.{Bool}
use mathlib.Core.List.{List}
use lib.ListN.{length, get_or}
use Rattle.tag_step.specs.declared.Place.{Place}
use Rattle.tag_step.specs.declared.Standing.{Standing}
use Rattle.tag_step.specs.Next.{stands_at}
use Rattle.scope_table.specs.declared.Head.{Head}
use Rattle.scope_nil.specs.declared.Left.{Left}
use Rattle.scope_nil.specs.Nil.{nil_number, nil_left_by, has_nil_in}
use Rattle.export_cursor.specs.Cursor.{place_from, settled_of, held_in}
use Rattle.export_memory.specs.Boundary.{head_in}
use Rattle.export_nil.specs.Search.{nil_end, nil_end_of, has_nil_by}

module _ (text records head tag keyStarts keyEnds keyHashes state : List ℕ) (html checks : Bool) where
  -- the iterator in these numbers, at a place
  abbrev standing : Place → Standing
  standing place = record { place = place; html = html; checks = checks; count = get_or state 2 0 }

  pub nil_made : (h : Head) (place : Place) (out : Left) (keyStarts' keyEnds' keyHashes' state' : List ℕ) (r : ℕ) →
      h ≡ head_in head → place ≡ place_from (length tag) (get_or state 0 0) (get_or state 1 0) →
      nil_left_by (standing place) out keyStarts' keyEnds' keyHashes' ≡ has_nil_in tag (stands_at (standing place) keyStarts keyEnds keyHashes) text records h →
      state' ≡ settled_of state place out.place out.count → r ≡ nil_number out.answer →
      nil_end r keyStarts' keyEnds' keyHashes' state' ≡ has_nil_by text records head tag keyStarts keyEnds keyHashes state html checks
  unfolding nil_end_of has_nil_by held_in
  nil_made h place out keyStarts' keyEnds' keyHashes' state' r read at made left number =
      ap (λ (x : List ℕ). nil_end r keyStarts' keyEnds' keyHashes' x) left
      ∙ ap (λ (k : ℕ). nil_end k keyStarts' keyEnds' keyHashes' (settled_of state place out.place out.count)) number
      ∙ ap (nil_end_of state place) made
      ∙ ap (λ (x : Head). nil_end_of state place (has_nil_in tag (stands_at (standing place) keyStarts keyEnds keyHashes) text records x)) read
      ∙ ap (λ (p : Place). nil_end_of state p (has_nil_in tag (stands_at (standing p) keyStarts keyEnds keyHashes) text records (head_in head))) at
