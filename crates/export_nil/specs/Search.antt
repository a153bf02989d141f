-- A search for `nil` across the boundary: the resolver and the iterator stand in lent memory, and the answer is a number.
use Rattle.std.specs.Prelude.{ℕ, Bool, List, length, get_or}
use Rattle.tag_step.specs.declared.Place.{Place}
use Rattle.scope_nil.specs.declared.HasNil.{HasNil}
use Rattle.scope_nil.specs.Nil.{nil_number, has_nil_in}
use Rattle.export_cursor.specs.Cursor.{place_from, settled_of, held_in}
use Rattle.export_memory.specs.Boundary.{head_in}

-- what a call answers, and the iterator's arrays after it
pub record NilEnd : Type 0 where
  pub result : ℕ
  pub starts : List ℕ
  pub ends : List ℕ
  pub hashes : List ℕ
  pub state : List ℕ

abbrev pub nil_end : ℕ → (starts ends hashes state : List ℕ) → NilEnd
nil_end r starts ends hashes state = record { result = r; starts = starts; ends = ends; hashes = hashes; state = state }

-- What a search leaves: of the iterator's numbers the fourth is not touched.
unfoldable pub nil_end_of : (state : List ℕ) (before : Place) → HasNil → NilEnd
nil_end_of state before h =
    nil_end (nil_number h.answer) h.state.starts h.state.ends h.state.hashes
    (settled_of state before h.state.place h.state.count)

-- The iterator and the resolver as they stand in lent memory.
unfoldable pub has_nil_by : (text records head tag keyStarts keyEnds keyHashes state : List ℕ) (html checks : Bool) → NilEnd
has_nil_by text records head tag keyStarts keyEnds keyHashes state html checks =
    nil_end_of state (place_from (length tag) (get_or state 0 0) (get_or state 1 0))
    (has_nil_in tag (held_in tag keyStarts keyEnds keyHashes state html checks) text records (head_in head))
