-- A batch across the boundary: an iterator in three lent tables and four lent numbers, and what a call leaves in them.
use Rattle.std.specs.Prelude.{ℕ, Bool, List, length, get_or, set, ltb, Result, Ok, Err}
use Rattle.scan.specs.First.{pick}
use Rattle.tag_step.specs.declared.Place.{Place}
use Rattle.tag_batch.specs.declared.BatchRead.{BatchRead}
use Rattle.tag_batch.specs.declared.WrongTables.{WrongTables}
use Rattle.tag_batch.specs.Batch.{why_number, Batched, batch_of}
use Rattle.export_cursor.specs.Cursor.{place_from, settled_of, held_in}

-- what a call answers, and the lent memory after it
pub record BatchEnd : Type 0 where
  pub answers : ℕ
  pub starts : List ℕ
  pub ends : List ℕ
  pub hashes : List ℕ
  pub state : List ℕ
  pub out : List ℕ

abbrev pub batch_end : ℕ → (starts ends hashes state out : List ℕ) → BatchEnd
batch_end n starts ends hashes state out =
    record { answers = n; starts = starts; ends = ends; hashes = hashes; state = state; out = out }

-- no number of answers: the largest number there is
abbrev pub NONE : ℕ
NONE = 18446744073709551615

-- the number of answers; none for tables that are too long
abbrev pub answers_number : Result BatchRead WrongTables → ℕ
answers_number (Ok x) = x.answers
answers_number (Err e) = NONE

-- The four numbers after a batch: the place that is left, the recorded keys, and why it stopped. With room for no answer
-- nothing is written, nor where the tables are too long.
unfoldable pub state_by : (state : List ℕ) (before : Place) (room : ℕ) → Result BatchRead WrongTables → List ℕ
state_by state before room (Ok x) =
    pick (ltb room 5) state (set (settled_of state before x.place x.count) 3 (why_number x.why))
state_by state before room (Err e) = state

-- a batch, with those numbers before it and the room that it had
abbrev pub across : (state : List ℕ) (before : Place) (room : ℕ) → Batched → BatchEnd
across state before room x =
    batch_end (answers_number x.batch) x.starts x.ends x.hashes (state_by state before room x.batch) x.out

unfoldable pub read_batch_of : (tag starts ends hashes state out : List ℕ) (html checks : Bool) → BatchEnd
read_batch_of tag starts ends hashes state out html checks =
    across state (place_from (length tag) (get_or state 0 0) (get_or state 1 0)) (length out)
    (batch_of tag (held_in tag starts ends hashes state html checks) out)
