-- The ways in which a batch comes back over the boundary, each as `read_batch_of` says it.
use Prim.Native.Nat.{ℕ, ◌≤◌, ◌<◌}
use mathlib.Core.Path.{◌≡◌, sym, ap, ◌∙◌}
use mathlib.Core.Bool.{Bool}
use mathlib.Core.List.{List}
use lib.ListN.{length, get_or, set}
use borrow.Author.Tests.{lt-ltb, le-ltb}
use Rattle.std.specs.Prelude.{Result, Ok, Err}
use Rattle.tag_step.specs.declared.Place.{Place}
use Rattle.tag_step.specs.Next.{lent_state}
use Rattle.tag_batch.specs.declared.BatchRead.{BatchRead}
use Rattle.tag_batch.specs.declared.WrongTables.{WrongTables}
use Rattle.tag_batch.specs.declared.Why.{Why}
use Rattle.tag_batch.specs.Batch.{why_number, batched, batch_of}
use Rattle.export_cursor.specs.Cursor.{place_from, settled_of, held_in}
use Rattle.export_tags.specs.Reading.{batch_end, NONE, state_by, across, read_batch_of}

module _ (tag starts ends hashes state out : List ℕ) (html checks : Bool) (place : Place) (stands : place ≡ place_from (length tag) (get_or state 0 0) (get_or state 1 0))
    (b : Result BatchRead WrongTables) (starts' ends' hashes' out' : List ℕ) (e : batched b starts' ends' hashes' out' ≡ batch_of tag (lent_state place html checks starts ends hashes (get_or state 2 0)) out) where
  went : across state place (length out) (batched b starts' ends' hashes' out') ≡ read_batch_of tag starts ends hashes state out html checks
  unfolding read_batch_of held_in
  went =
      ap (across state place (length out)) e
      ∙ ap (λ (p : Place). across state p (length out) (batch_of tag (lent_state p html checks starts ends hashes (get_or state 2 0)) out)) stands

  -- tables that are too long
  pub tables_refused : b ≡ Err (record {}) → batch_end NONE starts' ends' hashes' state out' ≡ read_batch_of tag starts ends hashes state out html checks
  unfolding state_by
  tables_refused w = ap (λ (x : Result BatchRead WrongTables). across state place (length out) (batched x starts' ends' hashes' out')) (sym w) ∙ went

  module _ (y : BatchRead) (r : b ≡ Ok y) where
    -- no room
    pub room_none : length out < 5 → batch_end y.answers starts' ends' hashes' state out' ≡ read_batch_of tag starts ends hashes state out html checks
    unfolding state_by
    room_none h =
        rw (lt-ltb (length out) 5 h) at (ap (λ (x : Result BatchRead WrongTables). across state place (length out) (batched x starts' ends' hashes' out')) (sym r)) ∙ went

    pub read_leaves : 5 ≤ length out → (state' : List ℕ) → state' ≡ set (settled_of state place y.place y.count) 3 (why_number y.why) → batch_end y.answers starts' ends' hashes' state' out' ≡ read_batch_of tag starts ends hashes state out html checks
    unfolding state_by
    read_leaves h state' w =
        ap (λ (l : List ℕ). batch_end y.answers starts' ends' hashes' l out') w
        ∙ (rw (le-ltb (length out) 5 h) at (ap (λ (x : Result BatchRead WrongTables). across state place (length out) (batched x starts' ends' hashes' out')) (sym r))) ∙ went

-- the numbers as the code leaves them
pub settled : (state' : List ℕ) (k : ℕ) {w : List ℕ} {m : ℕ} (e : state' ≡ w) → k ≡ m → set state' 3 k ≡ set w 3 m
settled state' k e n = rw (e, n)
