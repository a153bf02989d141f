-- What each call leaves in a caller's memory, one law for each way out.
use Prim.Native.Nat.{ℕ, ◌≤◌, ◌<◌}
use mathlib.Core.Path.{◌≡◌, refl, sym, ap, ◌∙◌}
use mathlib.Core.Bool.{Bool, true, false, false≢true}
use mathlib.Core.List.{List}
use lib.ListN.{length, get_or, set}
use borrow.Author.Tests.{le-leb, lt-leb, lt-ltb, le-ltb, eq-eqb, ne_eqb}
use Rattle.tag_step.specs.declared.Place.{Place}
use Rattle.tag_batch.specs.declared.Why.{Why}
use Rattle.tag_batch.specs.Batch.{why_number}
use Rattle.tag_phase.specs.declared.Phase.{Phase}
use Rattle.tag_phase.specs.declared.Phase.TheVariants.{Begin}
use Rattle.tag_pieces.specs.declared.Cursor.{Cursor}
use Rattle.std.specs.Prelude.{Result, Ok, Err}
use Rattle.tag_pieces.specs.declared.FeedError.{FeedError}
use Rattle.tag_pieces.specs.Reader.{hold, fed_number, is_accepted, grown, piece_in}
use Rattle.tag_takes.specs.declared.TakesRead.{TakesRead}
use Rattle.tag_takes.specs.declared.WrongLength.{WrongLength}
use Rattle.tag_takes.specs.Takes.{TakeEnd, take_end, lent_reader, take_all_of}
use Rattle.tag_takes.specs.Takes as Takes
use Rattle.export_cursor.specs.Cursor.{settled_of}
use Rattle.export_pieces.specs.Pieces.{phase_kind, phase_start, phase_end, phase_put, place_in, cursor_in, piece_end, reader_fed, piece_shown, mz_piece_of, finish_end, mz_finish_of, NONE, numbers_left, reader_by, answers_end, take_shown, mz_take_of}

-- A piece.

accepted_none : (fed : Result (Unit {0}) FeedError) → is_accepted fed ≡ true → fed_number fed ≡ 0
unfolding is_accepted fed_number
accepted_none (Ok u) e = refl
accepted_none (Err x) e = absurd (false≢true e)

module _ (text reader p : List ℕ) where
  pub piece_long : hold < length text → piece_end 99 text reader ≡ mz_piece_of text reader p
  unfolding mz_piece_of
  piece_long h = rw (lt-leb (length text) hold h)

  module _ (h : length text ≤ hold) (at : Cursor) (stands : at ≡ cursor_in reader false false) (fed : Result (Unit {0}) FeedError) (text' : List ℕ) (held : ℕ) (phase : Phase)
      (is : grown fed text' held phase ≡ piece_in text at.held at.finished at.place at.phase p) where
    shown : piece_shown reader (grown fed text' held phase) ≡ mz_piece_of text reader p
    unfolding mz_piece_of cursor_in
    shown =
        ap (piece_shown reader) is
        ∙ ap (λ (x : Cursor). piece_shown reader (piece_in text x.held x.finished x.place x.phase p)) stands
        ∙ rw (le-leb (length text) hold h)

    pub piece_refused : is_accepted fed ≡ false → (n : ℕ) → n ≡ fed_number fed → piece_end n text' reader ≡ mz_piece_of text reader p
    unfolding reader_fed
    piece_refused a n e = rw e (rw a at shown)

    pub piece_taken : is_accepted fed ≡ true → (left : List ℕ) → left ≡ phase_put (set (set reader 3 0) 4 held) (phase_kind phase) (phase_start phase) (phase_end phase) → piece_end 0 text' left ≡ mz_piece_of text reader p
    unfolding reader_fed
    piece_taken a left e =
        rw e
        (ap (λ (n : ℕ). piece_end n text' (phase_put (set (set reader 3 0) 4 held) (phase_kind phase) (phase_start phase) (phase_end phase))) (sym (accepted_none fed a))
        ∙ rw a at shown)

-- The finish.

pub finish_again : (reader : List ℕ) → (get_or reader 5 0 ≡ 0 → ⊥) → finish_end 32 reader ≡ mz_finish_of reader
unfolding mz_finish_of
finish_again reader f = rw (ne_eqb (get_or reader 5 0) 0 f)

pub finish_first : (reader : List ℕ) → get_or reader 5 0 ≡ 0 → finish_end 0 (set (set reader 3 0) 5 1) ≡ mz_finish_of reader
unfolding mz_finish_of
finish_first reader e = rw (eq-eqb (get_or reader 5 0) 0 e)

-- The numbers after answers.

module _ (reader : List ℕ) (before after : Place) (count held n : ℕ) (why : Why) (settled : List ℕ) (is : settled ≡ settled_of reader before after count) (number : ℕ) (reason : number ≡ why_number why) where
  pub left_none : n ≡ 0 → set (set settled 3 number) 4 held ≡ numbers_left reader before after count held n why
  unfolding numbers_left
  left_none e = rw (is, reason, eq-eqb n 0 e)

  pub left_some : (n ≡ 0 → ⊥) → (put : List ℕ) → put ≡ phase_put (set (set settled 3 number) 4 held) (phase_kind Begin) (phase_start Begin) (phase_end Begin) → put ≡ numbers_left reader before after count held n why
  unfolding numbers_left phase_kind phase_start phase_end
  left_some f put e = e ∙ rw (is, reason, ne_eqb n 0 f)

-- Answers.

module _ (text starts ends hashes reader out : List ℕ) (html checks : Bool) (at : Cursor) (stands : at ≡ cursor_in reader html checks) (starts' ends' hashes' out' : List ℕ) (r : Result TakesRead WrongLength)
    (is : Takes.took_end r at text starts' ends' hashes' out' ≡ take_all_of (lent_reader at text starts ends hashes) out) where
  across : take_shown reader (place_in reader) (length out) (Takes.took_end r at text starts' ends' hashes' out') ≡ mz_take_of text starts ends hashes reader out html checks
  unfolding mz_take_of
  across = ap (take_shown reader (place_in reader) (length out)) (is ∙ rw stands)

  pub take_wrong : r ≡ Err (record {}) → answers_end NONE starts' ends' hashes' reader out' ≡ mz_take_of text starts ends hashes reader out html checks
  unfolding reader_by
  take_wrong e = rw e at across

  module _ (x : TakesRead) (e : r ≡ Ok x) where
    pub take_no_room : length out < 5 → answers_end x.answers starts' ends' hashes' reader out' ≡ mz_take_of text starts ends hashes reader out html checks
    unfolding reader_by
    take_no_room h = rw (e, lt-ltb (length out) 5 h) at across

    pub take_leaves : 5 ≤ length out → (put : List ℕ) → put ≡ numbers_left reader at.place x.cursor.place x.cursor.count x.cursor.held x.answers x.why → answers_end x.answers starts' ends' hashes' put out' ≡ mz_take_of text starts ends hashes reader out html checks
    unfolding reader_by cursor_in
    take_leaves h put p = rw (p, stands) (rw (e, le-ltb (length out) 5 h) at across)
