-- A reader of a tag in pieces across the boundary: lent text, three lent key tables, and nine lent numbers: the kind of the place,
-- its position, the recorded keys, why it stopped, the bytes held, whether it is finished, the phase, and the bounds of the key
-- that is under way.
use Rattle.std.specs.Prelude.{ℕ, Bool, not, List, length, get_or, set, eqb, ltb, leb, None, Some}
use Rattle.scan.specs.First.{pick}
use Rattle.tag_step.specs.declared.Place.{Place}
use Rattle.tag_step.specs.Read.{span}
use Rattle.tag_batch.specs.declared.Why.{Why}
use Rattle.tag_batch.specs.Batch.{why_number}
use Rattle.tag_phase.specs.declared.Phase.{Phase}
use Rattle.tag_phase.specs.declared.Phase.TheVariants.{Begin, Due, InSkip, InSpace, InKey, AfterKey, BeforeValue, InDouble, InSingle, InUnquoted}
use Rattle.tag_pieces.specs.declared.Cursor.{Cursor}
use Rattle.tag_pieces.specs.declared.Reader.{Reader}
use Rattle.tag_pieces.specs.Reader.{hold, fed_number, is_accepted, Grown, piece_in}
use Rattle.tag_takes.specs.Takes.{Counted, TakeEnd, lent_reader, take_all_of}
use Rattle.export_cursor.specs.Cursor.{place_from, settled_of}

-- A phase as its number and the bounds that it has. Any other number than these is read as 0, from where everything is looked at.
unfoldable pub phase_from : (kind start end : ℕ) → Phase
phase_from kind start end =
    pick (eqb kind 1) Due
    (pick (eqb kind 2) InSkip
    (pick (eqb kind 3) InSpace
    (pick (eqb kind 4) (InKey start)
    (pick (eqb kind 5) (AfterKey (span start end))
    (pick (eqb kind 6) (BeforeValue (span start end))
    (pick (eqb kind 7) (InDouble (span start end))
    (pick (eqb kind 8) (InSingle (span start end))
    (pick (eqb kind 9) (InUnquoted (span start end))
    Begin))))))))

unfoldable pub phase_kind : Phase → ℕ
phase_kind Begin = 0
phase_kind Due = 1
phase_kind InSkip = 2
phase_kind InSpace = 3
phase_kind (InKey start) = 4
phase_kind (AfterKey key) = 5
phase_kind (BeforeValue key) = 6
phase_kind (InDouble key) = 7
phase_kind (InSingle key) = 8
phase_kind (InUnquoted key) = 9

unfoldable pub phase_start : Phase → ℕ
phase_start Begin = 0
phase_start Due = 0
phase_start InSkip = 0
phase_start InSpace = 0
phase_start (InKey start) = start
phase_start (AfterKey key) = key.start
phase_start (BeforeValue key) = key.start
phase_start (InDouble key) = key.start
phase_start (InSingle key) = key.start
phase_start (InUnquoted key) = key.start

unfoldable pub phase_end : Phase → ℕ
phase_end Begin = 0
phase_end Due = 0
phase_end InSkip = 0
phase_end InSpace = 0
phase_end (InKey start) = 0
phase_end (AfterKey key) = key.end
phase_end (BeforeValue key) = key.end
phase_end (InDouble key) = key.end
phase_end (InSingle key) = key.end
phase_end (InUnquoted key) = key.end

-- the numbers with a phase written into them
abbrev pub phase_put : List ℕ → ℕ → ℕ → ℕ → List ℕ
phase_put reader kind start end = set (set (set reader 6 kind) 7 start) 8 end

-- any number but 0 says that the tag is finished
abbrev pub finished_in : List ℕ → Bool
finished_in reader = not (eqb (get_or reader 5 0) 0)

-- the place; a kind that is none counts as a value to be skipped at the end of what is held, which refusal 7 answers
abbrev pub place_in : List ℕ → Place
place_in reader = place_from (get_or reader 4 0) (get_or reader 0 0) (get_or reader 1 0)

unfoldable pub cursor_in : List ℕ → (html checks : Bool) → Cursor
cursor_in reader html checks =
    record {
      place = place_in reader;
      html = html;
      checks = checks;
      count = get_or reader 2 0;
      held = get_or reader 4 0;
      finished = finished_in reader;
      phase = phase_from (get_or reader 6 0) (get_or reader 7 0) (get_or reader 8 0);
    }

-- A piece.

-- what a call answers, and the lent memory after it
pub record PieceEnd : Type 0 where
  pub code : ℕ
  pub text : List ℕ
  pub reader : List ℕ

abbrev pub piece_end : ℕ → (text reader : List ℕ) → PieceEnd
piece_end code text reader = record { code = code; text = text; reader = reader }

-- A piece that is accepted leaves how many bytes are held, the phase, and no reason. Any other leaves the numbers.
unfoldable pub reader_fed : List ℕ → Grown → List ℕ
reader_fed reader g =
    pick (is_accepted g.fed)
    (phase_put (set (set reader 3 0) 4 g.held) (phase_kind g.phase) (phase_start g.phase) (phase_end g.phase)) reader

abbrev pub piece_shown : List ℕ → Grown → PieceEnd
piece_shown reader g = piece_end (fed_number g.fed) g.text (reader_fed reader g)

-- 99 for text that is longer than can be held
unfoldable pub mz_piece_of : (text reader piece : List ℕ) → PieceEnd
mz_piece_of text reader p =
    pick (leb (length text) hold)
    (piece_shown reader
    (piece_in text (get_or reader 4 0) (finished_in reader) (place_in reader) (phase_from (get_or reader 6 0) (get_or reader 7 0) (get_or reader 8 0)) p))
    (piece_end 99 text reader)

-- The finish.

pub record FinishEnd : Type 0 where
  pub code : ℕ
  pub reader : List ℕ

abbrev pub finish_end : ℕ → List ℕ → FinishEnd
finish_end code reader = record { code = code; reader = reader }

unfoldable pub mz_finish_of : List ℕ → FinishEnd
mz_finish_of reader = pick (finished_in reader) (finish_end 32 reader) (finish_end 0 (set (set reader 3 0) 5 1))

-- Answers.

pub record AnswersEnd : Type 0 where
  pub answers : ℕ
  pub starts : List ℕ
  pub ends : List ℕ
  pub hashes : List ℕ
  pub reader : List ℕ
  pub out : List ℕ

abbrev pub answers_end : ℕ → (starts ends hashes reader out : List ℕ) → AnswersEnd
answers_end n starts ends hashes reader out =
    record { answers = n; starts = starts; ends = ends; hashes = hashes; reader = reader; out = out }

-- no number of answers: the largest number there is
abbrev pub NONE : ℕ
NONE = 18446744073709551615

abbrev pub count_number : Counted → ℕ
count_number (Some (n, why)) = n
count_number None = NONE

-- The nine numbers after n answers: the place, the recorded keys and the bytes held that are left, and why there are no more. An
-- answer starts the phase anew.
abbrev pub stopped_in : List ℕ → (before after : Place) → (count held : ℕ) → Why → List ℕ
stopped_in reader before after count held why = set (set (settled_of reader before after count) 3 (why_number why)) 4 held

unfoldable pub numbers_left : List ℕ → (before after : Place) → (count held n : ℕ) → Why → List ℕ
numbers_left reader before after count held n why =
    pick (eqb n 0) (stopped_in reader before after count held why) (phase_put (stopped_in reader before after count held why) 0 0 0)

-- With room for no answer nothing is written, nor where a length is wrong.
unfoldable pub reader_by : List ℕ → Place → (room : ℕ) → Reader → Counted → List ℕ
reader_by reader before room left (Some (n, why)) = pick (ltb room 5) reader (numbers_left reader before left.place left.count left.held n why)
reader_by reader before room left None = reader

abbrev pub take_shown : List ℕ → Place → (room : ℕ) → TakeEnd → AnswersEnd
take_shown reader before room x =
    answers_end (count_number x.counted) x.reader.starts x.reader.ends x.reader.hashes (reader_by reader before room x.reader x.counted) x.out

unfoldable pub mz_take_of : (text starts ends hashes reader out : List ℕ) (html checks : Bool) → AnswersEnd
mz_take_of text starts ends hashes reader out html checks =
    take_shown reader (place_in reader) (length out) (take_all_of (lent_reader (cursor_in reader html checks) text starts ends hashes) out)
