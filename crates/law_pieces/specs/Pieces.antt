-- A tag in pieces: document 02, request 1. Each theorem is a named type here.
use Rattle.std.specs.Prelude.{ℕ, ◌+◌, ◌≤◌, ◌<◌, ◌≡◌, Bool, true, false, ◌↔◌, List, [], ◌∷◌, ◌++◌, length, get_or, None, Some, Ok, Err, Option, Result}
use Rattle.scan.specs.First.{first_from}
use Rattle.scan.specs.Bytes.{is_space, not_space, ends_key}
use Rattle.tag_step.specs.Answer.{Answer}
use Rattle.tag_step.specs.declared.Attr.TheVariants.{DoubleQ, SingleQ, Unquoted, Empty}
use Rattle.tag_step.specs.declared.AttrError.TheVariants.{ExpectedEq, ExpectedValue, UnquotedValue, ExpectedQuote, Duplicated, KeyTableFull, BadState}
use Rattle.tag_step.specs.declared.IterState.{IterState}
use Rattle.tag_step.specs.Read.{is_at}
use Rattle.tag_step.specs.Next.{state_good, next_of, opened}
use Rattle.tag_step.specs.Look.{look_next}
use Rattle.tag_step.specs.Run.{is_end, cons_unless, answers_of}
use Rattle.tag_pieces.specs.declared.Reader.{Reader}
use Rattle.tag_pieces.specs.declared.MoreKeys.{MoreKeys}
use Rattle.tag_pieces.specs.Reader.{hold, held_of, iterator_of, piece_of, finish_of, reader_good, emptied, took, take_of, opened_reader, fed_number}
use Rattle.tag_takes.specs.Takes.{takes_of}

-- What is done to a reader: a piece comes, the tag is finished, an answer is asked for.
pub data Event : Type 0 where
  Piece : List ℕ → Event
  Finish : Event
  Ask : Event

-- the reader after one event, and after many
unfoldable pub after : Event → Reader → Reader
after (Piece p) r = (piece_of p r).reader
after Finish r = (finish_of r).reader
after Ask r = (take_of r).reader

unfoldable pub after_all : List Event → Reader → Reader
after_all [] r = r
after_all (e ∷ es) r = after_all es (after e r)

-- a new reader after events, in any order and number
abbrev pub reached : ℕ → Bool → Bool → List Event → Reader
reached o html checks events = after_all events (opened_reader o html checks)

-- What a take tells of the tag: an answer that is neither *more* nor the end.
unfoldable pub told_by : Result (Option Answer) MoreKeys → List Answer
told_by (Ok None) = []
told_by (Err m) = []
told_by (Ok (Some a)) = cons_unless (is_end a) a []

unfoldable pub told_at : Event → Reader → List Answer
told_at (Piece p) r = []
told_at Finish r = []
told_at Ask r = told_by (take_of r).taken

-- what all takes told, in their order
unfoldable pub told_of : List Event → Reader → List Answer
told_of [] r = []
told_of (e ∷ es) r = told_at e r ++ told_of es (after e r)

-- The answers are those of the whole tag, in order, whatever was asked between the pieces: what was told, and then what takes give
-- after a finish, n being room enough for it. A piece that is refused changes nothing, so the tag is what is held.
abbrev pub PiecesAgree : Type 0
PiecesAgree =
    (o : ℕ) (html checks : Bool) (events : List Event) (n : ℕ) →
    let r = reached o html checks events in
    length (held_of r) < n
    → told_of events (opened_reader o html checks) ++ (takes_of n (finish_of r).reader).answers ≡ answers_of (held_of r) (opened o html checks)

-- all pieces, one behind the other
unfoldable pub pieces_of : List Event → List ℕ
pieces_of [] = []
pieces_of (Piece p ∷ es) = p ++ pieces_of es
pieces_of (Finish ∷ es) = pieces_of es
pieces_of (Ask ∷ es) = pieces_of es

-- whether none comes
unfoldable pub no_piece : List Event → Bool
no_piece [] = true
no_piece (Piece p ∷ es) = false
no_piece (Finish ∷ es) = no_piece es
no_piece (Ask ∷ es) = no_piece es

-- whether none comes after a finish
unfoldable pub pieces_first : List Event → Bool
pieces_first [] = true
pieces_first (Piece p ∷ es) = pieces_first es
pieces_first (Finish ∷ es) = no_piece es
pieces_first (Ask ∷ es) = pieces_first es

-- Where no piece is refused what is held is the tag: all that came.
abbrev pub HeldWhole : Type 0
HeldWhole =
    (o : ℕ) (html checks : Bool) (events : List Event)
    → length (pieces_of events) ≤ hold
    → pieces_first events ≡ true
    → held_of (reached o html checks events) ≡ pieces_of events

-- So for every cutting of a tag that can be held, and whatever is asked between its pieces, the answers are those of the tag.
abbrev pub PiecesWhole : Type 0
PiecesWhole =
    (o : ℕ) (html checks : Bool) (events : List Event) (n : ℕ)
    → length (pieces_of events) ≤ hold
    → pieces_first events ≡ true
    → length (pieces_of events) < n
    → told_of events (opened_reader o html checks) ++ (takes_of n (finish_of (reached o html checks events)).reader).answers ≡ answers_of (pieces_of events) (opened o html checks)

-- The moment of an answer.

-- the tag is not finished, and the step looks at or past the end of what is held
pub record NotReady (r : Reader) : Type 0 where
  pub unfinished : r.finished ≡ false
  pub looks : length (held_of r) ≤ look_next (held_of r) (iterator_of r)

-- *More* comes exactly then, and else the answer of the iterator. The end is never before the finish, and no key lacks a place.
pub record AnswersExactly (r : Reader) : Type 0 where
  pub waits : NotReady r → (take_of r).taken ≡ Ok None
  pub more : (take_of r).taken ≡ Ok None → NotReady r
  pub gives : (NotReady r → ⊥) → (take_of r).taken ≡ Ok (Some (next_of (held_of r) (iterator_of r)).answer)
  pub end : (take_of r).taken ≡ Ok (Some None) → r.finished ≡ true
  pub keys : (take_of r).taken ≡ Err (record {}) → ⊥

-- An answer is there as soon as what is held has the last byte that its rule looks at.
abbrev pub TakeExactly : Type 0
TakeExactly = (o : ℕ) (html checks : Bool) (events : List Event) → AnswersExactly (reached o html checks events)

-- No sooner, whatever a phase made by hand says, and on lent memory too: this holds of every reader that is good.
abbrev pub NeverEarly : Type 0
NeverEarly = (r : Reader) → reader_good r ≡ true → NotReady r → (take_of r).taken ≡ Ok None

-- the first byte that is no whitespace after the key that starts at p: its `=`, where it has one
abbrev pub behind_key : List ℕ → ℕ → ℕ
behind_key s p = first_from not_space s (first_from ends_key s (p + 1))

-- The last byte that an answer's rule looks at, at position n; where there is none, only the finish tells.
unfoldable pub LastByte : List ℕ → ℕ → Answer → Type 0
LastByte s n (Some (Ok (DoubleQ key value))) = (n ≡ value.end) × (is_at s 34 n ≡ true)
LastByte s n (Some (Ok (SingleQ key value))) = (n ≡ value.end) × (is_at s 39 n ≡ true)
LastByte s n (Some (Ok (Unquoted key value))) = (n ≡ value.end) × (n < length s → is_space (get_or s n 0) ≡ true)
LastByte s n (Some (Ok (Empty key))) = n ≡ first_from not_space s key.end
LastByte s n (Some (Err (ExpectedEq pos))) = n ≡ pos
LastByte s n (Some (Err (ExpectedValue len))) = length s ≤ n
LastByte s n (Some (Err (UnquotedValue pos))) = (n ≡ pos) × (n < length s)
LastByte s n (Some (Err (ExpectedQuote len quote))) = length s ≤ n
LastByte s n (Some (Err (Duplicated this earlier))) = n ≡ behind_key s this
LastByte s n (Some (Err (KeyTableFull this))) = n ≡ behind_key s this
LastByte s n None = length s ≤ n
-- 7 is no answer of a good state.
LastByte s n (Some (Err BadState)) = ⊥

abbrev pub LookOfAnswer : Type 0
LookOfAnswer = (s : List ℕ) (st : IterState) → state_good s st ≡ true → LastByte s (look_next s st) (next_of s st).answer

-- What stays.

-- *More* changes nothing.
abbrev pub MoreStays : Type 0
MoreStays = (r : Reader) → (take_of r).taken ≡ Ok None → (take_of r).reader ≡ r

-- A piece that is refused changes nothing: 32 after the finish, then 31 where more than 65,536 bytes would be held.
pub record PieceRefused (p : List ℕ) (r : Reader) : Type 0 where
  pub stays : ((piece_of p r).fed ≡ Ok tt → ⊥) → (piece_of p r).reader ≡ r
  pub finished : fed_number (piece_of p r).fed ≡ 32 ↔ r.finished ≡ true
  pub long : fed_number (piece_of p r).fed ≡ 31 ↔ ((r.finished ≡ false) × (hold < r.held + length p))

-- Nor does a second finish, which is 32 and never 31.
pub record FinishRefused (r : Reader) : Type 0 where
  pub stays : ((finish_of r).fed ≡ Ok tt → ⊥) → (finish_of r).reader ≡ r
  pub finished : fed_number (finish_of r).fed ≡ 32 ↔ r.finished ≡ true
  pub long : fed_number (finish_of r).fed ≡ 31 → ⊥

abbrev pub RefusedStays : Type 0
RefusedStays = (r : Reader) → ((p : List ℕ) → PieceRefused p r) × FinishRefused r

-- Refusal 7.

-- It never comes to a reader that was opened and then used.
abbrev pub ReaderStaysGood : Type 0
ReaderStaysGood =
    (o : ℕ) (html checks : Bool) (events : List Event) →
    let r = reached o html checks events in
    (reader_good r ≡ true) × ((take_of r).taken ≡ Ok (Some (Some (Err BadState))) → ⊥)

-- To a reader that is not good it comes first, finished or not, and leaves none held.
abbrev pub SevenEmpties : Type 0
SevenEmpties = (r : Reader) → reader_good r ≡ false → take_of r ≡ took (Ok (Some (Some (Err BadState)))) (emptied r)
