-- A reader of a tag that arrives in pieces: document 02, request 1. It is the bytes that are held, whether the tag is finished,
-- an iterator over what is held, and the phase of its scan. Text and key tables are its own, or lent, and then they may be shorter.
use Rattle.std.specs.Prelude.{ℕ, ◌+◌, Bool, true, false, not, ◌&&◌, ◌||◌, List, length, take, replicate, ltb, leb, Some, Err, Option, None, Result, Ok}
use Rattle.scan.specs.First.{pick}
use Rattle.scan.specs.Lists.{over}
use Rattle.tag_step.specs.Answer.{Answer}
use Rattle.tag_step.specs.declared.AttrError.TheVariants.{BadState}
use Rattle.tag_step.specs.declared.IterState.{IterState}
use Rattle.tag_step.specs.declared.Place.{Place}
use Rattle.tag_step.specs.declared.Place.TheVariants.{Done, Next}
use Rattle.tag_step.specs.Next.{lent_state, keys_of, state_good, no_keys}
use Rattle.tag_step.specs.Look.{look_next}
use Rattle.tag_step.specs.Lent.{whole_next, needs_more, stepped_of}
use Rattle.tag_step.specs.Run.{is_end}
use Rattle.tag_phase.specs.declared.Phase.{Phase}
use Rattle.tag_phase.specs.declared.Phase.TheVariants.{Begin}
use Rattle.tag_phase.specs.Phase.{carried_of, waits_on}
use Rattle.tag_pieces.specs.declared.Reader.{Reader}
use Rattle.tag_pieces.specs.declared.FeedError.{FeedError}
use Rattle.tag_pieces.specs.declared.FeedError.TheVariants.{Finished, TooLong, LendMore}
use Rattle.tag_pieces.specs.declared.MoreKeys.{MoreKeys}
use Rattle.tag_pieces.specs.declared.Take.{Take}
use Rattle.tag_pieces.specs.declared.Feeding.{Feeding}

-- It holds up to 65,536 bytes.
abbrev pub hold : ℕ
hold = 65536

-- the bytes that are held
unfoldable pub held_of : Reader → List ℕ
held_of r = take r.held r.text

-- the iterator over them
abbrev pub iterator_of : Reader → IterState
iterator_of r = lent_state r.place r.html r.check_duplicates r.starts r.ends r.hashes r.count

-- A piece.

-- 32 after the finish; then 31 where more than can be held would be held; then, on lent text, 98 where it is too short.
unfoldable pub fed_of : (finished : Bool) (room held n : ℕ) → Result (Unit {0}) FeedError
fed_of finished room held n =
    pick finished (Err Finished)
    (pick (ltb hold (held + n)) (Err TooLong)
    (pick (ltb room (held + n)) (Err LendMore)
    (Ok tt)))

unfoldable pub is_accepted : Result (Unit {0}) FeedError → Bool
is_accepted (Ok u) = true
is_accepted (Err e) = false

-- what a piece changes
pub record Grown : Type 0 where
  pub fed : Result (Unit {0}) FeedError
  pub text : List ℕ
  pub held : ℕ
  pub phase : Phase

abbrev pub grown : Result (Unit {0}) FeedError → List ℕ → ℕ → Phase → Grown
grown fed text held phase = record { fed = fed; text = text; held = held; phase = phase }

-- A piece that is accepted is held behind the others, and carries the phase on. Any other changes nothing.
unfoldable pub grown_by : Result (Unit {0}) FeedError → (text : List ℕ) (held : ℕ) → Place → Phase → List ℕ → Grown
grown_by (Ok u) text held place phase p =
    grown (Ok u) (over text held p) (held + length p)
    (carried_of (take (held + length p) (over text held p)) held place phase)
grown_by (Err e) text held place phase p = grown (Err e) text held phase

unfoldable pub piece_in : (text : List ℕ) (held : ℕ) (finished : Bool) → Place → Phase → List ℕ → Grown
piece_in text held finished place phase p = grown_by (fed_of finished (length text) held (length p)) text held place phase p

-- the reader with other bytes held
abbrev pub holding : Reader → List ℕ → ℕ → Phase → Reader
holding r text held phase =
    record {
      text = text;
      held = held;
      finished = r.finished;
      phase = phase;
      place = r.place;
      html = r.html;
      check_duplicates = r.check_duplicates;
      starts = r.starts;
      ends = r.ends;
      hashes = r.hashes;
      count = r.count;
    }

abbrev pub feeding : Result (Unit {0}) FeedError → Reader → Feeding
feeding fed r = record { fed = fed; reader = r }

abbrev pub fed_with : Reader → Grown → Feeding
fed_with r x = feeding x.fed (holding r x.text x.held x.phase)

unfoldable pub piece_of : List ℕ → Reader → Feeding
piece_of p r = fed_with r (piece_in r.text r.held r.finished r.place r.phase p)

-- The finish. A second one is 32.
unfoldable pub finished_as : Reader → Reader
finished_as r =
    record {
      text = r.text;
      held = r.held;
      finished = true;
      phase = r.phase;
      place = r.place;
      html = r.html;
      check_duplicates = r.check_duplicates;
      starts = r.starts;
      ends = r.ends;
      hashes = r.hashes;
      count = r.count;
    }

unfoldable pub finish_of : Reader → Feeding
finish_of r = pick r.finished (feeding (Err Finished) r) (feeding (Ok tt) (finished_as r))

-- An answer.

-- 7 is given here also for more bytes than can be held, or than the lent text has.
unfoldable pub reader_good : Reader → Bool
reader_good r = leb r.held (length r.text) && state_good (held_of r) (iterator_of r)

-- the reader with another iterator
abbrev pub moved : Reader → IterState → ℕ → Phase → Reader
moved r st held phase =
    record {
      text = r.text;
      held = held;
      finished = r.finished;
      phase = phase;
      place = st.place;
      html = r.html;
      check_duplicates = r.check_duplicates;
      starts = st.starts;
      ends = st.ends;
      hashes = st.hashes;
      count = st.count;
    }

-- 7 leaves done, no recorded keys, every key place zero, and none held.
unfoldable pub emptied : Reader → Reader
emptied r =
    moved r
    (lent_state Done r.html r.check_duplicates (replicate (length r.starts) 0) (replicate (length r.ends) 0) (replicate (length r.hashes) 0) 0)
    0 Begin

-- No answer is ready: the tag is not finished, and the phase waits, or the step looks at or past the end of what is held.
unfoldable pub waits_for : Reader → Bool
waits_for r =
    not r.finished
    && (waits_on (held_of r) r.html r.check_duplicates (keys_of (iterator_of r)) r.phase
    || leb (length (held_of r)) (look_next (held_of r) (iterator_of r)))

abbrev pub took : Result (Option Answer) MoreKeys → Reader → Take
took x r = record { taken = x; reader = r }

-- the phase after an answer: the scan begins anew, but for the end, after which nothing is looked for
abbrev pub phase_after : Answer → Phase → Phase
phase_after a phase = pick (is_end a) phase Begin

-- the answer of the iterator over what is held; where the lent tables have no place for its key nothing is changed
unfoldable pub answered_of : List ℕ → IterState → Reader → Take
answered_of s st r =
    pick (needs_more s st) (took (Err (record {})) r)
    (took (Ok (Some (whole_next s st).answer)) (moved r (stepped_of s st) r.held (phase_after (whole_next s st).answer r.phase)))

-- 7 comes first; more changes nothing.
unfoldable pub take_of : Reader → Take
take_of r =
    pick (reader_good r) (pick (waits_for r) (took (Ok None) r) (answered_of (held_of r) (iterator_of r) r))
    (took (Ok (Some (Some (Err BadState)))) (emptied r))

-- A reader that is opened at position o: nothing is held.
unfoldable pub opened_reader : ℕ → Bool → Bool → Reader
opened_reader o html checks =
    record {
      text = replicate hold 0;
      held = 0;
      finished = false;
      phase = Begin;
      place = Next o;
      html = html;
      check_duplicates = checks;
      starts = no_keys.starts;
      ends = no_keys.ends;
      hashes = no_keys.hashes;
      count = 0;
    }

-- the same reader with checks set on or off
unfoldable pub with_checks : Bool → Reader → Reader
with_checks checks r =
    record {
      text = r.text;
      held = r.held;
      finished = r.finished;
      phase = r.phase;
      place = r.place;
      html = r.html;
      check_duplicates = checks;
      starts = r.starts;
      ends = r.ends;
      hashes = r.hashes;
      count = r.count;
    }

-- Documents number the refusals: 0 where a piece or a finish is accepted, 98 where longer text has to be lent.
unfoldable pub fed_number : Result (Unit {0}) FeedError → ℕ
fed_number (Ok u) = 0
fed_number (Err Finished) = 32
fed_number (Err TooLong) = 31
fed_number (Err LendMore) = 98
