-- One step of the iterator: document 01, "Reading a tag" and "Numbers and what they leave". The parts of a step take the
-- mode, the checks and the recorded keys, never the place; the state is built once, in `next_of`.
use Rattle.std.specs.Prelude.{ℕ, Bool, true, false, ◌&&◌, List, length, replicate, ltb, None, Some, Ok, Err, Result, Option}
use Rattle.scan.specs.First.{pick}
use Rattle.scan.specs.Bytes.{part}
use Rattle.tag_keys.specs.declared.KeyRefusal.{KeyRefusal}
use Rattle.tag_keys.specs.declared.KeyRefusal.TheVariants.{Same, Full}
use Rattle.tag_keys.specs.Hash.{hash_of}
use Rattle.tag_keys.specs.Keys.{capacity, table_good, checked_of, written_by, count_by}
use Rattle.tag_step.specs.declared.Span.{Span}
use Rattle.tag_step.specs.declared.Place.{Place}
use Rattle.tag_step.specs.declared.Place.TheVariants.{Done, Next, SkipValue, SkipEqValue}
use Rattle.tag_step.specs.declared.KeyRead.{KeyRead}
use Rattle.tag_step.specs.declared.KeyRead.TheVariants.{Bare, Valued}
use Rattle.tag_step.specs.Answer.{Answer}
use Rattle.tag_step.specs.declared.Attr.TheVariants.{Empty}
use Rattle.tag_step.specs.declared.AttrError.TheVariants.{ExpectedEq, Duplicated, KeyTableFull, BadState}
use Rattle.tag_step.specs.declared.Found.{Found}
use Rattle.tag_step.specs.declared.Advance.{Advance}
use Rattle.tag_step.specs.declared.IterState.{IterState}
use Rattle.tag_step.specs.declared.Standing.{Standing}
use Rattle.tag_step.specs.declared.Step.{Step}
use Rattle.tag_step.specs.Read.{found, is_at, recover_of, key_at, value_at}

-- the recorded keys: a table of starts, one of ends, one of hashes, and how many of their places are in use
pub record Keys : Type 0 where
  pub starts : List ℕ
  pub ends : List ℕ
  pub hashes : List ℕ
  pub count : ℕ

-- what reading gives: the answer, the place that it leaves, and the recorded keys
pub record Reading : Type 0 where
  pub answer : Answer
  pub place : Place
  pub keys : Keys

abbrev pub reading : Found → Keys → Reading
reading x keys = record { answer = x.answer; place = x.place; keys = keys }

-- lent tables with their count, and what a step on them has made once it returns
abbrev pub keys_lent : (starts ends hashes : List ℕ) → ℕ → Keys
keys_lent starts ends hashes count = record { starts = starts; ends = ends; hashes = hashes; count = count }

abbrev pub advanced : Advance → (starts ends hashes : List ℕ) → Reading
advanced o starts ends hashes =
    record { answer = o.answer; place = o.place; keys = keys_lent starts ends hashes o.count }

-- The check of a key.

unfoldable pub check_of : List ℕ → Bool → Keys → Span → Result ℕ KeyRefusal
check_of s checks keys key = checked_of s checks keys.starts keys.ends keys.count key.start key.end

-- the recorded keys after a verdict: a new one is kept with the hash of its bytes
unfoldable pub kept_by : List ℕ → Bool → Keys → Span → Result ℕ KeyRefusal → Keys
kept_by s checks keys key c =
    record {
      starts = written_by checks c keys.starts keys.count key.start;
      ends = written_by checks c keys.ends keys.count key.end;
      hashes = written_by checks c keys.hashes keys.count (hash_of (part s key.start key.end));
      count = count_by c keys.count;
    }

-- A bare key.

-- place at pos, or done if pos is the length
unfoldable pub place_at : List ℕ → ℕ → Place
place_at s at = pick (ltb at (length s)) (Next at) Done

-- HTML mode checks a bare key and answers Empty, leaving the place as 1 does; so does 5 of a bare key. 6 leaves done.
unfoldable pub bare_by : List ℕ → Span → ℕ → Result ℕ KeyRefusal → Found
bare_by s key at (Ok n) = found (Some (Ok (Empty key))) (place_at s at)
bare_by s key at (Err (Same earlier)) = found (Some (Err (Duplicated key.start earlier))) (place_at s at)
bare_by s key at (Err Full) = found (Some (Err (KeyTableFull key.start))) Done

unfoldable pub bare_to : List ℕ → Bool → Keys → Span → ℕ → Result ℕ KeyRefusal → Reading
bare_to s checks keys key at c = reading (bare_by s key at c) (kept_by s checks keys key c)

-- XML mode answers 1 without recording.
unfoldable pub bare_of : List ℕ → Bool → Bool → Keys → Span → ℕ → Reading
bare_of s html checks keys key at =
    pick html (bare_to s checks keys key at (check_of s checks keys key)) (reading (found (Some (Err (ExpectedEq at))) (place_at s at)) keys)

-- A key with `=`.

-- The value of a new key is read. After 5 reading skips from the `=`. 6 leaves done.
unfoldable pub valued_by : List ℕ → Bool → Span → ℕ → Result ℕ KeyRefusal → Found
valued_by s html key eq (Ok n) = value_at s html key eq
valued_by s html key eq (Err (Same earlier)) = found (Some (Err (Duplicated key.start earlier))) (SkipEqValue eq)
valued_by s html key eq (Err Full) = found (Some (Err (KeyTableFull key.start))) Done

unfoldable pub valued_to : List ℕ → Bool → Bool → Keys → Span → ℕ → Result ℕ KeyRefusal → Reading
valued_to s html checks keys key eq c = reading (valued_by s html key eq c) (kept_by s checks keys key c)

-- With `=` found, the key is checked and recorded before its value is looked at.
unfoldable pub valued_of : List ℕ → Bool → Bool → Keys → Span → ℕ → Reading
valued_of s html checks keys key eq = valued_to s html checks keys key eq (check_of s checks keys key)

-- A step.

-- If nothing is left but whitespace, this is the end, and leaves done.
unfoldable pub read_key : List ℕ → Bool → Bool → Keys → Option KeyRead → Reading
read_key s html checks keys None = reading (found None Done) keys
read_key s html checks keys (Some (Bare key at)) = bare_of s html checks keys key at
read_key s html checks keys (Some (Valued key eq)) = valued_of s html checks keys key eq

-- reading from position o
unfoldable pub read_at : List ℕ → Bool → Bool → Keys → ℕ → Reading
read_at s html checks keys o = read_key s html checks keys (key_at s o)

-- Where reading does not go on (done, a place past the end, a skip with no whitespace after it) this is the end, and the
-- place stays as it was.
unfoldable pub step_from : List ℕ → Bool → Bool → Keys → Place → Option ℕ → Reading
step_from s html checks keys place (Some o) = read_at s html checks keys o
step_from s html checks keys place None = reading (found None place) keys

unfoldable pub step_of : List ℕ → Bool → Bool → Keys → Place → Reading
step_of s html checks keys place = step_from s html checks keys place (recover_of s place)

-- State 7.

-- A skip place is inside the tag, and a skip from `=` stands at `=`. A next place may be anything.
unfoldable pub place_good : List ℕ → Place → Bool
place_good s Done = true
place_good s (Next o) = true
place_good s (SkipValue o) = ltb o (length s)
place_good s (SkipEqValue o) = is_at s 61 o

-- the iterator of these parts, its tables lent or its own
abbrev pub lent_state : Place → Bool → Bool → (starts ends hashes : List ℕ) → ℕ → IterState
lent_state place html checks starts ends hashes count =
    record { place = place; html = html; check_duplicates = checks; starts = starts; ends = ends; hashes = hashes; count = count }

-- the same by what an iterator has beside its tables
abbrev pub stands_at : Standing → (starts ends hashes : List ℕ) → IterState
stands_at at starts ends hashes = lent_state at.place at.html at.checks starts ends hashes at.count

unfoldable pub keys_of : IterState → Keys
keys_of st = keys_lent st.starts st.ends st.hashes st.count

-- There are at most as many keys as the capacity, each not empty, inside the tag and with its own hash, and the place is good:
-- whatever the checks say.
abbrev pub good_of : List ℕ → Keys → Place → Bool
good_of s keys place = table_good s keys.starts keys.ends keys.hashes keys.count && place_good s place

unfoldable pub state_good : List ℕ → IterState → Bool
state_good s st = good_of s (keys_lent st.starts st.ends st.hashes st.count) st.place

-- no recorded keys, every place of the tables zero
unfoldable pub no_keys : Keys
no_keys = record { starts = replicate capacity 0; ends = replicate capacity 0; hashes = replicate capacity 0; count = 0 }

-- 7 leaves done and no recorded keys.
unfoldable pub bad_reading : Reading
bad_reading = reading (found (Some (Err BadState)) Done) no_keys

-- `next`.

-- the step that a reading makes: mode and checks stay
unfoldable pub leaves : IterState → Reading → Step
leaves st x =
    record {
      answer = x.answer;
      state = record {
        place = x.place;
        html = st.html;
        check_duplicates = st.check_duplicates;
        starts = x.keys.starts;
        ends = x.keys.ends;
        hashes = x.keys.hashes;
        count = x.keys.count;
      };
    }

-- In the iterator 7 comes first.
unfoldable pub next_of : List ℕ → IterState → Step
next_of s st =
    leaves st (pick (state_good s st) (step_of s st.html st.check_duplicates (keys_of st) st.place) bad_reading)

-- an iterator that stands at a place, with no recorded keys
abbrev pub standing : Place → Bool → Bool → IterState
standing place html checks = lent_state place html checks no_keys.starts no_keys.ends no_keys.hashes no_keys.count

-- one that is opened at position o
unfoldable pub opened : ℕ → Bool → Bool → IterState
opened o html checks = standing (Next o) html checks

-- With checks off no key is compared or recorded: a step is an answer and the place that it leaves.
unfoldable pub unchecked_of : List ℕ → Bool → Place → Found
unchecked_of s html place =
    found (next_of s (standing place html false)).answer (next_of s (standing place html false)).state.place

-- the same iterator with checks set on or off
unfoldable pub with_checks : Bool → IterState → IterState
with_checks checks st =
    record {
      place = st.place;
      html = st.html;
      check_duplicates = checks;
      starts = st.starts;
      ends = st.ends;
      hashes = st.hashes;
      count = st.count;
    }
