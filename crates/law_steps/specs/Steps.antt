-- What is promised of one step of the iterator: document 01, "Numbers and what they leave", for refusals 6 and 7 and for
-- the column "Leaves". Each promise is over `next_of`, what `next` answers and leaves of any tag and any state.
use Rattle.std.specs.Prelude.{ℕ, ◌+◌, ◌≤◌, ◌<◌, ◌≡◌, true, List, length, get_or, set, replicate, ltb, None, Some, Ok, Err}
use Rattle.scan.specs.First.{pick}
use Rattle.scan.specs.Bytes.{is_space, part}
use Rattle.tag_keys.specs.Hash.{hash_of}
use Rattle.tag_keys.specs.Keys.{capacity, name_at}
use Rattle.tag_step.specs.declared.Span.{Span}
use Rattle.tag_step.specs.declared.Place.{Place}
use Rattle.tag_step.specs.declared.Place.TheVariants.{Done, Next, SkipValue, SkipEqValue}
use Rattle.tag_step.specs.declared.KeyRead.TheVariants.{Bare, Valued}
use Rattle.tag_step.specs.Answer.{Answer}
use Rattle.tag_step.specs.declared.Attr.TheVariants.{DoubleQ, SingleQ, Unquoted, Empty}
use Rattle.tag_step.specs.declared.AttrError.TheVariants.{ExpectedEq, ExpectedValue, UnquotedValue, ExpectedQuote, Duplicated, KeyTableFull, BadState}
use Rattle.tag_step.specs.declared.IterState.{IterState}
use Rattle.tag_step.specs.Read.{recover_of, key_at}
use Rattle.tag_step.specs.Next.{next_of}

-- The tables of the code's states are arrays of as many places as the capacity; a definition over lists has to be told.
pub record FullTables (st : IterState) : Type 0 where
  pub starts : length st.starts ≡ capacity
  pub ends : length st.ends ≡ capacity
  pub hashes : length st.hashes ≡ capacity

-- Refusal 7.

-- "a recorded key that is empty or not inside the tag", more keys than the capacity, "a skip place not inside the tag, or a
-- skip-from-`=` place whose byte is not `=`", and "a kept hash that is not its key's": a case for each clause. Nothing is
-- asked of the mode, of the checks, or of any other place, so 7 comes with checks on or off, and also when done.
pub data Broken (s : List ℕ) (st : IterState) : Type 0 where
  empty_key : (k : ℕ) → k < st.count → get_or st.ends k 0 ≤ get_or st.starts k 0 → Broken s st
  outside_key : (k : ℕ) → k < st.count → length s < get_or st.ends k 0 → Broken s st
  wrong_hash : (k : ℕ) → k < st.count → (get_or st.hashes k 0 ≡ hash_of (name_at s st.starts st.ends k) → ⊥) → Broken s st
  many_keys : capacity < st.count → Broken s st
  outside_skip : (o : ℕ) → st.place ≡ SkipValue o → length s ≤ o → Broken s st
  outside_skip_eq : (o : ℕ) → st.place ≡ SkipEqValue o → length s ≤ o → Broken s st
  no_eq : (o : ℕ) → st.place ≡ SkipEqValue o → (get_or s o 0 ≡ 61 → ⊥) → Broken s st

-- 7 comes exactly then.
unfoldable pub SevenExactly : Type 0
SevenExactly =
    (s : List ℕ) (st : IterState) → FullTables st →
    ((next_of s st).answer ≡ Some (Err BadState) → Broken s st) × (Broken s st → (next_of s st).answer ≡ Some (Err BadState))

-- The key that a step reads.

-- It has an `=`, at eq: from the place, after any skip, reading goes on at `from`, and this key is the one there.
pub record ValuedKey (s : List ℕ) (st : IterState) (key : Span) (eq : ℕ) : Type 0 where
  pub from : ℕ
  pub goes : recover_of s st.place ≡ Some from
  pub reads : key_at s from ≡ Some (Valued key eq)

-- It has none, in HTML mode: what follows it stands at `at`.
pub record BareKey (s : List ℕ) (st : IterState) (key : Span) (at : ℕ) : Type 0 where
  pub from : ℕ
  pub goes : recover_of s st.place ≡ Some from
  pub reads : key_at s from ≡ Some (Bare key at)
  pub html : st.html ≡ true

-- "a key is due to be recorded (a bare XML key never is)"
pub data Due (s : List ℕ) (st : IterState) (key : Span) : Type 0 where
  valued : (eq : ℕ) → ValuedKey s st key eq → Due s st key
  bare : (at : ℕ) → BareKey s st key at → Due s st key

-- Refusal 6.

-- 7 does not come; "checks are on, a key is due to be recorded", as many as the capacity "already are and it equals none of them"; it
-- starts at `this`.
pub record NoRoom (s : List ℕ) (st : IterState) (this : ℕ) : Type 0 where
  pub whole : Broken s st → ⊥
  pub checks : st.check_duplicates ≡ true
  pub key : Span
  pub due : Due s st key
  pub full : st.count ≡ capacity
  pub new : (k : ℕ) → k < st.count → name_at s st.starts st.ends k ≡ part s key.start key.end → ⊥
  pub start : key.start ≡ this

-- 6 comes exactly then, with the start of that key.
unfoldable pub SixExactly : Type 0
SixExactly =
    (s : List ℕ) (st : IterState) (this : ℕ) → FullTables st →
    ((next_of s st).answer ≡ Some (Err (KeyTableFull this)) → NoRoom s st this) × (NoRoom s st this → (next_of s st).answer ≡ Some (Err (KeyTableFull this)))

-- What is left.

-- the same state at another place: mode, checks and every place of the tables stay, no key is recorded
abbrev pub moved_to : Place → IterState → IterState
moved_to place st =
    record {
      place = place;
      html = st.html;
      check_duplicates = st.check_duplicates;
      starts = st.starts;
      ends = st.ends;
      hashes = st.hashes;
      count = st.count;
    }

-- the same with a key recorded, and the hash of its bytes, which applies while checks are on: one place of each table is
-- written, the first unused one, and the others keep their content
abbrev pub moved_with : List ℕ → Place → Span → IterState → IterState
moved_with s place key st =
    record {
      place = place;
      html = st.html;
      check_duplicates = st.check_duplicates;
      starts = pick st.check_duplicates (set st.starts st.count key.start) st.starts;
      ends = pick st.check_duplicates (set st.ends st.count key.end) st.ends;
      hashes = pick st.check_duplicates (set st.hashes st.count (hash_of (part s key.start key.end))) st.hashes;
      count = pick st.check_duplicates (st.count + 1) st.count;
    }

-- done, no recorded keys, all places zero; mode and checks stay
abbrev pub emptied : IterState → IterState
emptied st =
    record {
      place = Done;
      html = st.html;
      check_duplicates = st.check_duplicates;
      starts = replicate capacity 0;
      ends = replicate capacity 0;
      hashes = replicate capacity 0;
      count = 0;
    }

-- "place at pos, or done if pos is the length"
abbrev pub at_or_done : List ℕ → ℕ → Place
at_or_done s pos = pick (ltb pos (length s)) (Next pos) Done

-- There is nothing to read: "the place, after any skip, is in the tag or at its end and only whitespace follows", or
-- reading does not go on from it ("done, a place past the end, a skip with no whitespace after it").
pub data NothingLeft (s : List ℕ) (place : Place) : Type 0 where
  only_space :
      (o : ℕ) → recover_of s place ≡ Some o → o ≤ length s
      → ((k : ℕ) → o ≤ k → k < length s → is_space (get_or s k 0) ≡ true)
      → NothingLeft s place
  nowhere : recover_of s place ≡ None → NothingLeft s place

-- The end leaves done in the first case, else all "as it was".
unfoldable pub end_left : (s : List ℕ) (st : IterState) → NothingLeft s st.place → IterState
end_left s st (only_space o goes inside space) = moved_to Done st
end_left s st (nowhere ended) = st

pub record EndLeaves (s : List ℕ) (st left : IterState) : Type 0 where
  pub nothing : NothingLeft s st.place
  pub leaves : left ≡ end_left s st nothing

-- The key that was read is recorded.
pub record Records (s : List ℕ) (st left : IterState) (place : Place) (key : Span) : Type 0 where
  pub due : Due s st key
  pub leaves : left ≡ moved_with s place key st

-- the same where the answer does not name it, which has an `=`
pub record RecordsIts (s : List ℕ) (st left : IterState) (place : Place) : Type 0 where
  pub key : Span
  pub eq : ℕ
  pub due : ValuedKey s st key eq
  pub leaves : left ≡ moved_with s place key st

-- 5: "skip from the `=`; for a bare HTML key the next place, or done. Not recorded again"
pub data RepeatLeaves (s : List ℕ) (st left : IterState) (this : ℕ) : Type 0 where
  skips_from : (key : Span) (eq : ℕ) → ValuedKey s st key eq → key.start ≡ this → left ≡ moved_to (SkipEqValue eq) st → RepeatLeaves s st left this
  goes_on : (key : Span) (at : ℕ) → BareKey s st key at → key.start ≡ this → left ≡ moved_to (at_or_done s at) st → RepeatLeaves s st left this

-- The column "Leaves", a row for each answer; the attributes, of which that table does not speak, as "Reading a tag" has
-- it: reading goes on directly after the closing quote, where an unquoted value ends, and after a bare key as 1 leaves it.
unfoldable pub RowLeft : List ℕ → IterState → Answer → IterState → Type 0
RowLeft s st None left = EndLeaves s st left
RowLeft s st (Some (Ok (DoubleQ key value))) left = Records s st left (Next (value.end + 1)) key
RowLeft s st (Some (Ok (SingleQ key value))) left = Records s st left (Next (value.end + 1)) key
RowLeft s st (Some (Ok (Unquoted key value))) left = Records s st left (Next value.end) key
RowLeft s st (Some (Ok (Empty key))) left = (at : ℕ) × (BareKey s st key at) × (left ≡ moved_with s (at_or_done s at) key st)
RowLeft s st (Some (Err (ExpectedEq pos))) left = left ≡ moved_to (at_or_done s pos) st
RowLeft s st (Some (Err (ExpectedValue len))) left = (len ≡ length s) × RecordsIts s st left Done
RowLeft s st (Some (Err (UnquotedValue pos))) left = RecordsIts s st left (SkipValue pos)
RowLeft s st (Some (Err (ExpectedQuote len quote))) left = (len ≡ length s) × RecordsIts s st left Done
RowLeft s st (Some (Err (Duplicated this earlier))) left = RepeatLeaves s st left this
RowLeft s st (Some (Err (KeyTableFull this))) left = left ≡ moved_to Done st
RowLeft s st (Some (Err BadState)) left = left ≡ emptied st

-- Every step leaves what its answer's row says, every place of the three tables, for every tag and every state.
unfoldable pub LeavesExact : Type 0
LeavesExact = (s : List ℕ) (st : IterState) → RowLeft s st (next_of s st).answer (next_of s st).state

-- The end comes exactly if 7 does not and there is nothing to read.
unfoldable pub EndExactly : Type 0
EndExactly =
    (s : List ℕ) (st : IterState) → FullTables st →
    ((next_of s st).answer ≡ None → (Broken s st → ⊥) × NothingLeft s st.place)
    × ((Broken s st → ⊥) → NothingLeft s st.place → (next_of s st).answer ≡ None)

-- Steps one after another.

-- "iteration ends and stays ended": the step after an end is that end again, and leaves what it left.
unfoldable pub EndStays : Type 0
EndStays = (s : List ℕ) (st : IterState) → (next_of s st).answer ≡ None → next_of s (next_of s st).state ≡ next_of s st

-- a place past o, in the tag or, where nothing is skipped from it, at its end; or done
unfoldable pub Beyond : List ℕ → ℕ → Place → Type 0
Beyond s o Done = Unit {0}
Beyond s o (Next x) = (o < x) × (x ≤ length s)
Beyond s o (SkipValue x) = (o < x) × (x < length s)
Beyond s o (SkipEqValue x) = (o < x) × (x < length s)

-- reading goes on somewhere, and the place that is left lies beyond
pub record Forward (s : List ℕ) (place left : Place) : Type 0 where
  pub from : ℕ
  pub goes : recover_of s place ≡ Some from
  pub inside : from ≤ length s
  pub beyond : Beyond s from left

-- Every answer but the end and 7 leaves a place past the one where its reading began.
unfoldable pub StepForward : Type 0
StepForward =
    (s : List ℕ) (st : IterState) → ((next_of s st).answer ≡ None → ⊥) → ((next_of s st).answer ≡ Some (Err BadState) → ⊥) →
    Forward s st.place (next_of s st).state.place
