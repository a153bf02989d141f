-- Key tables that a caller lends may be shorter than the capacity: places that are not lent are unused. Every rule is document
-- 01's on the iterator that such tables are; a key that is due to be recorded past what is lent is not read, and the caller
-- lends longer tables, with the recorded keys in their places, and goes on where it stopped.
use Rattle.std.specs.Prelude.{ℕ, Bool, not, List, length, take, Option, Some, None}
use Rattle.scan.specs.First.{pick}
use Rattle.scan.specs.Lists.{pad_to}
use Rattle.tag_keys.specs.Keys.{capacity, holds}
use Rattle.tag_step.specs.declared.IterState.{IterState}
use Rattle.tag_step.specs.declared.Step.{Step}
use Rattle.tag_step.specs.declared.Advance.{Advance}
use Rattle.tag_step.specs.declared.Span.{Span}
use Rattle.tag_step.specs.declared.Place.{Place}
use Rattle.tag_step.specs.Next.{Keys, Reading, keys_lent, advanced, bare_of, valued_of, step_of, lent_state, bad_reading, leaves, next_of}

-- The iterator that lent tables are. What stands in an unused place is never read, so that any content would do for those that
-- are not lent: zeros, as 7 leaves them.
unfoldable pub whole_of : IterState → IterState
whole_of st =
    lent_state st.place st.html st.check_duplicates (pad_to capacity st.starts) (pad_to capacity st.ends) (pad_to capacity st.hashes) st.count

-- Its step. Tables of unequal lengths count as long as the shortest one, and a count past that is 7.
unfoldable pub whole_next : List ℕ → IterState → Step
whole_next s st = pick (holds st.starts st.ends st.hashes st.count) (next_of s (whole_of st)) (leaves st bad_reading)

-- It records a key past what is lent. Refusals never do, nor does any step while checks are off.
unfoldable pub needs_more : List ℕ → IterState → Bool
needs_more s st = not (holds st.starts st.ends st.hashes (whole_next s st).state.count)

-- what it leaves of the lent tables
unfoldable pub stepped_of : List ℕ → IterState → IterState
stepped_of s st =
    let y = (whole_next s st).state in
    lent_state y.place y.html y.check_duplicates (take (length st.starts) y.starts)
    (take (length st.ends) y.ends) (take (length st.hashes) y.hashes) y.count

-- What a step on lent tables does: it is taken, or is not, and then the tables stay as they were.
pub data Taken : Type 0 where
  Took : Reading → Taken
  Short : Keys → Taken

abbrev pub taken : Option Advance → (starts ends hashes : List ℕ) → ℕ → Taken
taken (Some o) starts ends hashes count = Took (advanced o starts ends hashes)
taken None starts ends hashes count = Short (keys_lent starts ends hashes count)

-- how many keys are recorded then
abbrev pub kept_in : Option Advance → ℕ → ℕ
kept_in (Some o) count = o.count
kept_in None count = count

-- A step that leaves more keys than the tables hold is not taken.
unfoldable pub taken_on : Keys → Reading → Taken
taken_on keys x = pick (holds keys.starts keys.ends keys.hashes x.keys.count) (Took x) (Short keys)

abbrev pub bare_in : List ℕ → Bool → Bool → Keys → Span → ℕ → Taken
bare_in s html checks keys key at = taken_on keys (bare_of s html checks keys key at)

abbrev pub valued_in : List ℕ → Bool → Bool → Keys → Span → ℕ → Taken
valued_in s html checks keys key eq = taken_on keys (valued_of s html checks keys key eq)

-- the step on lent tables (`made_leaves`, `more_needs`, proofs/Lent: that of the iterator that they stand for)
abbrev pub step_in : List ℕ → Bool → Bool → Keys → Place → Taken
step_in s html checks keys place = taken_on keys (step_of s html checks keys place)
