-- The laws of a step on tags and states, by computation: a row for each answer of the table "Numbers and what they leave",
-- and each law applied where its premises are met.
use Prim.Native.Nat.{ℕ, zero, suc, ◌+◌, ◌-◌, ◌≤◌, ◌<◌}
use Prim.Native.String.{String}
use mathlib.Core.Path.{◌≡◌, refl, sym, ap, subst, ◌∙◌}
use mathlib.Core.Bool.{Bool, true, false}
use mathlib.Core.List.{List, [], ◌∷◌, map}
use native.Mathlib.Omega.{arith}
use lib.ListN.{length, get_or, replicate, length-replicate, get_or-replicate}
use Rattle.std.proofs.Common.{Some}
use Rattle.std.specs.Prelude.{None, Ok, Err}
use Rattle.scan.specs.First.{first_of, first_to, first_from}
use Rattle.scan.specs.Bytes.{is_space, not_space, ends_key, is_byte, part, same_bytes, bytes_from, bytes}
use Rattle.tag_keys.specs.Hash.{times_prime, hash_from, hash_of}
use Rattle.tag_keys.specs.Keys.{capacity, KeysIn, key_good, hash_is, key_bad, count_good, table_good, name_at, same_key, oldest_of, earlier_of, checked_by, checked_of, written_by, count_by}
use Rattle.tag_keys.proofs.Laws.{in_table}
use Rattle.tag_step.specs.declared.Span.{Span}
use Rattle.tag_step.specs.declared.Place.{Place}
use Rattle.tag_step.specs.declared.Place.TheVariants.{Done, Next, SkipValue, SkipEqValue}
use Rattle.tag_step.specs.declared.KeyRead.TheVariants.{Valued}
use Rattle.tag_step.specs.Answer.{Answer}
use Rattle.tag_step.specs.declared.Attr.TheVariants.{DoubleQ, SingleQ, Unquoted, Empty}
use Rattle.tag_step.specs.declared.AttrError.TheVariants.{ExpectedEq, ExpectedValue, UnquotedValue, ExpectedQuote, Duplicated, KeyTableFull, BadState}
use Rattle.tag_step.specs.declared.IterState.{IterState}
use Rattle.tag_step.specs.declared.Step.{Step}
use Rattle.tag_step.specs.Read.{span, is_at, is_quote, skip_to, skip_of, recover_of, key_eq, key_to, key_from, key_at, quoted, closed_of, quoted_to, quoted_of, unquoted_to, other_of, value_by, value_from, value_at}
use Rattle.tag_step.specs.Next.{check_of, kept_by, place_at, bare_by, bare_to, bare_of, valued_by, valued_to, valued_of, read_key, read_at, step_from, step_of, place_good, keys_of, state_good, no_keys, bad_reading, leaves, next_of, opened}
use Rattle.tag_step.specs.Run.{run_of, answers_of}
use Rattle.tag_step.proofs.Good.{Sized, opened_good, next_stays_good}
use Rattle.tag_step.proofs.Run.{run_whole}
use Rattle.tag_step.proofs.Whole.{next_steps}
use Rattle.law_steps.specs.Steps.{FullTables, Broken, outside_key, wrong_hash, SevenExactly, valued, SixExactly, only_space, RecordsIts, RowLeft, LeavesExact, EndExactly, EndStays, Forward, StepForward}
use Rattle.law_steps.specs.DeadQuotes.{quote, other, skip_arm_at, skip_arm_of, skip_arm_goes, crate_skip_eq_value_of, DeadQuotes}
use Rattle.law_steps.proofs.DeadQuotes.{dead_quotes}
use Rattle.law_steps.proofs.Leaves.{leaves_exact}
use Rattle.law_steps.proofs.Refusals.{good_whole, six_exactly, seven_exactly}
use Rattle.law_steps.proofs.Steps.{end_exactly, end_stays, step_forward}

-- the hashes of the names a and b
abbrev hash_a : ℕ
hash_a = hash_of (bytes "a")

abbrev hash_b : ℕ
hash_b = hash_of (bytes "b")

-- a state of these parts, the first two places of each table given and the others zero
abbrev at : Place → (html checks : Bool) → (start start' end end' hash hash' count : ℕ) → IterState
at place html checks start start' end end' hash hash' count =
    record {
      place = place;
      html = html;
      check_duplicates = checks;
      starts = start ∷ start' ∷ replicate (capacity - 2) 0;
      ends = end ∷ end' ∷ replicate (capacity - 2) 0;
      hashes = hash ∷ hash' ∷ replicate (capacity - 2) 0;
      count = count;
    }

-- as many keys as the capacity, all of them the tag's first byte
abbrev crowded : Place → Bool → IterState
crowded place html =
    record {
      place = place;
      html = html;
      check_duplicates = true;
      starts = replicate capacity 0;
      ends = replicate capacity 1;
      hashes = replicate capacity hash_a;
      count = capacity;
    }

-- a tag, a state, and what the step answers and leaves
record Row : Type 0 where
  tag : String
  state : IterState
  answer : Answer
  left : IterState

abbrev row : String → IterState → Answer → IterState → Row
row tag state answer left = record { tag = tag; state = state; answer = answer; left = left }

abbrev table : List Row
table =
    -- the end: only whitespace follows; done; past the end; a skip with no whitespace after it
    row "a \t" (at (Next 1) false true 0 7 1 7 hash_a 7 1) None (at Done false true 0 7 1 7 hash_a 7 1)
    ∷ row "a" (at Done true false 0 7 1 7 hash_a 7 1) None (at Done true false 0 7 1 7 hash_a 7 1)
    ∷ row "a" (at (Next 2) false true 0 7 1 7 hash_a 7 1) None (at (Next 2) false true 0 7 1 7 hash_a 7 1)
    ∷ row "a=1" (at (SkipValue 2) false true 0 7 1 7 hash_a 7 1) None (at (SkipValue 2) false true 0 7 1 7 hash_a 7 1)
    -- 1: at pos, and done where pos is the length
    ∷ row "a b=''" (at (Next 0) false true 7 8 7 9 6 5 0) (Some (Err (ExpectedEq 2))) (at (Next 2) false true 7 8 7 9 6 5 0)
    ∷ row "a " (at (Next 0) false true 7 8 7 9 6 5 0) (Some (Err (ExpectedEq 2))) (at Done false true 7 8 7 9 6 5 0)
    -- 2, 3, 4: recorded, at the first unused place alone
    ∷ row "a= " (at (Next 0) false true 7 8 7 9 6 5 0) (Some (Err (ExpectedValue 3))) (at Done false true 0 8 1 9 hash_a 5 1)
    ∷ row "a=1" (at (Next 0) false true 7 8 7 9 6 5 0) (Some (Err (UnquotedValue 2))) (at (SkipValue 2) false true 0 8 1 9 hash_a 5 1)
    ∷ row "a='1" (at (Next 0) true true 7 8 7 9 6 5 0) (Some (Err (ExpectedQuote 4 39))) (at Done true true 0 8 1 9 hash_a 5 1)
    -- and while checks are off, not
    ∷ row "a=1" (at (Next 0) false false 7 8 7 9 6 5 0) (Some (Err (UnquotedValue 2))) (at (SkipValue 2) false false 7 8 7 9 6 5 0)
    -- 5: from the `=`; a bare one at the next place, or done
    ∷ row "a b a =1" (at (Next 3) false true 0 8 1 9 hash_a 5 1) (Some (Err (Duplicated 4 0))) (at (SkipEqValue 6) false true 0 8 1 9 hash_a 5 1)
    ∷ row "a a b" (at (Next 1) true true 0 8 1 9 hash_a 5 1) (Some (Err (Duplicated 2 0))) (at (Next 4) true true 0 8 1 9 hash_a 5 1)
    ∷ row "a a " (at (Next 1) true true 0 8 1 9 hash_a 5 1) (Some (Err (Duplicated 2 0))) (at Done true true 0 8 1 9 hash_a 5 1)
    -- 7, for its place and for a kept hash that is one more than its key's: all zero
    ∷ row "a" (at (SkipValue 1) true false 0 8 1 9 hash_a 5 1) (Some (Err BadState)) (at Done true false 0 0 0 0 0 0 0)
    ∷ row "a b=''" (at (Next 1) false true 0 8 1 9 (hash_a + 1) 5 1) (Some (Err BadState)) (at Done false true 0 0 0 0 0 0 0)
    -- attributes
    ∷ row "a=\"1\"" (at (Next 0) false true 7 8 7 9 6 5 0) (Some (Ok (DoubleQ (span 0 1) (span 3 4)))) (at (Next 5) false true 0 8 1 9 hash_a 5 1)
    ∷ row "a b='2'" (at (Next 1) false true 0 8 1 9 hash_a 5 1) (Some (Ok (SingleQ (span 2 3) (span 5 6)))) (at (Next 7) false true 0 2 1 3 hash_a hash_b 2)
    ∷ row "a=1" (at (Next 0) true true 7 8 7 9 6 5 0) (Some (Ok (Unquoted (span 0 1) (span 2 3)))) (at (Next 3) true true 0 8 1 9 hash_a 5 1)
    ∷ row "a b" (at (Next 0) true true 7 8 7 9 6 5 0) (Some (Ok (Empty (span 0 1)))) (at (Next 2) true true 0 8 1 9 hash_a 5 1)
    ∷ []

abbrev computed : Row → Step
computed r = next_of (bytes r.tag) r.state

abbrev written : Row → Step
written r = record { answer = r.answer; state = r.left }

rows : map computed table ≡ map written table
unfolding first_of first_to first_from is_space not_space ends_key is_byte part same_bytes bytes_from bytes times_prime hash_from hash_of key_good hash_is key_bad count_good table_good name_at same_key oldest_of earlier_of checked_by checked_of written_by count_by is_at is_quote skip_to skip_of recover_of key_eq key_to key_from key_at quoted closed_of quoted_to quoted_of unquoted_to other_of value_by value_from value_at check_of kept_by place_at bare_by bare_to bare_of valued_by valued_to valued_of read_key read_at step_from step_of place_good keys_of state_good no_keys bad_reading leaves next_of
rows = refl

-- The rows of a full table. That it is good is not computed key by key: each is the tag's first byte, with one hash.

module _ (s : List ℕ) (some : 1 ≤ length s) (first : part s 0 1 ≡ bytes "a") where
  crowded_keys : KeysIn (replicate capacity 0) (replicate capacity 1) (replicate capacity hash_a) capacity s
  unfolding name_at
  crowded_keys =
      record {
        few = omega arith;
        placed = (omega (arith, length-replicate {A = ℕ} capacity 0), omega (arith, length-replicate {A = ℕ} capacity 1), omega (arith, length-replicate {A = ℕ} capacity hash_a));
        inside = λ k lt. rw (get_or-replicate {A = ℕ} capacity k 0 0 lt, get_or-replicate {A = ℕ} capacity k 1 0 lt) (omega arith, some);
        kept = λ k lt. rw (get_or-replicate {A = ℕ} capacity k hash_a 0 lt, get_or-replicate {A = ℕ} capacity k 0 0 lt, get_or-replicate {A = ℕ} capacity k 1 0 lt) (ap hash_of (sym first));
      }

  crowded_good : (html : Bool) → state_good s (crowded (Next 1) html) ≡ true
  unfolding state_good place_good
  crowded_good html = rw (in_table s (replicate capacity 0) (replicate capacity 1) (replicate capacity hash_a) capacity crowded_keys)

-- a row by the step that a good state takes
abbrev stepped : Row → Step
stepped r =
    leaves r.state (step_of (bytes r.tag) r.state.html r.state.check_duplicates (keys_of r.state) r.state.place)

good_row : (r : Row) → state_good (bytes r.tag) r.state ≡ true → stepped r ≡ written r → computed r ≡ written r
good_row r good e = sym (next_steps (bytes r.tag) r.state good _ refl) ∙ e

-- 6, with `=` and bare
abbrev refused : Row
refused = row "a b=''" (crowded (Next 1) false) (Some (Err (KeyTableFull 2))) (crowded Done false)

abbrev refused_bare : Row
refused_bare = row "a b" (crowded (Next 1) true) (Some (Err (KeyTableFull 2))) (crowded Done true)

-- with a full table a key that is recorded already is 5, and a bare XML key 1
abbrev repeated : Row
repeated = row "a a=''" (crowded (Next 1) false) (Some (Err (Duplicated 2 0))) (crowded (SkipEqValue 3) false)

abbrev bare : Row
bare = row "a b c" (crowded (Next 1) false) (Some (Err (ExpectedEq 4))) (crowded (Next 4) false)

full_rows : (computed refused ≡ written refused) × (computed refused_bare ≡ written refused_bare) × (computed repeated ≡ written repeated) × (computed bare ≡ written bare)
unfolding first_of first_to first_from is_space not_space ends_key is_byte part same_bytes bytes_from bytes name_at same_key oldest_of earlier_of checked_by checked_of written_by count_by is_at is_quote skip_to skip_of recover_of key_eq key_to key_from key_at quoted closed_of quoted_to quoted_of unquoted_to other_of value_by value_from value_at check_of kept_by place_at bare_by bare_to bare_of valued_by valued_to valued_of read_key read_at step_from step_of keys_of leaves
full_rows = (
  good_row refused (crowded_good (bytes "a b=''") (omega arith) refl false) refl,
  good_row refused_bare (crowded_good (bytes "a b") (omega arith) refl true) refl,
  good_row repeated (crowded_good (bytes "a a=''") (omega arith) refl false) refl,
  good_row bare (crowded_good (bytes "a b c") (omega arith) refl false) refl,
)

-- Each law, applied.

abbrev tag : String → List ℕ
tag t = bytes t

-- a recorded key outside the tag is 7, though the place is done and checks are off
pub seven_example : (next_of (tag "ab") (at Done false false 0 8 3 9 6 5 1)).answer ≡ Some (Err BadState)
unfolding SevenExactly bytes bytes_from
seven_example = (seven_exactly (tag "ab") (at Done false false 0 8 3 9 6 5 1) (record { starts = refl; ends = refl; hashes = refl })).1 (outside_key 0 (omega arith) (omega arith))

-- and what is so answered has such a key
pub seven_back : Broken (tag "ab") (at Done false false 0 8 3 9 6 5 1)
unfolding SevenExactly
seven_back = (seven_exactly (tag "ab") (at Done false false 0 8 3 9 6 5 1) (record { starts = refl; ends = refl; hashes = refl })).0 seven_example

-- A kept hash that is one more than its key's is 7 as well.
pub seven_hash_example : (next_of (tag "a") (at Done false false 0 8 1 9 (hash_a + 1) 5 1)).answer ≡ Some (Err BadState)
unfolding SevenExactly part bytes bytes_from times_prime hash_from hash_of name_at
seven_hash_example =
    (seven_exactly (tag "a") (at Done false false 0 8 1 9 (hash_a + 1) 5 1) (record { starts = refl; ends = refl; hashes = refl })).1
    (wrong_hash 0 (omega arith) (λ e. omega arith))

full_tables : (place : Place) (html : Bool) → FullTables (crowded place html)
full_tables place html = record { starts = length-replicate {A = ℕ} capacity 0; ends = length-replicate {A = ℕ} capacity 1; hashes = length-replicate {A = ℕ} capacity hash_a }

-- The table is full and `b` is new: every premise of 6 is met, and it comes, with the start of `b`.
abbrev six_tag : List ℕ
six_tag = bytes "a b=''"

six_whole : Broken six_tag (crowded (Next 1) false) → ⊥
unfolding part bytes_from bytes
six_whole = good_whole six_tag (crowded (Next 1) false) (crowded_good six_tag (omega arith) refl false)

six_new : (k : ℕ) → k < capacity → name_at six_tag (replicate capacity 0) (replicate capacity 1) k ≡ part six_tag 2 3 → ⊥
unfolding name_at part bytes bytes_from
six_new k lt e =
    let h : name_at six_tag (replicate capacity 0) (replicate capacity 1) k ≡ bytes "a" = rw (get_or-replicate {A = ℕ} capacity k 0 0 lt, get_or-replicate {A = ℕ} capacity k 1 0 lt) in
    let z : ◌≡◌ {A = ℕ} 97 98 = cc in omega arith

pub six_example : (next_of six_tag (crowded (Next 1) false)).answer ≡ Some (Err (KeyTableFull 2))
unfolding SixExactly first_of first_to first_from is_space not_space ends_key bytes_from bytes is_at recover_of key_eq key_to key_from key_at
six_example =
    (six_exactly six_tag (crowded (Next 1) false) 2 (full_tables (Next 1) false)).1
    (record {
      whole = six_whole;
      checks = refl;
      key = span 2 3;
      due = valued 3 (record { from = 1; goes = refl; reads = refl });
      full = refl;
      new = six_new;
      start = refl;
    })

-- 3 leaves skip-value at pos with its key recorded; that key is `a`.
abbrev three_tag : List ℕ
three_tag = bytes "a=1 b='2'"

pub three_leaves : RecordsIts three_tag (opened 0 false true) (next_of three_tag (opened 0 false true)).state (SkipValue 2)
unfolding LeavesExact RowLeft first_of first_to first_from is_space not_space ends_key is_byte part same_bytes bytes_from bytes times_prime hash_from hash_of key_good hash_is key_bad count_good table_good name_at same_key oldest_of earlier_of checked_by checked_of written_by count_by is_at is_quote skip_to skip_of recover_of key_eq key_to key_from key_at quoted closed_of quoted_to quoted_of unquoted_to other_of value_by value_from value_at check_of kept_by place_at bare_by bare_to bare_of valued_by valued_to valued_of read_key read_at step_from step_of place_good keys_of state_good no_keys bad_reading leaves next_of opened
three_leaves = leaves_exact three_tag (opened 0 false true)

key_there : (from eq : ℕ) (key : Span) → Some 0 ≡ Some from → key_at three_tag from ≡ Some (Valued key eq) → key ≡ span 0 1
unfolding first_of first_to first_from is_space not_space ends_key bytes_from bytes is_at key_eq key_to key_from key_at
key_there from eq key goes reads =
    let zero : from ≡ 0 = cc in
    let here : Some (Valued (span 0 1) 1) ≡ Some (Valued key eq) = subst (λ (o : ℕ). key_at three_tag o ≡ Some (Valued key eq)) zero reads in
    cc

pub three_key : three_leaves.key ≡ span 0 1
unfolding recover_of opened bytes bytes_from
three_key = key_there three_leaves.due.from three_leaves.eq three_leaves.key three_leaves.due.goes three_leaves.due.reads

-- Only whitespace follows: the end comes.
abbrev spaces : List ℕ
spaces = bytes "a \t"

only_spaces : (k : ℕ) → 1 ≤ k → k < 3 → is_space (get_or spaces k 0) ≡ true
unfolding is_space bytes bytes_from
only_spaces zero lo hi = absurd (omega arith)
only_spaces (suc zero) lo hi = refl
only_spaces (suc (suc zero)) lo hi = refl
only_spaces (suc (suc (suc k))) lo hi = absurd (omega arith)

no_keys_whole : Broken spaces (opened 1 false true) → ⊥
no_keys_whole = good_whole spaces (opened 1 false true) (opened_good spaces 1 false true)

pub end_comes : (next_of spaces (opened 1 false true)).answer ≡ None
unfolding EndExactly recover_of opened no_keys bytes bytes_from
end_comes =
    (end_exactly spaces (opened 1 false true) (record { starts = length-replicate {A = ℕ} capacity 0; ends = length-replicate {A = ℕ} capacity 0; hashes = length-replicate {A = ℕ} capacity 0 })).1 no_keys_whole
    (only_space 1 refl (omega arith) only_spaces)

-- A skip with no whitespace after it is the end, and stays so.
pub end_example : (next_of (tag "a=1") (next_of (tag "a=1") (at (SkipValue 2) false true 0 8 1 9 hash_a 5 1)).state).answer ≡ None
unfolding EndStays first_of first_to first_from is_space part bytes_from bytes times_prime hash_from hash_of name_at key_good hash_is key_bad count_good table_good skip_to skip_of recover_of step_from step_of place_good keys_of state_good leaves next_of
end_example = ap (λ (x : Step). x.answer) (end_stays (tag "a=1") (at (SkipValue 2) false true 0 8 1 9 hash_a 5 1) refl)

-- 5 leaves a place past the one where its reading began.
abbrev five : IterState
five = at (Next 3) false true 0 8 1 9 hash_a 5 1

pub forward_example : Forward (tag "a b a =1") (Next 3) (SkipEqValue 6)
unfolding StepForward first_of first_to first_from is_space not_space ends_key is_byte part same_bytes bytes_from bytes times_prime hash_from hash_of key_good hash_is key_bad count_good table_good name_at same_key oldest_of earlier_of checked_by checked_of written_by count_by is_at is_quote skip_to skip_of recover_of key_eq key_to key_from key_at quoted closed_of quoted_to quoted_of unquoted_to other_of value_by value_from value_at check_of kept_by place_at bare_by bare_to bare_of valued_by valued_to valued_of read_key read_at step_from step_of place_good keys_of state_good no_keys bad_reading leaves next_of
forward_example =
    step_forward (tag "a b a =1") five
    (λ (e : Some (Err (Duplicated 4 0)) ≡ None). let z : ◌≡◌ {A = ℕ} 0 1 = cc in omega arith)
    (λ (e : Some (Err (Duplicated 4 0)) ≡ Some (Err BadState)). let z : ◌≡◌ {A = ℕ} 0 1 = cc in omega arith)

-- Two laws of the iterator that these stand on.

-- a longer run has no more answers
opened_sized : Sized (opened 0 false true)
unfolding opened no_keys
opened_sized = record { starts = length-replicate {A = ℕ} capacity 0; ends = length-replicate {A = ℕ} capacity 0; hashes = length-replicate {A = ℕ} capacity 0 }

pub run_whole_example : run_of 13 three_tag (opened 0 false true) ≡ answers_of three_tag (opened 0 false true)
unfolding bytes_from bytes
run_whole_example = run_whole 3 three_tag (opened 0 false true) opened_sized

-- 7 leaves a state that 7 does not answer
pub stays_good_example : state_good (tag "a") (next_of (tag "a") (at (SkipValue 1) true false 0 8 1 9 hash_a 5 1)).state ≡ true
stays_good_example = next_stays_good (tag "a") (at (SkipValue 1) true false 0 8 1 9 hash_a 5 1) (record { starts = refl; ends = refl; hashes = refl })

-- The crate's skip from `=`.

abbrev skipping : IterState
skipping = at (SkipEqValue 1) false true 0 8 1 9 hash_a 5 1

-- from the `=` on, the first whitespace, though it stands between quotes
pub dead_quotes_example : (skip_arm_of (tag "a=\"2 3\" b") 1 ≡ other 1) × (crate_skip_eq_value_of (tag "a=\"2 3\" b") 1 ≡ Some 4)
unfolding DeadQuotes first_of first_to first_from is_space part bytes_from bytes times_prime hash_from hash_of name_at key_good hash_is key_bad count_good table_good is_at skip_to skip_of place_good keys_of state_good
dead_quotes_example =
    let p = dead_quotes (tag "a=\"2 3\" b") skipping refl 1 refl in
    (p.arm, p.skips)

-- Where a quote stands at the place, the crate's branch would be taken and end at the closing quote; but that state is 7.
pub quote_example :
    (skip_arm_of (tag "a=\"2 3\" b") 2 ≡ quote 2 34) × (crate_skip_eq_value_of (tag "a=\"2 3\" b") 2 ≡ Some 6)
    × ((next_of (tag "a=\"2 3\" b") (at (SkipEqValue 2) false true 0 8 1 9 hash_a 5 1)).answer ≡ Some (Err BadState))
unfolding first_of first_to first_from is_space not_space is_byte part bytes_from bytes times_prime hash_from hash_of name_at key_good hash_is key_bad count_good table_good is_at is_quote skip_to skip_of place_good keys_of state_good bad_reading leaves next_of skip_arm_at skip_arm_of skip_arm_goes crate_skip_eq_value_of
quote_example = (refl, refl, refl)
