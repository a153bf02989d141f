-- What one turn of the batch's loop does: the whole batch is what was written so far, and the batch of what is left.
use Prim.Native.Nat.{ℕ, zero, suc, ◌+◌, ◌-◌, ◌*◌, ◌≤◌, ◌<◌}
use mathlib.Core.Path.{◌≡◌, refl, sym, ap, ◌∙◌}
use mathlib.Core.Bool.{Bool, true, false}
use mathlib.Core.List.{List, []}
use native.Mathlib.Omega.{arith}
use lib.ListN.{length, get_or}
use lib.Dec.{eqb}
use borrow.Author.Tests.{eq-eqb, ne_eqb}
use Rattle.std.proofs.Common.{Option, Some, None}
use Rattle.std.specs.Prelude.{Ok, Err, Result}
use Rattle.scan.specs.Lists.{over}
use Rattle.scan.proofs.Lists.{over_length, over_none, over_more}
use Rattle.tag_step.specs.Answer.{Answer}
use Rattle.tag_step.specs.declared.Attr.TheVariants.{DoubleQ, SingleQ, Unquoted, Empty}
use Rattle.tag_step.specs.declared.AttrError.TheVariants.{ExpectedEq, ExpectedValue, UnquotedValue, ExpectedQuote, Duplicated, KeyTableFull, BadState}
use Rattle.tag_step.specs.declared.IterState.{IterState}
use Rattle.tag_step.specs.Numbers.{numbers_of}
use Rattle.tag_step.specs.Run.{is_end}
use Rattle.tag_step.specs.declared.Place.{Place}
use Rattle.tag_step.specs.declared.Advance.{Advance}
use Rattle.tag_step.specs.Next.{keys_lent, step_of, lent_state}
use Rattle.tag_keys.specs.Sieve.{SieveOf, sieve_left}
use Rattle.tag_keys.proofs.Sieve.{sieve_goes_on}
use Rattle.tag_step.specs.Lent.{whole_next, needs_more, stepped_of, taken, kept_in, taken_on}
use Rattle.tag_step.proofs.Lent.{made_held, made_answer, made_leaves, made_good, made_starts, made_ends, made_hashes, more_needs, more_starts, more_ends, more_hashes}
use Rattle.tag_batch.specs.declared.Five.{Five}
use Rattle.tag_batch.specs.declared.BatchRead.{BatchRead}
use Rattle.tag_batch.specs.declared.WrongTables.{WrongTables}
use Rattle.tag_batch.specs.declared.Why.{Why}
use Rattle.tag_batch.specs.declared.Why.TheVariants.{OutFull, AtEnd, LendMore}
use Rattle.tag_batch.specs.Batch.{five_of, listed, fives_of, Ran, ran, ahead, ran_of, answers_room, Batched, batched, batch_shown, read_of, Ripe, read}

-- every answer is five numbers
pub five_length : (a : Answer) → length (five_of a) ≡ 5
unfolding five_of numbers_of
five_length None = refl
five_length (Some (Ok (DoubleQ k v))) = refl
five_length (Some (Ok (SingleQ k v))) = refl
five_length (Some (Ok (Unquoted k v))) = refl
five_length (Some (Ok (Empty k))) = refl
five_length (Some (Err (ExpectedEq p))) = refl
five_length (Some (Err (ExpectedValue l))) = refl
five_length (Some (Err (UnquotedValue p))) = refl
five_length (Some (Err (ExpectedQuote l q))) = refl
five_length (Some (Err (Duplicated this earlier))) = refl
five_length (Some (Err (KeyTableFull this))) = refl
five_length (Some (Err BadState)) = refl

-- the end, and no other answer, has the number 0
pub end_code : (a : Answer) → is_end a ≡ eqb (get_or (five_of a) 0 0) 0
unfolding five_of numbers_of is_end
end_code None = refl
end_code (Some (Ok (DoubleQ k v))) = refl
end_code (Some (Ok (SingleQ k v))) = refl
end_code (Some (Ok (Unquoted k v))) = refl
end_code (Some (Ok (Empty k))) = refl
end_code (Some (Err (ExpectedEq p))) = refl
end_code (Some (Err (ExpectedValue l))) = refl
end_code (Some (Err (UnquotedValue p))) = refl
end_code (Some (Err (ExpectedQuote l q))) = refl
end_code (Some (Err (Duplicated this earlier))) = refl
end_code (Some (Err (KeyTableFull this))) = refl
end_code (Some (Err BadState)) = refl

-- as the code asks it
pub code_end : (a : Answer) (x : Five) → listed x ≡ five_of a → x.code ≡ 0 → is_end a ≡ true
code_end a x e z = end_code a ∙ ap (λ (l : List ℕ). eqb (get_or l 0 0) 0) (sym e) ∙ eq-eqb x.code 0 z

pub code_other : (a : Answer) (x : Five) → listed x ≡ five_of a → (x.code ≡ 0 → ⊥) → is_end a ≡ false
code_other a x e z = end_code a ∙ ap (λ (l : List ℕ). eqb (get_or l 0 0) 0) (sym e) ∙ ne_eqb x.code 0 z

-- a batch from its parts
pub left_is : (x : BatchRead) (n : ℕ) (why : Why) → x.answers ≡ n → x.why ≡ why → ◌≡◌ {A = Result BatchRead WrongTables} (Ok x) (read n x.place x.count why)
left_is x n why a w = rw (sym a, sym w) refl

-- n answers stand at the front already, and these follow
abbrev pub shown_from : ℕ → List ℕ → Ran → Batched
shown_from n out x =
    batched (read (n + length x.answers) x.state.place x.state.count x.why) x.state.starts x.state.ends x.state.hashes
    (over out (5 * n) (fives_of x.answers))

shown_none : (n : ℕ) (out : List ℕ) (st : IterState) (why : Why) → shown_from n out (ran [] st why) ≡ batched (read n st.place st.count why) st.starts st.ends st.hashes out
unfolding fives_of
shown_none n out st why =
    let e : n + 0 ≡ n = omega arith in
    rw (e, over_none out (5 * n))

shown_next : (n : ℕ) (out : List ℕ) (a : Answer) (x : Ran) → 5 * n + 5 ≤ length out → shown_from n out (ahead a x) ≡ shown_from (n + 1) (over out (5 * n) (five_of a)) x
unfolding fives_of
shown_next n out a x room =
    let five = five_length a in
    let at : 5 * n + length (five_of a) ≡ 5 * (n + 1) = omega arith in
    let many : n + suc (length x.answers) ≡ n + 1 + length x.answers = omega arith in
    let text = over_more out (5 * n) (five_of a) (omega arith) (fives_of x.answers) ∙ ap (λ (k : ℕ). over (over out (5 * n) (five_of a)) k (fives_of x.answers)) at in
    rw (many, text)

-- The loop's invariant, over any run. `whole` is the output at the start, `n` the answers written, `st` the state, `out` the output
-- now.
pub record TurnOf (s : List ℕ) (run : ℕ → IterState → Ran) (first : IterState) (whole : List ℕ) (n : ℕ) (st : IterState) (out : List ℕ) : Type 0 where
  pub ripe : Ripe s st
  pub size : length out ≡ length whole
  pub fits : n ≤ answers_room whole
  pub same : batch_shown whole (run (answers_room whole) first) ≡ shown_from n out (run (answers_room whole - n) st)

pub turn_first : (s : List ℕ) (run : ℕ → IterState → Ran) (st : IterState) (out : List ℕ) → Ripe s st → TurnOf s run st out 0 st out
unfolding batch_shown
turn_first s run st out r =
    let e : answers_room out - 0 ≡ answers_room out = omega arith in
    let z : 5 * 0 ≡ 0 = omega arith in
    let m : 0 + length (run (answers_room out) st).answers ≡ length (run (answers_room out) st).answers = omega arith in
    record { ripe = r; size = refl; fits = omega arith; same = rw (e, z, m) }

-- room for an answer, and none
room_more : (out : List ℕ) (n : ℕ) → 5 * n + 5 ≤ length out → n < answers_room out
unfolding answers_room
room_more out n h = omega arith

pub room_fits : (out : List ℕ) (n : ℕ) → n ≤ answers_room out → 5 * n ≤ length out
unfolding answers_room
room_fits out n h = omega arith

room_none : (out : List ℕ) (n : ℕ) → length out < 5 * n + 5 → n ≤ answers_room out → answers_room out - n ≡ 0
unfolding answers_room
room_none out n h l = omega arith

module _ (s : List ℕ) (run : ℕ → IterState → Ran) (first : IterState) (whole : List ℕ) (n : ℕ) (st : IterState) (out : List ℕ) (t : TurnOf s run first whole n st out) where
  -- there is room for one answer more
  module _ (room : 5 * n + 5 ≤ length out) where
    more : answers_room whole - n ≡ suc (answers_room whole - (n + 1))
    more = omega (arith, room_more whole n (omega (arith, t.size)))

    went : (x : Ran) → run (suc (answers_room whole - (n + 1))) st ≡ x → batch_shown whole (run (answers_room whole) first) ≡ shown_from n out x
    went x e = t.same ∙ rw (more, e)

    -- no answer: nothing is written
    pub turn_stops : (left : IterState) (why : Why) → ((m : ℕ) → run (suc m) st ≡ ran [] left why) → batched (read n left.place left.count why) left.starts left.ends left.hashes out ≡ batch_shown whole (run (answers_room whole) first)
    turn_stops left why e = sym (went (ran [] left why) (e (answers_room whole - (n + 1))) ∙ shown_none n out left why)

    -- an answer: it is written, and the loop goes on
    pub turn_next : (a : Answer) (after : IterState) → ((m : ℕ) → run (suc m) st ≡ ahead a (run m after)) → Ripe s after → TurnOf s run first whole (n + 1) after (over out (5 * n) (five_of a))
    turn_next a after e ripe =
        let five = five_length a in
        record {
          ripe = ripe;
          size = over_length out (5 * n) (five_of a) (omega arith) ∙ t.size;
          fits = omega (arith, room_more whole n (omega (arith, t.size)));
          same = went (ahead a (run (answers_room whole - (n + 1)) after)) (e (answers_room whole - (n + 1))) ∙ shown_next n out a (run (answers_room whole - (n + 1)) after) room;
        }

  -- the output is full
  pub turn_full : length out < 5 * n + 5 → run zero st ≡ ran [] st OutFull → batched (read n st.place st.count OutFull) st.starts st.ends st.hashes out ≡ batch_shown whole (run (answers_room whole) first)
  turn_full h e =
      let z = room_none whole n (omega (arith, t.size)) t.fits in
      sym (t.same ∙ rw (z, e) (shown_none n out st OutFull))

-- The run of a batch.

abbrev pub runs : List ℕ → ℕ → IterState → Ran
runs s n st = ran_of n s st

-- a step of it
module _ (s : List ℕ) (st : IterState) (m : ℕ) where
  ran_more : needs_more s st ≡ true → ran_of (suc m) s st ≡ ran [] st LendMore
  unfolding ran_of
  ran_more h = rw h

  module _ (held : needs_more s st ≡ false) (a : Answer) (after : IterState) (answer : (whole_next s st).answer ≡ a) (leaves : stepped_of s st ≡ after) where
    ran_end : is_end a ≡ true → ran_of (suc m) s st ≡ ran [] after AtEnd
    unfolding ran_of
    ran_end h = rw (held, answer, h, leaves)

    ran_next : is_end a ≡ false → ran_of (suc m) s st ≡ ahead a (ran_of m s after)
    unfolding ran_of
    ran_next h = rw (held, answer, h, leaves)

pub goes_full : (s : List ℕ) (first : IterState) (whole : List ℕ) (n : ℕ) (st : IterState) (out : List ℕ) → TurnOf s (runs s) first whole n st out → length out < 5 * n + 5
    → batched (read n st.place st.count OutFull) st.starts st.ends st.hashes out ≡ read_of s first whole
unfolding read_of ran_of
goes_full s first whole n st out t h = turn_full s (runs s) first whole n st out t h refl

-- What `step_in` has done, from a state that is ripe.
module _ (s : List ℕ) (place : Place) (html checks : Bool) (starts ends hashes : List ℕ) (count : ℕ) (p : Ripe s (lent_state place html checks starts ends hashes count))
    (r : Option Advance) (starts' ends' hashes' : List ℕ) (e : taken r starts' ends' hashes' count ≡ taken_on (keys_lent starts ends hashes count) (step_of s html checks (keys_lent starts ends hashes count) place)) where
  abbrev st : IterState
  st = lent_state place html checks starts ends hashes count

  -- a key had no place, and the tables are as they were
  pub short_needs : r ≡ None → needs_more s st ≡ true
  short_needs m = more_needs s place html checks starts ends hashes count p.starts p.ends p.hashes p.good r starts' ends' hashes' e m

  pub short_left : r ≡ None → lent_state place html checks starts' ends' hashes' count ≡ st
  short_left m =
      rw (more_hashes s place html checks starts ends hashes count p.starts p.ends p.hashes p.good r starts' ends' hashes' e m, more_starts s place html checks starts ends hashes count p.starts p.ends p.hashes p.good r starts' ends' hashes' e m, more_ends s place html checks starts ends hashes count p.starts p.ends p.hashes p.good r starts' ends' hashes' e m)

  module _ (o : Advance) (m : r ≡ Some o) where
    abbrev after : IterState
    after = lent_state o.place html checks starts' ends' hashes' o.count

    pub step_held : needs_more s st ≡ false
    step_held = made_held s place html checks starts ends hashes count p.starts p.ends p.hashes p.good r starts' ends' hashes' e o m

    pub step_answer : (whole_next s st).answer ≡ o.answer
    step_answer = made_answer s place html checks starts ends hashes count p.starts p.ends p.hashes p.good r starts' ends' hashes' e o m

    pub step_leaves : stepped_of s st ≡ after
    step_leaves = made_leaves s place html checks starts ends hashes count p.starts p.ends p.hashes p.good r starts' ends' hashes' e o m

    -- what is left is ripe as before
    pub step_ripe : Ripe s after
    step_ripe =
        record {
          good = made_good s place html checks starts ends hashes count p.starts p.ends p.hashes p.good r starts' ends' hashes' e o m;
          starts = omega (arith, made_starts s place html checks starts ends hashes count p.starts p.ends p.hashes p.good r starts' ends' hashes' e o m, p.starts);
          ends = omega (arith, made_ends s place html checks starts ends hashes count p.starts p.ends p.hashes p.good r starts' ends' hashes' e o m, p.ends);
          hashes = omega (arith, made_hashes s place html checks starts ends hashes count p.starts p.ends p.hashes p.good r starts' ends' hashes' e o m, p.hashes);
        }

-- a batch as what a state is left in
abbrev pub stopped : ℕ → IterState → Why → List ℕ → Batched
stopped n st why out = batched (read n st.place st.count why) st.starts st.ends st.hashes out

-- The same of a batch.
module _ (s : List ℕ) (first : IterState) (whole : List ℕ) (n : ℕ) (place : Place) (html checks : Bool) (starts ends hashes : List ℕ) (count : ℕ) (out : List ℕ)
    (t : TurnOf s (runs s) first whole n (lent_state place html checks starts ends hashes count) out) (room : 5 * n + 5 ≤ length out)
    (r : Option Advance) (starts' ends' hashes' : List ℕ) (e : taken r starts' ends' hashes' count ≡ taken_on (keys_lent starts ends hashes count) (step_of s html checks (keys_lent starts ends hashes count) place)) where
  abbrev here : IterState
  here = lent_state place html checks starts ends hashes count

  pub goes_short : r ≡ None → batched (read n place count LendMore) starts' ends' hashes' out ≡ read_of s first whole
  unfolding read_of
  goes_short m =
      ap (λ (x : IterState). stopped n x LendMore out) (short_left s place html checks starts ends hashes count t.ripe r starts' ends' hashes' e m)
      ∙ turn_stops s (runs s) first whole n here out t room here LendMore (λ k. ran_more s here k (short_needs s place html checks starts ends hashes count t.ripe r starts' ends' hashes' e m))

  module _ (o : Advance) (m : r ≡ Some o) where
    abbrev left : IterState
    left = lent_state o.place html checks starts' ends' hashes' o.count

    held : needs_more s here ≡ false
    held = step_held s place html checks starts ends hashes count t.ripe r starts' ends' hashes' e o m

    answer : (whole_next s here).answer ≡ o.answer
    answer = step_answer s place html checks starts ends hashes count t.ripe r starts' ends' hashes' e o m

    leaves : stepped_of s here ≡ left
    leaves = step_leaves s place html checks starts ends hashes count t.ripe r starts' ends' hashes' e o m

    pub goes_end : is_end o.answer ≡ true → batched (read n o.place o.count AtEnd) starts' ends' hashes' out ≡ read_of s first whole
    unfolding read_of
    goes_end h = turn_stops s (runs s) first whole n here out t room left AtEnd (λ k. ran_end s here k held o.answer left answer leaves h)

    pub goes_on : is_end o.answer ≡ false → TurnOf s (runs s) first whole (n + 1) left (over out (5 * n) (five_of o.answer))
    goes_on h =
        turn_next s (runs s) first whole n here out t room o.answer left (λ k. ran_next s here k held o.answer left answer leaves h)
        (step_ripe s place html checks starts ends hashes count t.ripe r starts' ends' hashes' e o m)

-- the sieve that a step leaves is that of the hashes that are kept then
pub goes_sieve : (checks : Bool) (sieve hashes sieve' : List ℕ) (count : ℕ) (r : Option Advance) → sieve' ≡ sieve_left checks sieve hashes (kept_in r count) → (o : Advance) → r ≡ Some o → SieveOf checks sieve' hashes o.count
goes_sieve checks sieve hashes sieve' count r e o m =
    sieve_goes_on checks sieve hashes sieve' o.count (e ∙ ap (λ (x : Option Advance). sieve_left checks sieve hashes (kept_in x count)) m)
