-- Steps on lent tables that may be shorter than the capacity. A step that leaves no more keys than are lent is the step of the
-- iterator that the tables are: unused places are never read, and what is written lies in what is lent.
use Prim.Native.Nat.{ℕ, zero, suc, ◌-◌, ◌≤◌}
use mathlib.Core.Path.{◌≡◌, refl, sym, ap, fun_ext, ◌∙◌}
use mathlib.Core.Bool.{Bool, true, false, not, ◌&&◌}
use mathlib.Core.List.{List, [], ◌∷◌, ◌++◌}
use native.Mathlib.Omega.{arith}
use lib.ListN.{length, set, take, replicate}
use lib.Seq.{take_at, take_all}
use lib.Dec.{leb}
use Rattle.std.proofs.Common.{Result, Ok, Err, Option, Some, None}
use Rattle.scan.specs.First.{first_to, pick}
use Rattle.scan.specs.Bytes.{part}
use Rattle.scan.specs.Lists.{pad_to}
use Rattle.scan.proofs.Bytes.{both}
use Rattle.scan.proofs.Lists.{pad_at, pad_length, pad_take, pad_full}
use Rattle.tag_keys.specs.declared.KeyRefusal.{KeyRefusal}
use Rattle.tag_keys.specs.declared.KeyRefusal.TheVariants.{Same, Full}
use Rattle.tag_keys.specs.Hash.{hash_of}
use Rattle.tag_keys.specs.Keys.{capacity, hash_is, key_bad, holds, count_good, table_good, KeysIn, name_at, same_key, oldest_of, earlier_of, checked_of, written_by}
use Rattle.tag_keys.proofs.Laws.{table_in, in_table, facts_hold}
use Rattle.tag_step.specs.declared.Span.{Span}
use Rattle.tag_step.specs.declared.Place.{Place}
use Rattle.tag_step.specs.declared.Place.TheVariants.{Done}
use Rattle.tag_step.specs.declared.KeyRead.{KeyRead}
use Rattle.tag_step.specs.declared.KeyRead.TheVariants.{Bare, Valued}
use Rattle.tag_step.specs.declared.AttrError.TheVariants.{ExpectedEq, BadState}
use Rattle.tag_step.specs.declared.IterState.{IterState}
use Rattle.tag_step.specs.declared.Step.{Step}
use Rattle.tag_step.specs.declared.Advance.{Advance}
use Rattle.tag_step.specs.Read.{found, recover_of, key_at}
use Rattle.tag_step.specs.Next.{Keys, Reading, reading, keys_lent, check_of, kept_by, bare_to, bare_of, valued_to, valued_of, read_key, read_at, step_from, step_of, place_at, place_good, advanced, keys_of, lent_state, state_good, no_keys, bad_reading, leaves, next_of}
use Rattle.tag_step.specs.Lent.{whole_of, whole_next, needs_more, stepped_of, Took, Short, taken, taken_on}
use Rattle.tag_step.proofs.Good.{Sized, step_stands, next_stays_good, next_sized}
use Rattle.tag_step.proofs.Taken.{Held, step_keeps_held}
use Rattle.tag_step.proofs.Whole.{next_bad, next_steps}

-- Padding.

-- what is lent of a padded table, as it is and after a place was written, wherever that is
set_front : (t z : List ℕ) (i x : ℕ) → take (length t) (set (t ++ z) i x) ≡ set t i x
set_front [] z i x = refl
set_front (a ∷ t) z zero x = ap (λ (l : List ℕ). x ∷ l) (take_at t z (length t) refl)
set_front (a ∷ t) z (suc i) x = ap (λ (l : List ℕ). a ∷ l) (set_front t z i x)

written_front : (checks : Bool) (c : Result ℕ KeyRefusal) (t : List ℕ) (count x : ℕ) → take (length t) (written_by checks c (pad_to capacity t) count x) ≡ written_by checks c t count x
unfolding written_by pad_to
written_front true (Ok n) t count x = set_front t (replicate (capacity - length t) 0) count x
written_front false (Ok n) t count x = pad_take capacity t
written_front checks (Err (Same p)) t count x = pad_take capacity t
written_front checks (Err Full) t count x = pad_take capacity t

take_zeros : (m n : ℕ) → m ≤ n → take m (replicate {A = ℕ} n 0) ≡ replicate m 0
take_zeros zero n h = refl
take_zeros (suc m) zero h = absurd (omega arith)
take_zeros (suc m) (suc n) h = ap (λ (l : List ℕ). 0 ∷ l) (take_zeros m n (omega arith))

-- The verdict on a key, and the test of a table, read the recorded keys alone.

name_padded : (s starts ends : List ℕ) (k : ℕ) → name_at s (pad_to capacity starts) (pad_to capacity ends) k ≡ name_at s starts ends k
unfolding name_at
name_padded s starts ends k = rw (pad_at capacity starts k, pad_at capacity ends k)

same_padded : (s starts ends : List ℕ) (from to k : ℕ) → same_key s (pad_to capacity starts) (pad_to capacity ends) from to k ≡ same_key s starts ends from to k
unfolding same_key
same_padded s starts ends from to k = rw (name_padded s starts ends k)

oldest_padded : (s starts ends : List ℕ) (count from to : ℕ) → oldest_of s (pad_to capacity starts) (pad_to capacity ends) count from to ≡ oldest_of s starts ends count from to
unfolding oldest_of
oldest_padded s starts ends count from to = ap (λ (p : ℕ → Bool). first_to p 0 count) (fun_ext (same_padded s starts ends from to))

check_padded : (s : List ℕ) (checks : Bool) (starts ends : List ℕ) (count from to : ℕ) → checked_of s checks (pad_to capacity starts) (pad_to capacity ends) count from to ≡ checked_of s checks starts ends count from to
unfolding checked_of earlier_of
check_padded s checks starts ends count from to =
    rw (oldest_padded s starts ends count from to, pad_at capacity starts (oldest_of s starts ends count from to))

bad_at : (s starts ends hashes : List ℕ) (k : ℕ) → key_bad s (pad_to capacity starts) (pad_to capacity ends) (pad_to capacity hashes) k ≡ key_bad s starts ends hashes k
unfolding key_bad hash_is
bad_at s starts ends hashes k = rw (pad_at capacity starts k, pad_at capacity ends k, pad_at capacity hashes k, name_padded s starts ends k)

bad_padded : (s starts ends hashes : List ℕ) (count : ℕ) → first_to (key_bad s (pad_to capacity starts) (pad_to capacity ends) (pad_to capacity hashes)) 0 count ≡ first_to (key_bad s starts ends hashes) 0 count
bad_padded s starts ends hashes count = ap (λ (p : ℕ → Bool). first_to p 0 count) (fun_ext (bad_at s starts ends hashes))

-- A step on padded tables.

-- what is lent of other tables
abbrev front : Keys → Keys → Keys
front keys other = keys_lent (take (length keys.starts) other.starts) (take (length keys.ends) other.ends) (take (length keys.hashes) other.hashes) other.count

abbrev fronted : Keys → Reading → Reading
fronted keys x = reading (found x.answer x.place) (front keys x.keys)

abbrev padded : Keys → Keys
padded keys = keys_lent (pad_to capacity keys.starts) (pad_to capacity keys.ends) (pad_to capacity keys.hashes) keys.count

module _ (s : List ℕ) (html checks : Bool) (keys : Keys) where
  front_all : keys ≡ front keys (padded keys)
  front_all = rw (pad_take capacity keys.starts, pad_take capacity keys.ends, pad_take capacity keys.hashes)

  kept_front : (key : Span) (c : Result ℕ KeyRefusal) → kept_by s checks keys key c ≡ front keys (kept_by s checks (padded keys) key c)
  unfolding kept_by
  kept_front key c = rw (written_front checks c keys.starts keys.count key.start, written_front checks c keys.ends keys.count key.end, written_front checks c keys.hashes keys.count (hash_of (part s key.start key.end)))

  verdict : (key : Span) → check_of s checks (padded keys) key ≡ check_of s checks keys key
  unfolding check_of
  verdict key = check_padded s checks keys.starts keys.ends keys.count key.start key.end

  front_bare : (key : Span) (at : ℕ) (h : Bool) → bare_of s h checks keys key at ≡ fronted keys (bare_of s h checks (padded keys) key at)
  unfolding bare_of bare_to
  front_bare key at true = rw (verdict key, kept_front key (check_of s checks keys key))
  front_bare key at false = ap (λ (k : Keys). reading (found (Some (Err (ExpectedEq at))) (place_at s at)) k) front_all

  front_key : (k : Option KeyRead) → read_key s html checks keys k ≡ fronted keys (read_key s html checks (padded keys) k)
  unfolding read_key valued_of valued_to
  front_key None = ap (λ (k : Keys). reading (found None Done) k) front_all
  front_key (Some (Bare key at)) = front_bare key at html
  front_key (Some (Valued key eq)) = rw (verdict key, kept_front key (check_of s checks keys key))

  front_step : (place : Place) → step_of s html checks keys place ≡ fronted keys (step_of s html checks (padded keys) place)
  unfolding step_of step_from read_at
  front_step place = by (recover_of s place) where
    by : (x : Option ℕ) → step_from s html checks keys place x ≡ fronted keys (step_from s html checks (padded keys) place x)
    by (Some o) = front_key (key_at s o)
    by None = ap (λ (k : Keys). reading (found None place) k) front_all

-- The state is good exactly if the iterator's is, and the tables hold its keys.
good_by : (a h : Bool) → h ≡ true → (f : Bool) → ((a && h) && f) ≡ ((a && (a && (a && a))) && f)
good_by true h e f = rw e
good_by false h e f = refl

module _ (s : List ℕ) (st : IterState) (ls : length st.starts ≤ capacity) (le : length st.ends ≤ capacity) (lh : length st.hashes ≤ capacity) where
  pub whole_good : holds st.starts st.ends st.hashes st.count ≡ true → state_good s st ≡ state_good s (whole_of st)
  unfolding state_good whole_of table_good count_good
  whole_good h =
      rw (bad_padded s st.starts st.ends st.hashes st.count, pad_length capacity st.starts ls, pad_length capacity st.ends le, pad_length capacity st.hashes lh)
      (ap (λ (b : Bool). b && place_good s st.place)
      (good_by (leb st.count capacity) (holds st.starts st.ends st.hashes st.count) h (leb st.count (first_to (key_bad s st.starts st.ends st.hashes) 0 st.count))))

  -- a state that is not good is answered by 7, on the lent tables
  module _ (bad : state_good s st ≡ false) where
    whole_bad : whole_next s st ≡ leaves st bad_reading
    unfolding whole_next leaves whole_of
    whole_bad = by (holds st.starts st.ends st.hashes st.count) refl where
      by : (t : Bool) → holds st.starts st.ends st.hashes st.count ≡ t → pick t (next_of s (whole_of st)) (leaves st bad_reading) ≡ leaves st bad_reading
      by true h = sym (next_bad s (whole_of st) (sym (whole_good h) ∙ bad))
      by false h = refl

    pub bad_answer : (whole_next s st).answer ≡ Some (Err BadState)
    unfolding leaves bad_reading
    bad_answer = ap (λ (y : Step). y.answer) whole_bad

    pub bad_needs : needs_more s st ≡ false
    unfolding needs_more leaves bad_reading no_keys
    bad_needs = rw whole_bad (ap not (facts_hold st.starts st.ends st.hashes 0 (omega arith, omega arith, omega arith)))

    pub bad_leaves : stepped_of s st ≡ lent_state Done st.html st.check_duplicates (replicate (length st.starts) 0) (replicate (length st.ends) 0) (replicate (length st.hashes) 0) 0
    unfolding stepped_of leaves bad_reading no_keys
    bad_leaves = rw (whole_bad, take_zeros (length st.starts) capacity ls, take_zeros (length st.ends) capacity le, take_zeros (length st.hashes) capacity lh)

  -- a good one is read as the tables say
  module _ (good : state_good s st ≡ true) where
    good_holds : holds st.starts st.ends st.hashes st.count ≡ true
    unfolding state_good
    good_holds =
        let i = table_in s st.starts st.ends st.hashes st.count (both (table_good s st.starts st.ends st.hashes st.count) (place_good s st.place) good).0 in
        facts_hold st.starts st.ends st.hashes st.count i.placed

    module _ (x : Reading) (e : x ≡ step_of s st.html st.check_duplicates (keys_of st) st.place) where
      abbrev y : Reading
      y = step_of s st.html st.check_duplicates (padded (keys_of st)) st.place

      whole_steps : whole_next s st ≡ leaves st y
      unfolding whole_next leaves keys_of whole_of
      whole_steps = rw good_holds (sym (next_steps s (whole_of st) (sym (whole_good good_holds) ∙ good) y refl))

      same : x ≡ fronted (keys_of st) y
      same = e ∙ front_step s st.html st.check_duplicates (keys_of st) st.place

      pub good_answer : (whole_next s st).answer ≡ x.answer
      unfolding leaves
      good_answer = ap (λ (z : Step). z.answer) whole_steps ∙ sym (ap (λ (r : Reading). r.answer) same)

      pub good_needs : needs_more s st ≡ not (holds st.starts st.ends st.hashes x.keys.count)
      unfolding needs_more leaves
      good_needs = rw whole_steps (ap (λ (r : Reading). not (holds st.starts st.ends st.hashes r.keys.count)) (sym same))

      pub good_leaves : stepped_of s st ≡ lent_state x.place st.html st.check_duplicates x.keys.starts x.keys.ends x.keys.hashes x.keys.count
      unfolding stepped_of leaves keys_of
      good_leaves = rw whole_steps (ap (λ (r : Reading). lent_state r.place st.html st.check_duplicates r.keys.starts r.keys.ends r.keys.hashes r.keys.count) (sym same))

-- What `step_in` has done is that step, or it lacks a place.
module _ (s : List ℕ) (place : Place) (html checks : Bool) (starts ends hashes : List ℕ) (count : ℕ) where
  abbrev stood : IterState
  stood = lent_state place html checks starts ends hashes count

  abbrev next : Reading
  next = step_of s html checks (keys_lent starts ends hashes count) place

  module _ (ls : length starts ≤ capacity) (le : length ends ≤ capacity) (lh : length hashes ≤ capacity) (good : state_good s stood ≡ true) (r : Option Advance) (starts' ends' hashes' : List ℕ) (e : taken r starts' ends' hashes' count ≡ taken_on (keys_lent starts ends hashes count) next) where
    by_holds : (t : Bool) → holds starts ends hashes next.keys.count ≡ t → taken r starts' ends' hashes' count ≡ pick t (Took next) (Short (keys_lent starts ends hashes count))
    unfolding taken_on
    by_holds t h = e ∙ rw h

    is_made : (o : Advance) → r ≡ Some o → (holds starts ends hashes next.keys.count ≡ true) × (advanced o starts' ends' hashes' ≡ next)
    is_made o m = by (holds starts ends hashes next.keys.count) refl where
      by : (t : Bool) → holds starts ends hashes next.keys.count ≡ t → (t ≡ true) × (advanced o starts' ends' hashes' ≡ next)
      by true h =
          let w : taken r starts' ends' hashes' count ≡ Took (advanced o starts' ends' hashes') = ap (λ (x : Option Advance). taken x starts' ends' hashes' count) m in
          let z = by_holds true h in
          (refl, cc)
      by false h =
          let w : taken r starts' ends' hashes' count ≡ Took (advanced o starts' ends' hashes') = ap (λ (x : Option Advance). taken x starts' ends' hashes' count) m in
          let z = by_holds false h in
          let n : ◌≡◌ {A = ℕ} 0 1 = cc in
          absurd (omega arith)

    is_short : r ≡ None → (holds starts ends hashes next.keys.count ≡ false) × (starts' ≡ starts) × (ends' ≡ ends) × (hashes' ≡ hashes)
    is_short m = by (holds starts ends hashes next.keys.count) refl where
      by : (t : Bool) → holds starts ends hashes next.keys.count ≡ t → (t ≡ false) × (starts' ≡ starts) × (ends' ≡ ends) × (hashes' ≡ hashes)
      by true h =
          let w : taken r starts' ends' hashes' count ≡ Short (keys_lent starts' ends' hashes' count) = ap (λ (x : Option Advance). taken x starts' ends' hashes' count) m in
          let z = by_holds true h in
          let n : ◌≡◌ {A = ℕ} 0 1 = cc in
          absurd (omega arith)
      by false h =
          let w : taken r starts' ends' hashes' count ≡ Short (keys_lent starts' ends' hashes' count) = ap (λ (x : Option Advance). taken x starts' ends' hashes' count) m in
          let z = by_holds false h in
          let q : keys_lent starts' ends' hashes' count ≡ keys_lent starts ends hashes count = cc in
          (refl, ap (λ (k : Keys). k.starts) q, ap (λ (k : Keys). k.ends) q, ap (λ (k : Keys). k.hashes) q)

    -- it was taken: the answer, what is left, and that is good again
    module _ (o : Advance) (m : r ≡ Some o) where
      pub made_held : needs_more s stood ≡ false
      unfolding keys_of
      made_held = good_needs s stood ls le lh good next refl ∙ ap not (is_made o m).0

      pub made_answer : (whole_next s stood).answer ≡ o.answer
      unfolding keys_of
      made_answer = good_answer s stood ls le lh good next refl ∙ sym (ap (λ (x : Reading). x.answer) (is_made o m).1)

      pub made_leaves : stepped_of s stood ≡ lent_state o.place html checks starts' ends' hashes' o.count
      unfolding keys_of
      made_leaves =
          good_leaves s stood ls le lh good next refl
          ∙ sym (ap (λ (x : Reading). lent_state x.place html checks x.keys.starts x.keys.ends x.keys.hashes x.keys.count) (is_made o m).1)

      inside : KeysIn starts ends hashes count s
      unfolding state_good
      inside = table_in s starts ends hashes count (both (table_good s starts ends hashes count) (place_good s place) good).0

      placed : place_good s place ≡ true
      unfolding state_good
      placed = (both (table_good s starts ends hashes count) (place_good s place) good).1

      kept : Held s (keys_lent starts ends hashes count) next.keys
      kept = step_keeps_held s checks (keys_lent starts ends hashes count) inside html place (is_made o m).0

      pub made_good : state_good s (lent_state o.place html checks starts' ends' hashes' o.count) ≡ true
      unfolding state_good
      made_good =
          ap (λ (x : Reading). table_good s x.keys.starts x.keys.ends x.keys.hashes x.keys.count && place_good s x.place) (is_made o m).1
          ∙ rw (in_table s next.keys.starts next.keys.ends next.keys.hashes next.keys.count kept.inside, step_stands s html checks (keys_lent starts ends hashes count) place placed)

      pub made_starts : length starts' ≡ length starts
      made_starts = ap (λ (x : Reading). length x.keys.starts) (is_made o m).1 ∙ kept.starts

      pub made_ends : length ends' ≡ length ends
      made_ends = ap (λ (x : Reading). length x.keys.ends) (is_made o m).1 ∙ kept.ends

      pub made_hashes : length hashes' ≡ length hashes
      made_hashes = ap (λ (x : Reading). length x.keys.hashes) (is_made o m).1 ∙ kept.hashes

    -- it was not: a place is lacking, and nothing has changed
    module _ (m : r ≡ None) where
      pub more_needs : needs_more s stood ≡ true
      unfolding keys_of
      more_needs = good_needs s stood ls le lh good next refl ∙ ap not (is_short m).0

      pub more_starts : starts' ≡ starts
      more_starts = (is_short m).1

      pub more_ends : ends' ≡ ends
      more_ends = (is_short m).2

      pub more_hashes : hashes' ≡ hashes
      more_hashes = (is_short m).3

-- Tables of full size are the iterator's own: no place is ever lacking, and a step is `next_of`.

pub whole_full : (st : IterState) → Sized st → whole_of st ≡ st
unfolding whole_of
whole_full st z = rw (pad_full capacity st.starts z.starts, pad_full capacity st.ends z.ends, pad_full capacity st.hashes z.hashes)

module _ (s : List ℕ) (st : IterState) (z : Sized st) where
  pub full_next : whole_next s st ≡ next_of s st
  unfolding whole_next
  full_next = by (state_good s st) refl where
    by : (t : Bool) → state_good s st ≡ t → pick (holds st.starts st.ends st.hashes st.count) (next_of s (whole_of st)) (leaves st bad_reading) ≡ next_of s st
    by true good = rw (good_holds s st (omega (arith, z.starts)) (omega (arith, z.ends)) (omega (arith, z.hashes)) good, whole_full st z)
    by false bad = whole_bad s st (omega (arith, z.starts)) (omega (arith, z.ends)) (omega (arith, z.hashes)) bad ∙ next_bad s st bad

  pub full_held : needs_more s st ≡ false
  unfolding needs_more state_good
  full_held =
      let y = (next_of s st).state in
      let i = table_in s y.starts y.ends y.hashes y.count (both (table_good s y.starts y.ends y.hashes y.count) (place_good s y.place) (next_stays_good s st z)).0 in
      rw full_next (ap not (facts_hold st.starts st.ends st.hashes y.count (omega (arith, i.few, z.starts), omega (arith, i.few, z.ends), omega (arith, i.few, z.hashes))))

  pub full_leaves : stepped_of s st ≡ (next_of s st).state
  unfolding stepped_of
  full_leaves =
      let y = (next_of s st).state in
      let w = next_sized s st z in
      rw (full_next, take_all (length st.starts) y.starts (omega (arith, z.starts, w.starts)), take_all (length st.ends) y.ends (omega (arith, z.ends, w.ends)), take_all (length st.hashes) y.hashes (omega (arith, z.hashes, w.hashes)))
