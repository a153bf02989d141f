-- Many answers of a reader are the steps of its iterator, one after another.
use Prim.Native.Nat.{ℕ, zero, suc, ◌-◌, ◌/◌, ◌≤◌}
use mathlib.Core.Path.{◌≡◌, refl, sym, ap, subst, ◌∙◌}
use mathlib.Core.Bool.{Bool, true, false, not, ◌&&◌, ◌||◌}
use mathlib.Core.List.{List, [], ◌∷◌}
use native.Mathlib.Omega.{arith}
use lib.ListN.{length, replicate, length-replicate}
use lib.Dec.{leb, ltb}
use borrow.Author.Tests.{le-leb, lt-ltb, le-ltb, not-false}
use Rattle.std.proofs.Common.{Some}
use Rattle.std.specs.Prelude.{Err, None, Ok}
use Rattle.scan.specs.First.{pick}
use Rattle.tag_keys.specs.Keys.{capacity, holds}
use Rattle.tag_keys.proofs.Laws.{in_table, keys_none}
use Rattle.tag_step.specs.Answer.{Answer}
use Rattle.tag_step.specs.declared.AttrError.TheVariants.{BadState}
use Rattle.tag_step.specs.declared.IterState.{IterState}
use Rattle.tag_step.specs.declared.Advance.{Advance}
use Rattle.tag_step.specs.Read.{recover_of}
use Rattle.tag_step.specs.Next.{Reading, keys_lent, keys_of, step_of, lent_state, place_good, state_good}
use Rattle.tag_step.specs.Look.{look_start, look_of, look_next}
use Rattle.tag_step.specs.Lent.{whole_next, needs_more, stepped_of, taken, taken_on}
use Rattle.tag_step.specs.Run.{is_end}
use Rattle.tag_step.proofs.Lent.{good_needs, good_leaves}
use Rattle.tag_batch.specs.declared.Why.TheVariants.{OutFull, AtEnd, LendMore}
use Rattle.tag_batch.specs.Batch.{Ran, ran_of, Ripe}
use Rattle.tag_batch.proofs.Turns.{step_ripe}
use Rattle.tag_batch.proofs.Ends.{ended_ran}
use Rattle.tag_phase.specs.declared.Phase.{Phase}
use Rattle.tag_phase.specs.declared.Phase.TheVariants.{Begin}
use Rattle.tag_phase.specs.Phase.{waiting_of, waits_by, waits_on}
use Rattle.tag_pieces.specs.declared.Reader.{Reader}
use Rattle.tag_pieces.specs.Reader.{held_of, iterator_of, reader_good, moved, emptied, waits_for, took, answered_of, take_of}
use Rattle.tag_takes.specs.Takes.{Takes, takes, takes_by, takes_of, looks_past, ready_of}

-- Steps of a ripe iterator.
module _ (s : List ℕ) (st : IterState) (p : Ripe s st) where
  abbrev x : Reading
  x = step_of s st.html st.check_duplicates (keys_lent st.starts st.ends st.hashes st.count) st.place

  is : x ≡ step_of s st.html st.check_duplicates (keys_of st) st.place
  unfolding keys_of
  is = refl

  abbrev made : Advance
  made = record { answer = x.answer; place = x.place; count = x.keys.count }

  fits : needs_more s st ≡ false → holds st.starts st.ends st.hashes x.keys.count ≡ true
  fits n = not-false _ (sym (good_needs s st p.starts p.ends p.hashes p.good x is) ∙ n)

  takes_it : needs_more s st ≡ false → taken (Some made) x.keys.starts x.keys.ends x.keys.hashes st.count ≡ taken_on (keys_lent st.starts st.ends st.hashes st.count) x
  unfolding taken_on
  takes_it n = rw (fits n)

  -- one that is taken leaves a ripe one
  ripe_stays : needs_more s st ≡ false → Ripe s (stepped_of s st)
  ripe_stays n =
      subst (Ripe s) (sym (good_leaves s st p.starts p.ends p.hashes p.good x is))
      (step_ripe s st.place st.html st.check_duplicates st.starts st.ends st.hashes st.count p (Some made) x.keys.starts x.keys.ends x.keys.hashes (takes_it n) made refl)

  -- mode and checks stay
  stays_html : (stepped_of s st).html ≡ st.html
  stays_html = ap (λ (y : IterState). y.html) (good_leaves s st p.starts p.ends p.hashes p.good x is)

  stays_checks : (stepped_of s st).check_duplicates ≡ st.check_duplicates
  stays_checks = ap (λ (y : IterState). y.check_duplicates) (good_leaves s st p.starts p.ends p.hashes p.good x is)

-- the reader after steps of its iterator
abbrev pub phase_by : List Answer → Phase → Phase
phase_by [] phase = phase
phase_by (a ∷ more) phase = Begin

begin_by : (l : List Answer) → phase_by l Begin ≡ Begin
begin_by [] = refl
begin_by (a ∷ more) = refl

abbrev pub lifted : Reader → Ran → Takes
lifted r x = takes x.answers (moved r x.state r.held (phase_by x.answers r.phase)) x.why

-- a reader from which steps may be taken
pub record Ready (r : Reader) : Type 0 where
  pub fits : r.held ≤ length r.text
  pub ripe : Ripe (held_of r) (iterator_of r)

ready_good : (r : Reader) → Ready r → reader_good r ≡ true
unfolding reader_good
ready_good r h = rw (le-leb r.held (length r.text) h.fits, h.ripe.good)

-- an iterator with its own mode and checks set again
set_again : (y : IterState) (html checks : Bool) → y.html ≡ html → y.check_duplicates ≡ checks → lent_state y.place html checks y.starts y.ends y.hashes y.count ≡ y
set_again y html checks e f = rw (sym e, sym f)

-- it is so after an answer that is not the end
module _ (r : Reader) (h : Ready r) where
  abbrev s : List ℕ
  s = held_of r

  abbrev it : IterState
  it = iterator_of r

  abbrev next : Reader
  next = moved r (stepped_of s it) r.held Begin

  same_iterator : needs_more s it ≡ false → iterator_of next ≡ stepped_of s it
  same_iterator n = set_again (stepped_of s it) _ _ (stays_html s it h.ripe) (stays_checks s it h.ripe)

  next_ready : needs_more s it ≡ false → Ready next
  unfolding held_of
  next_ready n = record { fits = h.fits; ripe = subst (Ripe s) (sym (same_iterator n)) (ripe_stays s it h.ripe n) }

  took_answer : waits_for r ≡ false → take_of r ≡ answered_of s it r
  unfolding take_of
  took_answer w = rw (ready_good r h, w)

  took_more : waits_for r ≡ true → take_of r ≡ took (Ok None) r
  unfolding take_of
  took_more w = rw (ready_good r h, w)

  module _ (w : waits_for r ≡ false) where
    takes_short : (n : ℕ) → needs_more s it ≡ true → takes_of (suc n) r ≡ takes [] r LendMore
    unfolding takes_of takes_by answered_of
    takes_short n m = rw (took_answer w, m)

    module _ (held : needs_more s it ≡ false) where
      takes_end : (n : ℕ) → is_end (whole_next s it).answer ≡ true → takes_of (suc n) r ≡ takes [] (moved r (stepped_of s it) r.held r.phase) AtEnd
      unfolding takes_of takes_by answered_of
      takes_end n e = rw (took_answer w, held, e)

      takes_next : (n : ℕ) → is_end (whole_next s it).answer ≡ false
          → takes_of (suc n) r ≡ takes ((whole_next s it).answer ∷ (takes_of n next).answers) (takes_of n next).reader (takes_of n next).why
      unfolding takes_of takes_by answered_of
      takes_next n e = rw (took_answer w, held, e)

-- While the tag is not finished the phase is asked, and then the look.
looks_by : (f a b : Bool) → (not f && a) ≡ false → (not f && (a || b)) ≡ (not f && b)
looks_by true a b e = refl
looks_by false a b e = rw e

open_waits : (f a b : Bool) → (not f && a) ≡ true → (not f && (a || b)) ≡ true
open_waits true a b e = e
open_waits false a b e = rw e

-- where it begins it does not wait
begin_waits : (f : Bool) (s : List ℕ) (r : Reader) → (not f && waits_on s r.html r.check_duplicates (keys_of (iterator_of r)) Begin) ≡ false
unfolding waits_on waits_by waiting_of
begin_waits true s r = refl
begin_waits false s r = refl

-- whether it waits is then a matter of the look
module _ (r : Reader) (b : (not r.finished && waits_on (held_of r) r.html r.check_duplicates (keys_of (iterator_of r)) r.phase) ≡ false) where
  waits_look : waits_for r ≡ looks_past r.finished (held_of r) (iterator_of r)
  unfolding waits_for looks_past
  waits_look = looks_by r.finished (waits_on (held_of r) r.html r.check_duplicates (keys_of (iterator_of r)) r.phase) (leb (length (held_of r)) (look_next (held_of r) (iterator_of r))) b

module _ (n : ℕ) (r : Reader) (h : Ready r) (b : (not r.finished && waits_on (held_of r) r.html r.check_duplicates (keys_of (iterator_of r)) r.phase) ≡ false) where
  abbrev Goes : Type 0
  Goes = takes_of (suc n) r ≡ lifted r (ready_of r.finished (suc n) (held_of r) (iterator_of r))

  ready_by : (needs_more (held_of r) (iterator_of r) ≡ false → takes_of n (next r h) ≡ lifted (next r h) (ready_of r.finished n (held_of r) (iterator_of (next r h)))) → Goes
  unfolding takes_of takes_by ready_of
  ready_by later = by (looks_past r.finished (held_of r) (iterator_of r)) refl where
    by_end : looks_past r.finished (held_of r) (iterator_of r) ≡ false → needs_more (held_of r) (iterator_of r) ≡ false → (t : Bool) → is_end (whole_next (held_of r) (iterator_of r)).answer ≡ t → Goes
    by_end l m true e = takes_end r h (waits_look r b ∙ l) m n e ∙ rw (l, m, e)
    by_end l m false e =
        takes_next r h (waits_look r b ∙ l) m n e
        ∙ rw (l, m, e, later m, same_iterator r h m, begin_by (ready_of r.finished n (held_of r) (stepped_of (held_of r) (iterator_of r))).answers)

    by_needs : looks_past r.finished (held_of r) (iterator_of r) ≡ false → (t : Bool) → needs_more (held_of r) (iterator_of r) ≡ t → Goes
    by_needs l true m = takes_short r h (waits_look r b ∙ l) n m ∙ rw (l, m)
    by_needs l false m = by_end l m _ refl

    by : (t : Bool) → looks_past r.finished (held_of r) (iterator_of r) ≡ t → Goes
    by true l = rw (took_more r h (waits_look r b ∙ l), l)
    by false l = by_needs l _ refl

pub ready_lifts : (n : ℕ) (r : Reader) → Ready r → (not r.finished && waits_on (held_of r) r.html r.check_duplicates (keys_of (iterator_of r)) r.phase) ≡ false
    → takes_of n r ≡ lifted r (ready_of r.finished n (held_of r) (iterator_of r))
unfolding takes_of ready_of held_of
ready_lifts zero r h b = refl
ready_lifts (suc n) r h b = ready_by n r h b (λ m. ready_lifts n (next r h) (next_ready r h m) (begin_waits r.finished (held_of r) (next r h)))

-- the phase waits: nothing is answered, and nothing is changed
pub takes_more : (n : ℕ) (r : Reader) → Ready r → (not r.finished && waits_on (held_of r) r.html r.check_duplicates (keys_of (iterator_of r)) r.phase) ≡ true
    → takes_of (suc n) r ≡ takes [] r AtEnd
unfolding takes_of takes_by waits_for
takes_more n r h b =
    let w : waits_for r ≡ true = open_waits r.finished (waits_on (held_of r) r.html r.check_duplicates (keys_of (iterator_of r)) r.phase) (leb (length (held_of r)) (look_next (held_of r) (iterator_of r))) b in
    rw (took_more r h w)

-- a step of a finished tag is that of a batch
step_finished : (n : ℕ) (s : List ℕ) (st : IterState) → ready_of true n s st ≡ ran_of n s st
unfolding ready_of ran_of looks_past
step_finished zero s st = refl
step_finished (suc n) s st = rw (step_finished n s (stepped_of s st))

-- Refusal 7: one answer; then there are no more.
module _ (r : Reader) (ls : length r.starts ≤ capacity) (le : length r.ends ≤ capacity) (lh : length r.hashes ≤ capacity) where
  empty_held : held_of (emptied r) ≡ []
  unfolding held_of emptied
  empty_held = refl

  empty_ready : Ready (emptied r)
  unfolding emptied held_of state_good place_good
  empty_ready =
      record {
        fits = omega arith;
        ripe = record {
          good = rw (in_table [] (replicate (length r.starts) 0) (replicate (length r.ends) 0) (replicate (length r.hashes) 0) 0 (keys_none (replicate (length r.starts) 0) (replicate (length r.ends) 0) (replicate (length r.hashes) 0) []));
          starts = omega (arith, length-replicate {A = ℕ} (length r.starts) 0);
          ends = omega (arith, length-replicate {A = ℕ} (length r.ends) 0);
          hashes = omega (arith, length-replicate {A = ℕ} (length r.hashes) 0);
        };
      }

  -- while the tag is not finished it says more
  empty_more : (n : ℕ) → r.finished ≡ false → takes_of (suc n) (emptied r) ≡ takes [] (emptied r) AtEnd
  unfolding takes_of takes_by waits_for emptied waits_on waits_by waiting_of held_of look_of look_start recover_of
  empty_more n f =
      let w : waits_for (emptied r) ≡ true = rw f in
      rw (took_more (emptied r) empty_ready w)

  -- after the finish it is the end
  empty_end : (n : ℕ) → r.finished ≡ true → takes_of (suc n) (emptied r) ≡ takes [] (emptied r) AtEnd
  unfolding emptied
  empty_end n f =
      ready_lifts (suc n) (emptied r) empty_ready (begin_waits r.finished (held_of (emptied r)) (emptied r))
      ∙ ap (lifted (emptied r))
      (ap (λ (t : Bool). ready_of t (suc n) (held_of (emptied r)) (iterator_of (emptied r))) f
      ∙ step_finished (suc n) (held_of (emptied r)) (iterator_of (emptied r))
      ∙ ended_ran (held_of (emptied r)) r.html r.check_duplicates (replicate (length r.starts) 0) (replicate (length r.ends) 0) (replicate (length r.hashes) 0) empty_ready.ripe.starts empty_ready.ripe.ends empty_ready.ripe.hashes n)

  empty_ends : (n : ℕ) → takes_of (suc n) (emptied r) ≡ takes [] (emptied r) AtEnd
  empty_ends n = by r.finished refl where
    by : (t : Bool) → r.finished ≡ t → takes_of (suc n) (emptied r) ≡ takes [] (emptied r) AtEnd
    by true f = empty_end n f
    by false f = empty_more n f

  module _ (bad : reader_good r ≡ false) (room : ℕ) where
    took_bad : take_of r ≡ took (Ok (Some (Some (Err BadState)))) (emptied r)
    unfolding take_of
    took_bad = rw bad

    seven_by : (n : ℕ) → room / 5 ≡ suc n → takes_of (suc n) r ≡ takes (Some (Err BadState) ∷ []) (emptied r) (pick (ltb room 10) OutFull AtEnd)
    unfolding takes_of takes_by is_end
    seven_by zero e = rw (took_bad, lt-ltb room 10 (omega arith))
    seven_by (suc n) e = rw (took_bad, empty_ends n, le-ltb room 10 (omega arith))

    pub takes_seven : 5 ≤ room → takes_of (room / 5) r ≡ takes (Some (Err BadState) ∷ []) (emptied r) (pick (ltb room 10) OutFull AtEnd)
    takes_seven h =
        let e : room / 5 ≡ suc (room / 5 - 1) = omega arith in
        ap (λ (n : ℕ). takes_of n r) e ∙ seven_by (room / 5 - 1) e
