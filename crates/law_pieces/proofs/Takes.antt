-- One event on any reader: what is refused and what says *more* changes nothing, and 7 empties.
use Prim.Native.Nat.{ℕ, ◌+◌, ◌≤◌, ◌<◌}
use mathlib.Core.Path.{◌≡◌, refl, ap}
use mathlib.Core.Bool.{Bool, true, false, not, ◌&&◌, ◌||◌, true≢false, false≢true}
use mathlib.Core.Logic.{◌↔◌}
use mathlib.Core.List.{List}
use native.Mathlib.Omega.{arith}
use lib.ListN.{length}
use lib.Dec.{ltb, leb}
use borrow.Author.Tests.{lt-ltb, le-ltb, ltb-true, ltb-false, le-leb}
use Rattle.std.specs.Prelude.{Some, Err, None, Result, Ok}
use Rattle.scan.specs.First.{pick}
use Rattle.tag_step.specs.Answer.{Answer}
use Rattle.tag_step.specs.declared.AttrError.TheVariants.{BadState}
use Rattle.tag_step.specs.Next.{keys_of, next_of}
use Rattle.tag_step.specs.Look.{look_next}
use Rattle.tag_step.specs.Lent.{needs_more}
use Rattle.tag_step.proofs.Good.{Sized}
use Rattle.tag_step.proofs.Lent.{full_next, full_held, full_leaves}
use Rattle.tag_phase.specs.Phase.{waits_on}
use Rattle.tag_pieces.specs.declared.Reader.{Reader}
use Rattle.tag_pieces.specs.declared.FeedError.{FeedError}
use Rattle.tag_pieces.specs.declared.FeedError.TheVariants.{Finished, TooLong, LendMore}
use Rattle.tag_pieces.specs.declared.Take.{Take}
use Rattle.tag_pieces.specs.Reader.{hold, held_of, iterator_of, fed_of, grown_by, piece_in, fed_with, feeding, finished_as, piece_of, finish_of, reader_good, emptied, waits_for, took, moved, phase_after, answered_of, take_of, fed_number}
use Rattle.law_pieces.specs.Pieces.{NotReady, MoreStays, NeverEarly, PieceRefused, FinishRefused, RefusedStays, SevenEmpties}

-- Takes.

pub more_stays : MoreStays
unfolding take_of answered_of
more_stays r = by (reader_good r) (waits_for r) (needs_more (held_of r) (iterator_of r)) _ _ where
  by : (g w k : Bool) (answer : Answer) (left : Reader) →
      let t = pick g (pick w (took (Ok None) r) (pick k (took (Err (record {})) r) (took (Ok (Some answer)) left))) (took (Ok (Some (Some (Err BadState)))) (emptied r)) in
      t.taken ≡ Ok None → t.reader ≡ r
  by true true k a left e = refl
  by true false true a left e = refl
  by true false false a left e = absurd (let z : ◌≡◌ {A = ℕ} 0 1 = cc in omega arith)
  by false w k a left e = absurd (let z : ◌≡◌ {A = ℕ} 0 1 = cc in omega arith)

pub seven_empties : SevenEmpties
unfolding take_of
seven_empties r bad = rw bad

pub take_waits : (r : Reader) → reader_good r ≡ true → waits_for r ≡ true → take_of r ≡ took (Ok None) r
unfolding take_of
take_waits r good w = rw (good, w)

-- where the step looks past what is held a phase that waits says no more
waits_anyway : (finished phase looks : Bool) → finished ≡ false → looks ≡ true → (not finished && (phase || looks)) ≡ true
waits_anyway false true looks f l = refl
waits_anyway false false looks f l = l
waits_anyway true phase looks f l = absurd (true≢false f)

pub not_ready_waits : (r : Reader) → NotReady r → waits_for r ≡ true
unfolding waits_for
not_ready_waits r n =
    waits_anyway r.finished (waits_on (held_of r) r.html r.check_duplicates (keys_of (iterator_of r)) r.phase) (leb (length (held_of r)) (look_next (held_of r) (iterator_of r)))
    n.unfinished (le-leb (length (held_of r)) (look_next (held_of r) (iterator_of r)) n.looks)

pub never_early : NeverEarly
never_early r good n = ap (λ (t : Take). t.taken) (take_waits r good (not_ready_waits r n))

-- tables of full size: the answer is that of the iterator, and so is what is left
pub take_answers : (r : Reader) → Sized (iterator_of r) → reader_good r ≡ true → waits_for r ≡ false →
    let x = next_of (held_of r) (iterator_of r) in
    take_of r ≡ took (Ok (Some x.answer)) (moved r x.state r.held (phase_after x.answer r.phase))
unfolding take_of answered_of
take_answers r z good w = rw (good, w, full_held (held_of r) (iterator_of r) z, full_leaves (held_of r) (iterator_of r) z, full_next (held_of r) (iterator_of r) z)

-- Pieces and finishes.

-- the refusals by number
module _ (room held n : ℕ) where
  pub number_32 : (finished : Bool) → fed_number (fed_of finished room held n) ≡ 32 ↔ finished ≡ true
  unfolding fed_of fed_number
  number_32 true = (λ _. refl, λ _. refl)
  number_32 false = (λ e. absurd (by (ltb hold (held + n)) (ltb room (held + n)) e), λ e. absurd (false≢true e)) where
    by : (a b : Bool) → fed_number (pick a (Err TooLong) (pick b (Err LendMore) (Ok tt))) ≡ 32 → ⊥
    by true b e = omega arith
    by false true e = omega arith
    by false false e = omega arith

  pub number_31 : (finished : Bool) → fed_number (fed_of finished room held n) ≡ 31 ↔ ((finished ≡ false) × (hold < held + n))
  unfolding fed_of fed_number
  number_31 true = (λ e. absurd (omega arith), λ e. absurd (true≢false e.0))
  number_31 false = (λ e. (refl, by (ltb hold (held + n)) (ltb room (held + n)) refl e), λ e. rw (lt-ltb hold (held + n) e.1)) where
    by : (a b : Bool) → ltb hold (held + n) ≡ a → fed_number (pick a (Err TooLong) (pick b (Err LendMore) (Ok tt))) ≡ 31 → hold < held + n
    by true b l e = ltb-true hold (held + n) l
    by false true l e = absurd (omega arith)
    by false false l e = absurd (omega arith)

  -- what is accepted fits, before the finish
  pub fed_accepted : (finished : Bool) → fed_of finished room held n ≡ Ok tt → (finished ≡ false) × (held + n ≤ hold) × (held + n ≤ room)
  unfolding fed_of
  fed_accepted true e = absurd (let z : ◌≡◌ {A = ℕ} 0 1 = cc in omega arith)
  fed_accepted false e = by (ltb hold (held + n)) refl (ltb room (held + n)) refl e where
    by : (a : Bool) → ltb hold (held + n) ≡ a → (b : Bool) → ltb room (held + n) ≡ b → ◌≡◌ {A = Result (Unit {0}) FeedError} (pick a (Err TooLong) (pick b (Err LendMore) (Ok tt))) (Ok tt) → (false ≡ false) × (held + n ≤ hold) × (held + n ≤ room)
    by true i b j x = absurd (let z : ◌≡◌ {A = ℕ} 0 1 = cc in omega arith)
    by false i true j x = absurd (let z : ◌≡◌ {A = ℕ} 0 1 = cc in omega arith)
    by false i false j x = (refl, ltb-false hold (held + n) i, ltb-false room (held + n) j)

-- and what fits is accepted
pub accepts : (finished : Bool) (room held n : ℕ) → finished ≡ false → held + n ≤ hold → held + n ≤ room → fed_of finished room held n ≡ Ok tt
unfolding fed_of
accepts finished room held n f a b = rw (f, le-ltb hold (held + n) a, le-ltb room (held + n) b)

module _ (p : List ℕ) (r : Reader) where
  pub fed_is : (piece_of p r).fed ≡ fed_of r.finished (length r.text) r.held (length p)
  unfolding piece_of piece_in grown_by
  fed_is = by (fed_of r.finished (length r.text) r.held (length p)) where
    by : (f : Result (Unit {0}) FeedError) → (fed_with r (grown_by f r.text r.held r.place r.phase p)).fed ≡ f
    by (Ok u) = refl
    by (Err e) = refl

  pub piece_stays : ((piece_of p r).fed ≡ Ok tt → ⊥) → (piece_of p r).reader ≡ r
  unfolding piece_of piece_in grown_by
  piece_stays = by (fed_of r.finished (length r.text) r.held (length p)) where
    by : (f : Result (Unit {0}) FeedError) → ((fed_with r (grown_by f r.text r.held r.place r.phase p)).fed ≡ Ok tt → ⊥) → (fed_with r (grown_by f r.text r.held r.place r.phase p)).reader ≡ r
    by (Ok u) n = absurd (n refl)
    by (Err e) n = refl

  piece_refused : PieceRefused p r
  piece_refused =
      record {
        stays = piece_stays;
        finished = rw fed_is (number_32 (length r.text) r.held (length p) r.finished);
        long = rw fed_is (number_31 (length r.text) r.held (length p) r.finished);
      }

finish_refused : (r : Reader) → FinishRefused r
unfolding finish_of fed_number
finish_refused r =
    record {
      stays = λ n. stays r.finished n;
      finished = number r.finished;
      long = long r.finished;
    } where
      stays : (t : Bool) → ((pick t (feeding (Err Finished) r) (feeding (Ok tt) (finished_as r))).fed ≡ Ok tt → ⊥) → (pick t (feeding (Err Finished) r) (feeding (Ok tt) (finished_as r))).reader ≡ r
      stays true n = refl
      stays false n = absurd (n refl)

      number : (t : Bool) → fed_number (pick t (feeding (Err Finished) r) (feeding (Ok tt) (finished_as r))).fed ≡ 32 ↔ t ≡ true
      number true = (λ _. refl, λ _. refl)
      number false = (λ e. absurd (omega arith), λ e. absurd (false≢true e))

      long : (t : Bool) → fed_number (pick t (feeding (Err Finished) r) (feeding (Ok tt) (finished_as r))).fed ≡ 31 → ⊥
      long true e = omega arith
      long false e = omega arith

pub refused_stays : RefusedStays
refused_stays r = (λ p. piece_refused p r, finish_refused r)
