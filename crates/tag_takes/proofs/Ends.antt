-- The ways in which many answers come back, each as what the contract says.
use Prim.Native.Nat.{ℕ, suc, ◌-◌, ◌/◌, ◌≤◌, ◌<◌}
use mathlib.Core.Path.{◌≡◌, refl, sym, ap, ◌∙◌}
use mathlib.Core.Bool.{true, false, not, ◌&&◌}
use mathlib.Core.List.{List, [], ◌∷◌, append-nil}
use native.Mathlib.Omega.{arith}
use lib.ListN.{length}
use lib.Dec.{eqb, ltb}
use borrow.Author.Tests.{le-leb, lt-leb, ne_eqb}
use Rattle.std.specs.Prelude.{Some as SomeAnswer, Err, None, Some, Result, Ok}
use Rattle.scan.specs.First.{pick}
use Rattle.scan.specs.Lists.{over}
use Rattle.scan.proofs.Lists.{over_none}
use Rattle.tag_step.specs.Answer.{Answer}
use Rattle.tag_step.specs.declared.AttrError.TheVariants.{BadState}
use Rattle.tag_step.specs.Next.{lent_state, keys_of, state_good}
use Rattle.tag_batch.specs.declared.BatchRead.{BatchRead}
use Rattle.tag_batch.specs.declared.WrongTables.{WrongTables}
use Rattle.tag_batch.specs.declared.Why.TheVariants.{OutFull, AtEnd}
use Rattle.tag_batch.specs.Batch.{five_of, fives_of, Ran, tables_lent, answers_room, Batched, batched, batch_shown}
use Rattle.tag_phase.specs.declared.Phase.{Phase}
use Rattle.tag_phase.specs.declared.Phase.TheVariants.{Begin}
use Rattle.tag_phase.specs.Phase.{waits_on}
use Rattle.tag_pieces.specs.declared.Reader.{Reader}
use Rattle.tag_pieces.specs.Reader.{hold, held_of, iterator_of, reader_good, moved, emptied}
use Rattle.tag_takes.specs.Takes.{TakeEnd, take_end, takes_of, lengths_lent, takes_shown, take_all_of, ready_of, ready_shown}
use Rattle.tag_batch.proofs.Ends.{tables_fit}
use Rattle.tag_takes.proofs.Lift.{Ready, phase_by, lifted, ready_lifts, takes_more, takes_seven}

-- a batch of its iterator as what a reader leaves
abbrev pub ended_by : Reader → List ℕ → Result BatchRead WrongTables → Batched → TakeEnd
ended_by r out (Ok x) b =
    take_end (Some (x.answers, x.why)) (moved r (lent_state x.place r.html r.check_duplicates b.starts b.ends b.hashes x.count) r.held (pick (eqb x.answers 0) r.phase Begin)) b.out
ended_by r out (Err e) b = take_end None r out

abbrev pub ended : Reader → List ℕ → Batched → TakeEnd
ended r out b = ended_by r out b.batch b

phase_by_lem : (l : List Answer) (phase : Phase) → pick (eqb (length l) 0) phase Begin ≡ phase_by l phase
phase_by_lem [] phase = refl
phase_by_lem (a ∷ more) phase = rw (ne_eqb (suc (length more)) 0 (λ e. omega arith))

module _ (r : Reader) (out : List ℕ) where
  -- Text or tables that are too long.

  pub long_text : hold < length r.text → take_end None r out ≡ take_all_of r out
  unfolding take_all_of lengths_lent
  long_text h = rw (lt-leb (length r.text) hold h)

  module _ (lt : length r.text ≤ hold) where
    pub long_tables : tables_lent (iterator_of r) ≡ false → take_end None r out ≡ take_all_of r out
    unfolding take_all_of lengths_lent
    long_tables h = rw (le-leb (length r.text) hold lt, h)

    module _ (fit : tables_lent (iterator_of r) ≡ true) where
      lent : takes_shown out (takes_of (answers_room out) r) ≡ take_all_of r out
      unfolding take_all_of lengths_lent
      lent = rw (le-leb (length r.text) hold lt, fit)

      -- no room for an answer
      pub take_none : length out < 5 → take_end (Some (0, OutFull)) r out ≡ take_all_of r out
      unfolding takes_shown takes_of answers_room fives_of
      take_none h =
          let z : length out / 5 ≡ 0 = omega arith in
          sym (ap (λ (n : ℕ). takes_shown out (takes_of n r)) z ∙ rw (over_none out 0)) ∙ lent

      module _ (some : 5 ≤ length out) where
        -- refusal 7
        pub take_bad : reader_good r ≡ false → take_end (Some (1, pick (ltb (length out) 10) OutFull AtEnd)) (emptied r) (over out 0 (five_of (SomeAnswer (Err BadState)))) ≡ take_all_of r out
        unfolding takes_shown answers_room fives_of
        take_bad b =
            let f = tables_fit [] (iterator_of r) out fit in
            sym (rw (takes_seven r f.0 f.1 f.2 b (length out) some, append-nil (five_of (SomeAnswer (Err BadState))))) ∙ lent

        -- no answer is ready, says the phase
        pub take_more : Ready r → (not r.finished && waits_on (held_of r) r.html r.check_duplicates (keys_of (iterator_of r)) r.phase) ≡ true → take_end (Some (0, AtEnd)) r out ≡ take_all_of r out
        unfolding takes_shown answers_room fives_of
        take_more g w =
            let e : length out / 5 ≡ suc (length out / 5 - 1) = omega arith in
            sym (rw (e, takes_more (length out / 5 - 1) r g w, over_none out 0)) ∙ lent

      -- the answers of a good iterator, by the batch that they are
      module _ (x : BatchRead) (starts ends hashes out' : List ℕ) where
        abbrev end : TakeEnd
        end = ended r out (batched (Ok x) starts ends hashes out')

        take_run : (y : Ran) → takes_of (answers_room out) r ≡ lifted r y → batched (Ok x) starts ends hashes out' ≡ batch_shown out y → end ≡ take_all_of r out
        unfolding takes_shown batch_shown
        take_run y e b = ap (ended r out) b ∙ rw (phase_by_lem y.answers r.phase) (sym (ap (takes_shown out) e)) ∙ lent

        pub take_good : Ready r → (not r.finished && waits_on (held_of r) r.html r.check_duplicates (keys_of (iterator_of r)) r.phase) ≡ false
            → batched (Ok x) starts ends hashes out' ≡ ready_shown r.finished (held_of r) (iterator_of r) out → end ≡ take_all_of r out
        take_good g w b = take_run (ready_of r.finished (answers_room out) (held_of r) (iterator_of r)) (ready_lifts (answers_room out) r g w) b

-- the same of what a caller lends: 7 where more is held than that, or where the iterator is not good
pub bad_held : (r : Reader) → length r.text < r.held → reader_good r ≡ false
unfolding reader_good
bad_held r h = rw (lt-leb r.held (length r.text) h)

pub bad_iterator : (r : Reader) → r.held ≤ length r.text → state_good (held_of r) (iterator_of r) ≡ false → reader_good r ≡ false
unfolding reader_good
bad_iterator r h b = rw (le-leb r.held (length r.text) h, b)
