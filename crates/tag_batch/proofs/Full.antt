-- Tables of full size: a batch is the run of the iterator, and never lacks a place.
use Prim.Native.Nat.{ℕ, zero, suc}
use mathlib.Core.Path.{◌≡◌, refl, sym, ap, ◌∙◌}
use mathlib.Core.Bool.{Bool, true, false}
use mathlib.Core.List.{List, [], ◌∷◌}
use native.Mathlib.Omega.{arith}
use lib.ListN.{length}
use borrow.Author.Tests.{le-leb}
use Rattle.scan.specs.First.{pick}
use Rattle.scan.specs.Lists.{over}
use Rattle.tag_keys.specs.Keys.{capacity}
use Rattle.tag_step.specs.Answer.{Answer}
use Rattle.tag_step.specs.declared.IterState.{IterState}
use Rattle.tag_step.specs.Next.{next_of}
use Rattle.tag_step.specs.Run.{is_end, cons_unless, run_of}
use Rattle.tag_step.proofs.Good.{Sized, next_sized}
use Rattle.tag_step.proofs.Lent.{full_next, full_held, full_leaves}
use Rattle.tag_batch.specs.declared.Why.TheVariants.{AtEnd, LendMore}
use Rattle.tag_batch.specs.Batch.{fives_of, left_of, Ran, ran, ahead, ran_of, tables_lent, answers_room, read, batched, batch_shown, read_of, batch_of}

-- one step
full_step : (n : ℕ) (s : List ℕ) (st : IterState) → Sized st → ran_of (suc n) s st ≡ pick (is_end (next_of s st).answer) (ran [] (next_of s st).state AtEnd) (ahead (next_of s st).answer (ran_of n s (next_of s st).state))
unfolding ran_of
full_step n s st z = rw (full_held s st z, full_next s st z, full_leaves s st z)

-- the answers are those of the run, and the state is what it leaves
answers_by_lem : (t : Bool) (a : Answer) (after : IterState) (x : Ran) (more : List Answer) → x.answers ≡ more → (pick t (ran [] after AtEnd) (ahead a x)).answers ≡ cons_unless t a more
unfolding cons_unless
answers_by_lem true a after x more e = refl
answers_by_lem false a after x more e = ap (λ (l : List Answer). a ∷ l) e

pub full_answers : (n : ℕ) (s : List ℕ) (st : IterState) → Sized st → (ran_of n s st).answers ≡ run_of n s st
unfolding run_of ran_of
full_answers zero s st z = refl
full_answers (suc n) s st z =
    ap (λ (x : Ran). x.answers) (full_step n s st z)
    ∙ answers_by_lem (is_end (next_of s st).answer) (next_of s st).answer (next_of s st).state (ran_of n s (next_of s st).state) (run_of n s (next_of s st).state) (full_answers n s (next_of s st).state (next_sized s st z))

state_by_lem : (t : Bool) (a : Answer) (after : IterState) (x : Ran) (left : IterState) → x.state ≡ left → (pick t (ran [] after AtEnd) (ahead a x)).state ≡ pick t after left
state_by_lem true a after x left e = refl
state_by_lem false a after x left e = e

pub full_state : (n : ℕ) (s : List ℕ) (st : IterState) → Sized st → (ran_of n s st).state ≡ left_of n s st
unfolding left_of ran_of
full_state zero s st z = refl
full_state (suc n) s st z =
    ap (λ (x : Ran). x.state) (full_step n s st z)
    ∙ state_by_lem (is_end (next_of s st).answer) (next_of s st).answer (next_of s st).state (ran_of n s (next_of s st).state) (left_of n s (next_of s st).state) (full_state n s (next_of s st).state (next_sized s st z))

-- No place is lacking.
never_by : (t : Bool) (a : Answer) (after : IterState) (x : Ran) → (x.why ≡ LendMore → ⊥) → (pick t (ran [] after AtEnd) (ahead a x)).why ≡ LendMore → ⊥
never_by true a after x f e =
    let z : ◌≡◌ {A = ℕ} 0 1 = cc in
    omega arith
never_by false a after x f e = f e

pub full_never : (n : ℕ) (s : List ℕ) (st : IterState) → Sized st → (ran_of n s st).why ≡ LendMore → ⊥
unfolding ran_of
full_never zero s st z e =
    let w : ◌≡◌ {A = ℕ} 0 1 = cc in
    omega arith
full_never (suc n) s st z e =
    never_by (is_end (next_of s st).answer) (next_of s st).answer (next_of s st).state (ran_of n s (next_of s st).state) (full_never n s (next_of s st).state (next_sized s st z)) (sym (ap (λ (x : Ran). x.why) (full_step n s st z)) ∙ e)

-- So a batch on such tables is the run's.
pub full_batch : (s : List ℕ) (st : IterState) (out : List ℕ) → Sized st →
    batch_of s st out ≡ batched (read (length (run_of (answers_room out) s st)) (left_of (answers_room out) s st).place (left_of (answers_room out) s st).count (ran_of (answers_room out) s st).why) (left_of (answers_room out) s st).starts (left_of (answers_room out) s st).ends (left_of (answers_room out) s st).hashes (over out 0 (fives_of (run_of (answers_room out) s st)))
unfolding batch_of tables_lent read_of batch_shown
full_batch s st out z =
    rw (le-leb (length st.starts) capacity (omega (arith, z.starts)), le-leb (length st.ends) capacity (omega (arith, z.ends)), le-leb (length st.hashes) capacity (omega (arith, z.hashes)), full_answers (answers_room out) s st z, full_state (answers_room out) s st z)
