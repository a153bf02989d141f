-- A run ends: from a state that 7 does not answer there are at most as many answers as the tag has bytes left, and from
-- any other there is one, 7.
use Prim.Native.Nat.{ℕ, zero, suc, ◌+◌, ◌-◌, ◌≤◌}
use mathlib.Core.Path.{◌≡◌, refl, sym, ap, subst, ◌∙◌}
use mathlib.Core.Bool.{Bool, true, false}
use mathlib.Core.List.{List, [], ◌∷◌}
use native.Mathlib.Omega.{arith}
use lib.ListN.{length}
use Rattle.std.proofs.Common.{Option, Some, None}
use Rattle.std.specs.Prelude.{Err}
use Rattle.tag_step.specs.declared.Place.TheVariants.{Done}
use Rattle.tag_step.specs.Answer.{Answer}
use Rattle.tag_step.specs.declared.AttrError.TheVariants.{BadState}
use Rattle.tag_step.specs.declared.IterState.{IterState}
use Rattle.tag_step.specs.declared.Step.{Step}
use Rattle.tag_step.specs.Read.{recover_of}
use Rattle.tag_step.specs.Next.{Keys, read_at, keys_of, state_good, bad_reading, leaves, next_of}
use Rattle.tag_step.specs.Run.{is_end, cons_unless, run_of, answers_of, run_from, answers_from}
use Rattle.tag_step.proofs.Whole.{recover_in, next_bad}
use Rattle.tag_step.proofs.Good.{Sized, next_stays_good, next_sized}
use Rattle.tag_step.proofs.Run.{cons_most, left, left_all, from_more, run_lent_lem, lent_resumes, answers_resume}

-- no more answers than the budget
from_most : (n : ℕ) (s : List ℕ) (html checks : Bool) (keys : Keys) (x : Option ℕ) → length (run_from n s html checks keys x) ≤ n
unfolding run_from
from_most zero s html checks keys x = omega arith
from_most (suc n) s html checks keys None = omega arith
from_most (suc n) s html checks keys (Some o) =
    let r = read_at s html checks keys o in
    cons_most n (is_end r.answer) r.answer _ (from_most n s html checks r.keys (recover_of s r.place))

-- From a state that 7 does not answer: at most one answer for each byte at or after the place where reading resumes.
pub run_ends : (s : List ℕ) (st : IterState) → Sized st → state_good s st ≡ true → length (answers_of s st) ≤ left (length s) (recover_of s st.place)
unfolding answers_from
run_ends s st sized good =
    let x = recover_of s st.place in
    let n = left (length s) x in
    let e : n + (length s - n) ≡ length s = omega (arith, left_all (length s) x) in
    let whole : answers_of s st ≡ run_from n s st.html st.check_duplicates (keys_of st) x =
    answers_resume s st sized good
    ∙ subst (λ (k : ℕ). run_from k s st.html st.check_duplicates (keys_of st) x ≡ run_from n s st.html st.check_duplicates (keys_of st) x) e
    (from_more (length s - n) n s st.html st.check_duplicates (keys_of st) x (recover_in s st.place) (omega arith)) in
    rw whole (from_most n s st.html st.check_duplicates (keys_of st) x)

-- From any other state: 7, and nothing after it.
module _ (s : List ℕ) (st : IterState) (sized : Sized st) (bad : state_good s st ≡ false) where
  after : IterState
  after = (next_of s st).state

  after_done : after.place ≡ Done
  unfolding after leaves bad_reading
  after_done = ap (λ (x : Step). x.state.place) (sym (next_bad s st bad))

  after_ended : recover_of s after.place ≡ None
  unfolding recover_of
  after_ended = rw after_done

  none_from : (n : ℕ) (html checks : Bool) (keys : Keys) (x : Option ℕ) → x ≡ None → run_from n s html checks keys x ≡ []
  unfolding run_from
  none_from zero html checks keys x e = refl
  none_from (suc n) html checks keys x e = rw e

  none_after : (n : ℕ) → run_of n s after ≡ []
  unfolding after
  none_after n =
      run_lent_lem n s (next_of s st).state (next_sized s st sized) (next_stays_good s st sized)
      ∙ lent_resumes n s after.html after.check_duplicates (keys_of after) after.place
      ∙ none_from n after.html after.check_duplicates (keys_of after) (recover_of s after.place) after_ended

  only : (rest : List Answer) → rest ≡ [] → cons_unless (is_end (leaves st bad_reading).answer) (leaves st bad_reading).answer rest ≡ Some (Err BadState) ∷ []
  unfolding cons_unless is_end leaves bad_reading
  only rest e = rw e

  pub bad_run_ends : answers_of s st ≡ Some (Err BadState) ∷ []
  unfolding answers_of run_of after
  bad_run_ends =
      ap (λ (x : Step). cons_unless (is_end x.answer) x.answer (run_of (length s) s (next_of s st).state)) (sym (next_bad s st bad))
      ∙ only (run_of (length s) s (next_of s st).state) (none_after (length s))
