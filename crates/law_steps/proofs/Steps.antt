-- When the end comes, and steps one after another: the end stays, and every other answer but 7 moves on. Where the end comes
-- the state was good, and what it leaves is the same state, or the same one done: both are good, and the next step is
-- the end again.
use Prim.Native.Nat.{ℕ, ◌≤◌, ◌<◌}
use mathlib.Core.Path.{◌≡◌, refl, sym, ap, subst, ◌∙◌}
use mathlib.Core.Bool.{Bool, true, false, not}
use mathlib.Core.List.{List}
use native.Mathlib.Omega.{arith}
use lib.ListN.{length, get_or}
use Rattle.std.proofs.Common.{Option, Some, None}
use Rattle.std.specs.Prelude.{Err}
use Rattle.scan.specs.First.{first_from}
use Rattle.scan.specs.Bytes.{is_space, not_space}
use Rattle.scan.proofs.Laws.{past, skip}
use Rattle.scan.proofs.Bytes.{both}
use Rattle.tag_keys.specs.Keys.{table_good}
use Rattle.tag_step.specs.declared.Place.{Place}
use Rattle.tag_step.specs.declared.Place.TheVariants.{Done, Next, SkipValue, SkipEqValue}
use Rattle.tag_step.specs.Answer.{Answer}
use Rattle.tag_step.specs.declared.AttrError.TheVariants.{BadState}
use Rattle.tag_step.specs.declared.IterState.{IterState}
use Rattle.tag_step.specs.declared.Step.{Step}
use Rattle.tag_step.specs.Read.{found, recover_of, key_at}
use Rattle.tag_step.specs.Next.{reading, read_at, place_good, keys_of, state_good, bad_reading, leaves, next_of}
use Rattle.tag_step.proofs.Paths.{key_none}
use Rattle.tag_step.proofs.Whole.{at_in, starts_in, step_ended, step_reads, step_none, next_bad, next_steps}
use Rattle.tag_step.proofs.Progress as progress
use Rattle.law_steps.specs.Steps.{moved_to, Broken, NothingLeft, only_space, nowhere, end_left, EndLeaves, RowLeft, LeavesExact, EndExactly, EndStays, Beyond, Forward, StepForward}
use Rattle.law_steps.proofs.Leaves.{leaves_exact}
use Rattle.law_steps.proofs.Refusals.{good_whole, bad_broken}

-- The end.

abbrev ended : IterState → Step
ended st = record { answer = None; state = st }

module _ (s : List ℕ) (st : IterState) where
  -- 7 is not the end
  end_good : (next_of s st).answer ≡ None → state_good s st ≡ true
  unfolding leaves bad_reading
  end_good e = by (state_good s st) refl where
    by : (t : Bool) → state_good s st ≡ t → state_good s st ≡ true
    by true g = g
    by false g =
        let b : Some (Err BadState) ≡ (next_of s st).answer = ap (λ (x : Step). x.answer) (next_bad s st g) in
        let z : ◌≡◌ {A = ℕ} 0 1 = cc in absurd (omega arith)

  -- a good state from whose place reading does not go on
  stays : state_good s st ≡ true → recover_of s st.place ≡ None → next_of s st ≡ ended st
  unfolding leaves keys_of
  stays g e = sym (next_steps s st g (reading (found None st.place) (keys_of st)) (step_ended s st.html st.check_duplicates (keys_of st) st.place e))

  done_good : state_good s st ≡ true → state_good s (moved_to Done st) ≡ true
  unfolding state_good place_good
  done_good g = rw (both (table_good s st.starts st.ends st.hashes st.count) (place_good s st.place) g).0

  done_ended : recover_of s (moved_to Done st).place ≡ None
  unfolding recover_of
  done_ended = refl

-- what the end leaves stays
left_stays : (s : List ℕ) (st : IterState) → state_good s st ≡ true → (x : NothingLeft s st.place) → next_of s (end_left s st x) ≡ ended (end_left s st x)
unfolding end_left
left_stays s st g (only_space o goes inside space) = stays s (moved_to Done st) (done_good s st g) (done_ended s st)
left_stays s st g (nowhere goes) = stays s st g goes

end_leaves_stays : (s : List ℕ) (st left : IterState) → state_good s st ≡ true → EndLeaves s st left → next_of s left ≡ ended left
end_leaves_stays s st left g l = rw l.leaves (left_stays s st g l.nothing)

pub end_stays : EndStays
unfolding EndStays LeavesExact RowLeft
end_stays s st e =
    let l : EndLeaves s st (next_of s st).state = subst (λ (a : Answer). RowLeft s st a (next_of s st).state) e (leaves_exact s st) in
    end_leaves_stays s st (next_of s st).state (end_good s st e) l ∙ ap (λ (a : Answer). record { answer = a; state = (next_of s st).state }) (sym e)

-- Where only whitespace follows no key is read.
space_no_key : (s : List ℕ) (o : ℕ) → o ≤ length s → ((k : ℕ) → o ≤ k → k < length s → is_space (get_or s k 0) ≡ true) → None ≡ key_at s o
unfolding not_space
space_no_key s o h space =
    let f = skip not_space s o (length s) h (omega arith) (λ k lo hi. ap not (space k lo hi)) ∙ past not_space s (length s) (omega arith) in
    key_none s o (first_from not_space s o) refl (omega arith)

nothing_ends : (s : List ℕ) (st : IterState) → state_good s st ≡ true → NothingLeft s st.place → (next_of s st).answer ≡ None
unfolding leaves
nothing_ends s st g (nowhere e) = ap (λ (x : Step). x.answer) (stays s st g e)
nothing_ends s st g (only_space o goes inside space) =
    ap (λ (x : Step). x.answer)
    (sym (next_steps s st g (reading (found None Done) (keys_of st))
    (step_none s st.html st.check_duplicates (keys_of st) st.place o goes (sym (space_no_key s o inside space)))))

pub end_exactly : EndExactly
unfolding EndExactly LeavesExact RowLeft
end_exactly s st full = (
  λ e.
      (good_whole s st (end_good s st e), (subst (λ (a : Answer). RowLeft s st a (next_of s st).state) e (leaves_exact s st)).nothing),
  λ whole. nothing_ends s st (by whole (state_good s st) refl),
) where
  by : (Broken s st → ⊥) → (t : Bool) → state_good s st ≡ t → state_good s st ≡ true
  by whole true g = g
  by whole false g = absurd (whole (bad_broken s st full g))

-- On and on.

after_beyond : (s : List ℕ) (o : ℕ) (p : Place) → progress.After s o p → Beyond s o p
unfolding progress.After Beyond
after_beyond s o Done a = tt
after_beyond s o (Next x) a = a
after_beyond s o (SkipValue x) a = a
after_beyond s o (SkipEqValue x) a = (a.0, at_in s 61 x a.1)

module _ (s : List ℕ) (st : IterState) (more : (next_of s st).answer ≡ None → ⊥) (g : state_good s st ≡ true) where
  goes_forward : (x : Option ℕ) → recover_of s st.place ≡ x → Forward s st.place (next_of s st).state.place
  unfolding leaves
  goes_forward None e = absurd (more (ap (λ (y : Step). y.answer) (stays s st g e)))
  goes_forward (Some o) e =
      let h = starts_in s st.place o e in
      let r = step_reads s st.html st.check_duplicates (keys_of st) st.place o e in
      record {
        from = o;
        goes = e;
        inside = h;
        beyond = subst (λ (y : Step). Beyond s o y.state.place) (next_steps s st g (read_at s st.html st.check_duplicates (keys_of st) o) r)
            (after_beyond s o _ (progress.read_forward s st.html st.check_duplicates (keys_of st) o h));
      }

pub step_forward : StepForward
unfolding StepForward leaves bad_reading
step_forward s st more whole = by (state_good s st) refl where
  by : (t : Bool) → state_good s st ≡ t → Forward s st.place (next_of s st).state.place
  by true g = goes_forward s st more g (recover_of s st.place) refl
  by false g = absurd (whole (ap (λ (x : Step). x.answer) (sym (next_bad s st g))))
