-- Whole runs: the three forms of a run agree, and a run has no more answers than there are bytes left, so that more budget
-- changes nothing.
use Prim.Native.Nat.{ℕ, zero, suc, ◌+◌, ◌-◌, ◌≤◌, ◌<◌}
use mathlib.Core.Path.{◌≡◌, refl, sym, ap, subst, ◌∙◌}
use mathlib.Core.Bool.{Bool, true, false, false≢true}
use mathlib.Core.List.{List, [], ◌∷◌}
use native.Mathlib.Nat.{add-suc, add-zero, suc-add}
use native.Mathlib.Omega.{arith}
use lib.ListN.{length}
use Rattle.std.proofs.Common.{Option, Some, None}
use Rattle.scan.specs.First.{first_from}
use Rattle.scan.specs.Bytes.{not_space}
use Rattle.scan.proofs.Laws.{past}
use Rattle.tag_step.specs.declared.Place.{Place}
use Rattle.tag_step.specs.declared.Place.TheVariants.{Next}
use Rattle.tag_step.specs.Answer.{Answer}
use Rattle.tag_step.specs.declared.IterState.{IterState}
use Rattle.tag_step.specs.declared.Step.{Step}
use Rattle.tag_step.specs.Read.{recover_of}
use Rattle.tag_step.specs.Next.{Keys, Reading, read_key, read_at, step_from, step_of, keys_of, state_good, bad_reading, leaves, next_of, no_keys, opened}
use Rattle.tag_step.specs.Run.{is_end, cons_unless, run_of, answers_of, run_lent, run_from, answers_from}
use Rattle.tag_step.proofs.Paths.{key_none}
use Rattle.tag_step.proofs.Whole.{StartIn, recover_in, starts_in, next_bad, next_steps}
use Rattle.tag_step.proofs.Progress.{StartPast, read_forward, resume_past}
use Rattle.tag_step.proofs.Good.{Sized, next_stays_good, next_sized, opened_sized, opened_good}

-- The three forms

-- over places, and over where reading goes on
resumes_by : (n : ℕ) (s : List ℕ) (html checks : Bool) (keys : Keys) (place : Place) (x : Option ℕ) → ((keys : Keys) (place : Place) → run_lent n s html checks keys place ≡ run_from n s html checks keys (recover_of s place)) →
    let r = step_from s html checks keys place x in
    cons_unless (is_end r.answer) r.answer (run_lent n s html checks r.keys r.place) ≡ run_from (suc n) s html checks keys x
unfolding run_from step_from is_end cons_unless
resumes_by n s html checks keys place None later = refl
resumes_by n s html checks keys place (Some o) later =
    let r = read_at s html checks keys o in
    ap (cons_unless (is_end r.answer) r.answer) (later r.keys r.place)

pub lent_resumes : (n : ℕ) (s : List ℕ) (html checks : Bool) (keys : Keys) (place : Place) → run_lent n s html checks keys place ≡ run_from n s html checks keys (recover_of s place)
unfolding run_lent run_from step_of
lent_resumes zero s html checks keys place = refl
lent_resumes (suc n) s html checks keys place = resumes_by n s html checks keys place (recover_of s place) (lent_resumes n s html checks)

-- over states, and over tables and places
abbrev RunsOn : ℕ → List ℕ → IterState → Type 0
RunsOn n s st = run_of n s st ≡ run_lent n s st.html st.check_duplicates (keys_of st) st.place

lent_by : (n : ℕ) (s : List ℕ) (st : IterState) (x : Reading) (y : Step) → leaves st x ≡ y → RunsOn n s y.state → cons_unless (is_end y.answer) y.answer (run_of n s y.state) ≡ cons_unless (is_end x.answer) x.answer (run_lent n s st.html st.check_duplicates x.keys x.place)
unfolding leaves keys_of
lent_by n s st x y e =
    subst (λ (z : Step). RunsOn n s z.state → cons_unless (is_end z.answer) z.answer (run_of n s z.state) ≡ cons_unless (is_end x.answer) x.answer (run_lent n s st.html st.check_duplicates x.keys x.place)) e
    (λ h. ap (cons_unless (is_end x.answer) x.answer) h)

pub run_lent_lem : (n : ℕ) (s : List ℕ) (st : IterState) → Sized st → state_good s st ≡ true → RunsOn n s st
unfolding run_of run_lent
run_lent_lem zero s st sized good = refl
run_lent_lem (suc n) s st sized good =
    let x = step_of s st.html st.check_duplicates (keys_of st) st.place in
    lent_by n s st x (next_of s st) (next_steps s st good x refl) (run_lent_lem n s (next_of s st).state (next_sized s st sized) (next_stays_good s st sized))

-- What a loop over steps on lent tables goes by: the run is this answer and the run of what the step leaves, or nothing.
module _ (n : ℕ) (s : List ℕ) (html checks : Bool) (keys : Keys) (place : Place) (x : Reading) (e : x ≡ step_of s html checks keys place) where
  pub lent_goes_on : is_end x.answer ≡ false → run_lent (suc n) s html checks keys place ≡ x.answer ∷ run_lent n s html checks x.keys x.place
  unfolding run_lent cons_unless
  lent_goes_on h = rw (sym e, h)

  pub lent_stops : is_end x.answer ≡ true → run_lent (suc n) s html checks keys place ≡ []
  unfolding run_lent cons_unless
  lent_stops h = rw (sym e, h)

-- an answer more, or none
pub cons_most : (n : ℕ) (t : Bool) (a : Answer) (more : List Answer) → length more ≤ n → length (cons_unless t a more) ≤ suc n
unfolding cons_unless
cons_most n true a more h = omega arith
cons_most n false a more h = omega arith

-- What is left

-- the bytes that are left
abbrev pub left : ℕ → Option ℕ → ℕ
left l (Some o) = l - o
left l None = 0

pub left_all : (l : ℕ) (x : Option ℕ) → left l x ≤ l
left_all l (Some o) = omega arith
left_all l None = omega arith

left_falls : (l o n : ℕ) (x : Option ℕ) → StartPast l o x → l - o ≤ suc n → left l x ≤ n
unfolding StartPast
left_falls l o n (Some w) a h = omega arith
left_falls l o n None a h = omega arith

past_in : (l o : ℕ) (x : Option ℕ) → StartPast l o x → StartIn l x
unfolding StartPast StartIn
past_in l o (Some w) a = a.1
past_in l o None a = tt

-- at the tag's end there is no key
at_end : (s : List ℕ) (html checks : Bool) (keys : Keys) (o : ℕ) → length s ≤ o → (read_at s html checks keys o).answer ≡ None
unfolding read_at read_key
at_end s html checks keys o h =
    let f = past not_space s o h in
    rw (sym (key_none s o (first_from not_space s o) refl (omega arith)))

-- no more answers there, and none after the end
pub run_end : (n : ℕ) (s : List ℕ) (html checks : Bool) (keys : Keys) (o : ℕ) → length s ≤ o → run_from n s html checks keys (Some o) ≡ []
unfolding run_from is_end cons_unless
run_end zero s html checks keys o h = refl
run_end (suc n) s html checks keys o h = rw (at_end s html checks keys o h)

pub run_ended : (n : ℕ) (s : List ℕ) (html checks : Bool) (keys : Keys) → run_from n s html checks keys None ≡ []
unfolding run_from
run_ended zero s html checks keys = refl
run_ended (suc n) s html checks keys = refl

one_more : (n : ℕ) (s : List ℕ) (html checks : Bool) (keys : Keys) (x : Option ℕ) → StartIn (length s) x → left (length s) x ≤ n → run_from (suc n) s html checks keys x ≡ run_from n s html checks keys x
unfolding run_from is_end cons_unless StartIn
one_more zero s html checks keys (Some o) i h = rw (at_end s html checks keys o (omega arith))
one_more (suc n) s html checks keys (Some o) i h =
    let r = read_at s html checks keys o in
    let p = resume_past s o r.place (read_forward s html checks keys o i) in
    ap (cons_unless (is_end r.answer) r.answer) (one_more n s html checks r.keys (recover_of s r.place) (past_in (length s) o (recover_of s r.place) p) (left_falls (length s) o n (recover_of s r.place) p h))
one_more zero s html checks keys None i h = refl
one_more (suc n) s html checks keys None i h = refl

-- the steps that are left, at most: one for each byte, and one that finds no more
abbrev pub todo : ℕ → Option ℕ → ℕ
todo l (Some o) = suc (l - o)
todo l None = 0

todo_past : (l o : ℕ) (x : Option ℕ) → StartPast l o x → todo l x < suc (l - o)
unfolding StartPast
todo_past l o (Some w) h = omega (arith, h.0, h.1)
todo_past l o None h = omega arith

todo_by : (s : List ℕ) (html checks : Bool) (keys : Keys) (place : Place) (x : Option ℕ) → recover_of s place ≡ x → is_end (step_from s html checks keys place x).answer ≡ false → todo (length s) (recover_of s (step_from s html checks keys place x).place) < todo (length s) x
unfolding step_from is_end
todo_by s html checks keys place None e z = absurd (false≢true (sym z))
todo_by s html checks keys place (Some o) e z =
    let r = read_at s html checks keys o in
    todo_past (length s) o (recover_of s r.place) (resume_past s o r.place (read_forward s html checks keys o (starts_in s place o e)))

-- An answer that is not the end leaves less.
pub todo_falls : (s : List ℕ) (html checks : Bool) (keys : Keys) (place : Place) → is_end (step_of s html checks keys place).answer ≡ false → todo (length s) (recover_of s (step_of s html checks keys place).place) < todo (length s) (recover_of s place)
unfolding step_of
todo_falls s html checks keys place = todo_by s html checks keys place (recover_of s place) refl

-- A budget of the bytes that are left is enough.
pub from_more : (j n : ℕ) (s : List ℕ) (html checks : Bool) (keys : Keys) (x : Option ℕ) → StartIn (length s) x → left (length s) x ≤ n → run_from (n + j) s html checks keys x ≡ run_from n s html checks keys x
from_more zero n s html checks keys x i h = rw add-zero
from_more (suc j) n s html checks keys x i h = rw add-suc (one_more (n + j) s html checks keys x i (omega arith) ∙ from_more j n s html checks keys x i h)

-- The run from a good state is the run from where it resumes.
pub answers_resume : (s : List ℕ) (st : IterState) → Sized st → state_good s st ≡ true → answers_of s st ≡ answers_from s st.html st.check_duplicates (keys_of st) (recover_of s st.place)
unfolding answers_of answers_from
answers_resume s st sized good =
    run_lent_lem (suc (length s)) s st sized good ∙ lent_resumes (suc (length s)) s st.html st.check_duplicates (keys_of st) st.place
    ∙ one_more (length s) s st.html st.check_duplicates (keys_of st) (recover_of s st.place) (recover_in s st.place) (left_all (length s) (recover_of s st.place))

-- All answers of an iterator that is opened at o.
pub opened_answers : (s : List ℕ) (o : ℕ) (html checks : Bool) → answers_of s (opened o html checks) ≡ answers_from s html checks no_keys (recover_of s (Next o))
unfolding opened no_keys keys_of
opened_answers s o html checks = answers_resume s (opened o html checks) (opened_sized o html checks) (opened_good s o html checks)

-- More budget changes nothing

runs_more : (j n : ℕ) (s : List ℕ) (st : IterState) → Sized st → state_good s st ≡ true → left (length s) (recover_of s st.place) ≤ n → run_of (n + j) s st ≡ run_of n s st
runs_more j n s st sized good h =
    run_lent_lem (n + j) s st sized good ∙ lent_resumes (n + j) s st.html st.check_duplicates (keys_of st) st.place
    ∙ from_more j n s st.html st.check_duplicates (keys_of st) (recover_of s st.place) (recover_in s st.place) h
    ∙ sym (run_lent_lem n s st sized good ∙ lent_resumes n s st.html st.check_duplicates (keys_of st) st.place)

after_first : (n m : ℕ) (s : List ℕ) (st : IterState) → run_of n s (next_of s st).state ≡ run_of m s (next_of s st).state → run_of (suc n) s st ≡ run_of (suc m) s st
unfolding run_of
after_first n m s st e = ap (cons_unless (is_end (next_of s st).answer) (next_of s st).answer) e

-- a bad state is answered once, and then the run is over
bad_left : (s : List ℕ) (st : IterState) (y : Step) → leaves st bad_reading ≡ y → left (length s) (recover_of s y.state.place) ≤ 0
unfolding leaves bad_reading recover_of
bad_left s st y e = subst (λ (z : Step). left (length s) (recover_of s z.state.place) ≤ 0) e (omega arith)

pub run_whole : (j : ℕ) (s : List ℕ) (st : IterState) → Sized st → run_of (suc (length s) + j) s st ≡ answers_of s st
unfolding answers_of
run_whole j s st sized = by (state_good s st) refl where
  by : (t : Bool) → state_good s st ≡ t → run_of (suc (length s) + j) s st ≡ run_of (suc (length s)) s st
  by true good =
      let l = left_all (length s) (recover_of s st.place) in
      runs_more j (suc (length s)) s st sized good (omega arith)
  by false bad =
      let l = bad_left s st (next_of s st) (next_bad s st bad) in
      rw suc-add (after_first (length s + j) (length s) s st (runs_more j (length s) s (next_of s st).state (next_sized s st sized) (next_stays_good s st sized) (omega arith)))
