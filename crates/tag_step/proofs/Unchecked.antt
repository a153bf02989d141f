-- Checks off: a step is the same whatever the tables hold, and leaves them as they are; so all answers from a place are one
-- answer, and those from the place that it leaves.
use Prim.Native.Nat.{ℕ, suc, ◌<◌}
use mathlib.Core.Path.{◌≡◌, refl, sym, ap, subst, ◌∙◌}
use mathlib.Core.Bool.{Bool, true, false, false≢true}
use mathlib.Core.List.{List}
use native.Mathlib.Numerals.{add-one}
use lib.ListN.{length}
use Rattle.std.proofs.Common.{Option, Some, None}
use Rattle.tag_keys.specs.Keys.{KeysIn, KeyRoom, checked_of, written_by, count_by}
use Rattle.tag_keys.proofs.Laws.{in_table, keys_none}
use Rattle.tag_step.specs.declared.Span.{Span}
use Rattle.tag_step.specs.declared.Place.{Place}
use Rattle.tag_step.specs.declared.Place.TheVariants.{Next}
use Rattle.tag_step.specs.declared.KeyRead.{KeyRead}
use Rattle.tag_step.specs.declared.KeyRead.TheVariants.{Bare, Valued}
use Rattle.tag_step.specs.declared.Found.{Found}
use Rattle.tag_step.specs.declared.Advance.{Advance}
use Rattle.tag_step.specs.declared.Step.{Step}
use Rattle.tag_step.specs.Read.{found, recover_of, key_at}
use Rattle.tag_step.specs.Next.{Keys, Reading, reading, keys_lent, advanced, check_of, kept_by, bare_by, bare_to, bare_of, valued_by, valued_to, valued_of, read_key, read_at, step_from, step_of, place_good, keys_of, state_good, no_keys, leaves, standing, unchecked_of, opened}
use Rattle.tag_step.specs.Lent.{taken, step_in}
use Rattle.tag_step.specs.Run.{is_end, cons_unless, run_lent, run_from, answers_from, answers_of}
use Rattle.tag_step.proofs.Whole.{next_steps, recover_in}
use Rattle.tag_step.proofs.Taken.{room_made, room_never}
use Rattle.tag_step.proofs.Good.{Sized, step_stands, opened_sized}
use Rattle.tag_step.proofs.Run.{lent_resumes, from_more, left_all, todo, todo_falls, answers_resume}

-- The answers from a place, one by one, whatever the checks say.
pub answers_step : (s : List ℕ) (html checks : Bool) (keys : Keys) (place : Place) →
    let r = step_of s html checks keys place in
    answers_from s html checks keys (recover_of s place) ≡ cons_unless (is_end r.answer) r.answer (answers_from s html checks r.keys (recover_of s r.place))
unfolding answers_from run_lent
answers_step s html checks keys place =
    let r = step_of s html checks keys place in
    let x = recover_of s place in
    sym (from_more 1 (length s) s html checks keys x (recover_in s place) (left_all (length s) x))
    ∙ ap (λ (n : ℕ). run_from n s html checks keys x) (add-one (length s))
    ∙ sym (lent_resumes (suc (length s)) s html checks keys place)
    ∙ ap (cons_unless (is_end r.answer) r.answer) (lent_resumes (length s) s html checks r.keys r.place)

-- what a reading says apart from the keys, before other keys
abbrev swapped : Reading → Keys → Reading
swapped x keys = reading (found x.answer x.place) keys

module _ (s : List ℕ) (html : Bool) (keys other : Keys) where
  off_bare : (key : Span) (at : ℕ) (h : Bool) → bare_of s h false keys key at ≡ swapped (bare_of s h false other key at) keys
  unfolding bare_of bare_to bare_by kept_by check_of checked_of written_by count_by
  off_bare key at true = refl
  off_bare key at false = refl

  off_key : (k : Option KeyRead) → read_key s html false keys k ≡ swapped (read_key s html false other k) keys
  unfolding read_key valued_of valued_to valued_by kept_by check_of checked_of written_by count_by
  off_key None = refl
  off_key (Some (Bare key at)) = off_bare key at html
  off_key (Some (Valued key eq)) = refl

  -- other tables: the same answer, the same place, and they stay
  pub off_step : (place : Place) → step_of s html false keys place ≡ swapped (step_of s html false other place) keys
  unfolding step_of step_from read_at
  off_step place = by (recover_of s place) where
    by : (x : Option ℕ) → step_from s html false keys place x ≡ swapped (step_from s html false other place x) keys
    by (Some o) = off_key (key_at s o)
    by None = refl

standing_sized : (place : Place) (html checks : Bool) → Sized (standing place html checks)
unfolding no_keys opened
standing_sized place html checks = record { starts = (opened_sized 0 html checks).starts; ends = (opened_sized 0 html checks).ends; hashes = (opened_sized 0 html checks).hashes }

module _ (s : List ℕ) (html : Bool) (place : Place) (stands : place_good s place ≡ true) where
  standing_good : (checks : Bool) → state_good s (standing place html checks) ≡ true
  unfolding state_good no_keys
  standing_good checks = rw (in_table s no_keys.starts no_keys.ends no_keys.hashes no_keys.count (keys_none no_keys.starts no_keys.ends no_keys.hashes s), stands)

  -- the definition is the step on no recorded keys
  pub unchecked_is : found (step_of s html false no_keys place).answer (step_of s html false no_keys place).place ≡ unchecked_of s html place
  unfolding unchecked_of leaves keys_of
  unchecked_is = ap (λ (y : Step). found y.answer y.state.place) (next_steps s (standing place html false) (standing_good false) (step_of s html false no_keys place) refl)

  -- what a step makes on any tables
  unchecked_steps : (keys : Keys) (x : Reading) → x ≡ step_of s html false keys place → found x.answer x.place ≡ unchecked_of s html place
  unchecked_steps keys x e = ap (λ (r : Reading). found r.answer r.place) (e ∙ off_step s html keys no_keys place) ∙ unchecked_is

  -- what `step_in` does on tables with no recorded keys: it asks for nothing else, and is always taken
  module _ (starts ends hashes : List ℕ) where
    none : KeysIn starts ends hashes 0 s
    none = keys_none starts ends hashes s

    no_room : KeyRoom false starts ends hashes
    no_room = record { room = λ on. absurd (false≢true on) }

    module _ (r : Option Advance) (starts' ends' hashes' : List ℕ) (e : taken r starts' ends' hashes' 0 ≡ step_in s html false (keys_lent starts ends hashes 0) place) where
      pub unchecked_made : (o : Advance) → r ≡ Some o → found o.answer o.place ≡ unchecked_of s html place
      unchecked_made o m =
          unchecked_steps (keys_lent starts ends hashes 0) (advanced o starts' ends' hashes')
          (room_made s false (keys_lent starts ends hashes 0) none no_room html place r o starts' ends' hashes' e m)

      pub unchecked_never : r ≡ None → ⊥
      unchecked_never m = room_never s false (keys_lent starts ends hashes 0) none no_room html place r starts' ends' hashes' e m

  -- the place that is left is good again
  pub unchecked_stands : place_good s (unchecked_of s html place).place ≡ true
  unchecked_stands = subst (λ (x : Found). place_good s x.place ≡ true) unchecked_is (step_stands s html false no_keys place stands)

  -- an answer that is not the end leaves less to read
  pub unchecked_less : is_end (unchecked_of s html place).answer ≡ false → todo (length s) (recover_of s (unchecked_of s html place).place) < todo (length s) (recover_of s place)
  unchecked_less =
      subst (λ (x : Found). is_end x.answer ≡ false → todo (length s) (recover_of s x.place) < todo (length s) (recover_of s place)) unchecked_is
      (todo_falls s html false no_keys place)

  standing_answers : answers_of s (standing place html false) ≡ answers_from s html false no_keys (recover_of s place)
  unfolding keys_of
  standing_answers = answers_resume s (standing place html false) (standing_sized place html false) (standing_good false)

-- The answers with checks off are this step's answer, and those from the place that it leaves.
pub unchecked_turn : (s : List ℕ) (html : Bool) (place : Place) → place_good s place ≡ true →
    let x = unchecked_of s html place in
    answers_of s (standing place html false) ≡ cons_unless (is_end x.answer) x.answer (answers_of s (standing x.place html false))
unchecked_turn s html place stands =
    let r = step_of s html false no_keys place in
    let same : r.keys ≡ no_keys = ap (λ (x : Reading). x.keys) (off_step s html no_keys no_keys place) in
    standing_answers s html place stands ∙ answers_step s html false no_keys place
    ∙ ap (λ (k : Keys). cons_unless (is_end r.answer) r.answer (answers_from s html false k (recover_of s r.place))) same
    ∙ ap (cons_unless (is_end r.answer) r.answer) (sym (standing_answers s html r.place (step_stands s html false no_keys place stands)))
    ∙ ap (λ (x : Found). cons_unless (is_end x.answer) x.answer (answers_of s (standing x.place html false))) (unchecked_is s html place stands)

-- All answers of an iterator that is opened at o begin so.
pub unchecked_opened : (s : List ℕ) (html : Bool) (o : ℕ) → answers_of s (opened o html false) ≡ answers_of s (standing (Next o) html false)
unfolding opened
unchecked_opened s html o = refl

pub opened_stands : (s : List ℕ) (o : ℕ) → place_good s (Next o) ≡ true
unfolding place_good
opened_stands s o = refl
