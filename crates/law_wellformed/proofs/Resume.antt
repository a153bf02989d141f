-- After every step, of every state and in both modes, reading resumes where the table says. Each way that a step can go
-- is one row of it.
use Prim.Native.Nat.{ℕ, ◌+◌, ◌≤◌, ◌<◌}
use mathlib.Core.Path.{◌≡◌, refl, sym, ap, subst, ◌∙◌}
use mathlib.Core.Bool.{Bool, true, false}
use mathlib.Core.List.{List}
use native.Mathlib.Omega.{arith}
use lib.ListN.{length, get_or}
use lib.Dec.{eqb, ltb}
use borrow.Author.Tests.{ltb-true}
use Rattle.std.proofs.Common.{Result, Ok, Err, Option, Some, None}
use Rattle.scan.specs.First.{first_from, pick}
use Rattle.scan.specs.Bytes.{is_space, not_space, ends_key}
use Rattle.scan.proofs.Laws.{first, picks}
use Rattle.tag_keys.specs.declared.KeyRefusal.{KeyRefusal}
use Rattle.tag_keys.specs.declared.KeyRefusal.TheVariants.{Same, Full}
use Rattle.tag_step.specs.declared.Span.{Span}
use Rattle.tag_step.specs.declared.Place.{Place}
use Rattle.tag_step.specs.declared.Place.TheVariants.{Done, Next}
use Rattle.tag_step.specs.declared.KeyRead.{KeyRead}
use Rattle.tag_step.specs.declared.KeyRead.TheVariants.{Bare, Valued}
use Rattle.tag_step.specs.Answer.{Answer}
use Rattle.tag_step.specs.declared.Found.{Found}
use Rattle.tag_step.specs.declared.IterState.{IterState}
use Rattle.tag_step.specs.Read.{is_at, skip_to, skip_of, recover_of, key_eq, key_to, key_from, key_at, quoted, closed_of, value_at}
use Rattle.tag_step.specs.Next.{Keys, Reading, place_at, bare_by, bare_to, valued_by, valued_to, read_at, step_from, step_of, keys_of, state_good, bad_reading, leaves, next_of}
use Rattle.tag_step.proofs.Paths.{next_from}
use Rattle.tag_step.proofs.Whole.{starts_in}
use Rattle.tag_step.proofs.Ways.{value_ways, step_ways}
use Rattle.law_wellformed.specs.Resume.{from_or_ended, from_whitespace, after_key, after_duplicate, resumes_at}

module _ (s : List ℕ) where
  -- what is to be shown of an answer and the place that it leaves
  abbrev Resumes : Answer → Place → Type 0
  Resumes answer place = recover_of s place ≡ resumes_at s answer

  place_from_lem : (at : ℕ) → recover_of s (place_at s at) ≡ from_or_ended s at
  unfolding place_at from_or_ended recover_of
  place_from_lem at = by (ltb at (length s)) refl where
    by : (t : Bool) → ltb at (length s) ≡ t → recover_of s (pick t (Next at) Done) ≡ pick t (Some at) None
    by true e = sym (next_from s at (omega (arith, ltb-true at (length s) e)))
    by false e = refl

  -- Values.

  closed : (q : ℕ) (key value : Span) → value.end < length s → Resumes (closed_of q key value).answer (closed_of q key value).place
  unfolding closed_of quoted resumes_at
  closed q key value h =
      picks (λ (a : Answer). Resumes a (Next (value.end + 1))) (eqb q 34)
      (λ _. sym (next_from s (value.end + 1) (omega arith))) (λ _. sym (next_from s (value.end + 1) (omega arith)))

  value : (html : Bool) (key : Span) (eq : ℕ) → Resumes (value_at s html key eq).answer (value_at s html key eq).place
  unfolding resumes_at recover_of skip_of skip_to from_whitespace from_or_ended
  value html key eq =
      let v = first_from not_space s (eq + 1) in
      value_ways s html key eq v refl (λ (x : Found) (_ : ℕ). Resumes x.answer x.place)
      (λ l. refl)
      (λ e l q b g. closed (get_or s v 0) key (record { start = v + 1; end = e }) g)
      (λ e l q b g. refl)
      (λ e l q m b. sym (next_from s e (omega (arith, (first is_space s v (omega arith)).inside))))
      (λ l q m. refl)

-- What follows a key, said from where the key starts and where it ends.
record Follows (s : List ℕ) (key : Span) (x : ℕ) (t : Bool) : Type 0 where
  end : key.end ≡ first_from ends_key s (key.start + 1)
  next : x ≡ first_from not_space s key.end
  is_eq : is_at s 61 x ≡ t

unfoldable KeyIs : List ℕ → Option KeyRead → Type 0
KeyIs s None = Unit {0}
KeyIs s (Some (Bare key at)) = Follows s key at false
KeyIs s (Some (Valued key eq)) = Follows s key eq true

key_is : (s : List ℕ) (o : ℕ) → KeyIs s (key_at s o)
unfolding key_at key_from key_to key_eq KeyIs
key_is s o =
    picks (KeyIs s) (ltb (first_from not_space s o) (length s))
    (λ _. picks (KeyIs s) (is_at s 61 (first_from not_space s (first_from ends_key s (first_from not_space s o + 1))))
    (λ e. record { end = refl; next = refl; is_eq = e })
    (λ e. record { end = refl; next = refl; is_eq = e }))
    (λ _. tt)

module _ (s : List ℕ) (key : Span) (x : ℕ) (t : Bool) (f : Follows s key x t) where
  after_key_lem : after_key s key.start ≡ x
  unfolding after_key
  after_key_lem = sym (f.next ∙ ap (λ (n : ℕ). first_from not_space s n) f.end)

  after_duplicate_lem : after_duplicate s (after_key s key.start) ≡ pick t (from_whitespace s x) (from_or_ended s x)
  unfolding after_duplicate
  after_duplicate_lem = rw (after_key_lem, f.is_eq)

module _ (s : List ℕ) (html : Bool) (key : Span) (x : ℕ) where
  bare : Follows s key x false → (c : Result ℕ KeyRefusal) → Resumes s (bare_by s key x c).answer (bare_by s key x c).place
  unfolding bare_by resumes_at recover_of
  bare f (Ok n) = place_from_lem s x ∙ ap (from_or_ended s) f.next
  bare f (Err (Same p)) = place_from_lem s x ∙ sym (after_duplicate_lem s key x false f)
  bare f (Err Full) = refl

  valued : Follows s key x true → (c : Result ℕ KeyRefusal) → Resumes s (valued_by s html key x c).answer (valued_by s html key x c).place
  unfolding valued_by resumes_at recover_of skip_of skip_to from_whitespace from_or_ended
  valued f (Ok n) = value s html key x
  valued f (Err (Same p)) = sym (after_duplicate_lem s key x true f)
  valued f (Err Full) = refl

module _ (s : List ℕ) (html checks : Bool) (keys : Keys) where
  abbrev Goes : Reading → Type 0
  Goes x = Resumes s x.answer x.place

  read_resumes : (o : ℕ) → o ≤ length s → Goes (read_at s html checks keys o)
  unfolding bare_to valued_to KeyIs resumes_at recover_of
  read_resumes o h =
      step_ways s html checks keys o h (λ (x : Reading) (_ : ℕ). Goes x)
      (λ e. refl)
      (λ key at e i m. place_from_lem s at)
      (λ key at c e i m v. bare s html key at (subst (KeyIs s) e (key_is s o)) c)
      (λ key eq c e i a v. valued s html key eq (subst (KeyIs s) e (key_is s o)) c)

  step_resumes : (place : Place) → Goes (step_of s html checks keys place)
  unfolding step_of step_from resumes_at
  step_resumes place = by (recover_of s place) refl where
    by : (x : Option ℕ) → recover_of s place ≡ x → Goes (step_from s html checks keys place x)
    by (Some o) e = read_resumes o (starts_in s place o e)
    by None e = e

-- For every tag and every state, in both modes: what `next` leaves resumes where the answer says.
pub resume_exact : (s : List ℕ) (st : IterState) → recover_of s (next_of s st).state.place ≡ resumes_at s (next_of s st).answer
unfolding next_of leaves bad_reading recover_of resumes_at
resume_exact s st =
    picks (λ (x : Reading). recover_of s x.place ≡ resumes_at s x.answer) (state_good s st)
    (λ _. step_resumes s st.html st.check_duplicates (keys_of st) st.place)
    (λ _. refl)
