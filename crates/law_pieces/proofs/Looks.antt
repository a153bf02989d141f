-- How far a step looks, by its answer: each way that reading can go has its row (`step_ways`, `value_ways` of `tag_step`).
use Prim.Native.Nat.{ℕ, ◌+◌, ◌≤◌, ◌<◌}
use mathlib.Core.Path.{◌≡◌, refl, sym, ap, subst, ◌∙◌}
use mathlib.Core.Bool.{Bool, true, false, ◌||◌}
use mathlib.Core.List.{List}
use native.Mathlib.Omega.{arith}
use lib.ListN.{length, get_or}
use lib.Dec.{eqb, ltb}
use borrow.Author.Tests.{lt-ltb, eqb-true}
use Rattle.std.proofs.Common.{Result, Ok, Err, Option, Some, None}
use Rattle.scan.specs.First.{first_from}
use Rattle.scan.specs.Bytes.{is_space, not_space, ends_key, is_byte}
use Rattle.scan.proofs.Laws.{first, picks}
use Rattle.tag_keys.specs.declared.KeyRefusal.{KeyRefusal}
use Rattle.tag_keys.specs.declared.KeyRefusal.TheVariants.{Same, Full}
use Rattle.tag_step.specs.declared.Span.{Span}
use Rattle.tag_step.specs.declared.Place.{Place}
use Rattle.tag_step.specs.declared.KeyRead.{KeyRead}
use Rattle.tag_step.specs.declared.KeyRead.TheVariants.{Bare, Valued}
use Rattle.tag_step.specs.declared.Found.{Found}
use Rattle.tag_step.specs.declared.Step.{Step}
use Rattle.tag_step.specs.Read.{span, is_at, is_quote, recover_of, key_eq, key_to, key_from, key_at, quoted, closed_of, value_at}
use Rattle.tag_step.specs.Next.{Keys, Reading, keys_of, bare_by, bare_to, valued_by, valued_to, read_at, step_from, step_of, leaves}
use Rattle.tag_step.specs.Look.{look_value, look_by, look_at, look_start, look_of, look_next}
use Rattle.tag_step.proofs.Whole.{at_in, starts_in, next_steps}
use Rattle.tag_step.proofs.Ways.{value_ways, step_ways}
use Rattle.law_pieces.specs.Pieces.{LastByte, LookOfAnswer}

-- where a key that was read ends, and what stands behind it, at x
record KeyEnds (s : List ℕ) (key : Span) (x : ℕ) : Type 0 where
  end : key.end ≡ first_from ends_key s (key.start + 1)
  behind : x ≡ first_from not_space s key.end

abbrev Bounds : List ℕ → Option KeyRead → Type 0
Bounds s None = Unit {0}
Bounds s (Some (Bare key at)) = KeyEnds s key at
Bounds s (Some (Valued key eq)) = KeyEnds s key eq

key_bounds : (s : List ℕ) (o : ℕ) → Bounds s (key_at s o)
unfolding key_at key_from key_to key_eq
key_bounds s o =
    picks (Bounds s) (ltb (first_from not_space s o) (length s))
    (λ _. picks (Bounds s) (is_at s 61 (first_from not_space s (first_from ends_key s (first_from not_space s o + 1)))) (λ _. record { end = refl; behind = refl }) (λ _. record { end = refl; behind = refl }))
    (λ _. tt)

module _ (s : List ℕ) where
  -- a value in quotes, whose closing one stands at e
  closed_last : (q : ℕ) (key : Span) (a e : ℕ) → is_quote q ≡ true → e < length s → is_byte q (get_or s e 0) ≡ true → LastByte s e (quoted q key (span a e))
  unfolding LastByte quoted is_quote is_at is_byte
  closed_last q key a e i l here = by (eqb q 34) refl i where
    by : (t : Bool) → eqb q 34 ≡ t → (t || eqb q 39) ≡ true → LastByte s e (quoted q key (span a e))
    by true d j = rw d (refl, rw (lt-ltb e (length s) l) (rw (eqb-true q 34 d) at here))
    by false d j = rw d (refl, rw (lt-ltb e (length s) l) (rw (eqb-true q 39 j) at here))

  value_last : (html : Bool) (key : Span) (eq : ℕ) → eq < length s → LastByte s (look_value s html eq) (value_at s html key eq).answer
  unfolding LastByte closed_of
  value_last html key eq l =
      let v = first_from not_space s (eq + 1) in
      value_ways s html key eq v refl (λ (x : Found) (n : ℕ). LastByte s n x.answer)
      (λ h. h)
      (λ e i q b g. closed_last (get_or s v 0) key (v + 1) e q g (rw (sym b) at ((first (is_byte (get_or s v 0)) s (v + 1) (omega arith)).found (omega arith))))
      (λ e i q b g. g)
      (λ e i q m b. (refl, λ g. rw (sym b) at ((first is_space s v (omega arith)).found (omega arith))))
      (λ i q m. (refl, i))

  valued_last : (html : Bool) (key : Span) (eq : ℕ) (c : Result ℕ KeyRefusal) → eq < length s → KeyEnds s key eq → LastByte s (look_by s html eq c) (valued_by s html key eq c).answer
  unfolding LastByte look_by valued_by
  valued_last html key eq (Ok n) l k = value_last html key eq l
  valued_last html key eq (Err (Same p)) l k = k.behind ∙ ap (first_from not_space s) k.end
  valued_last html key eq (Err Full) l k = k.behind ∙ ap (first_from not_space s) k.end

  bare_last : (key : Span) (at : ℕ) (c : Result ℕ KeyRefusal) → KeyEnds s key at → LastByte s at (bare_by s key at c).answer
  unfolding LastByte bare_by
  bare_last key at (Ok n) k = k.behind
  bare_last key at (Err (Same p)) k = k.behind ∙ ap (first_from not_space s) k.end
  bare_last key at (Err Full) k = k.behind ∙ ap (first_from not_space s) k.end

  read_last : (html checks : Bool) (keys : Keys) (o : ℕ) → o ≤ length s → LastByte s (look_at s html checks keys o) (read_at s html checks keys o).answer
  unfolding LastByte bare_to valued_to
  read_last html checks keys o h =
      step_ways s html checks keys o h (λ (x : Reading) (n : ℕ). LastByte s n x.answer)
      (λ e. omega arith)
      (λ key at e i m. refl)
      (λ key at c e i m v. bare_last key at c (subst (Bounds s) e (key_bounds s o)))
      (λ key eq c e i a v. valued_last html key eq c (at_in s 61 eq a) (subst (Bounds s) e (key_bounds s o)))

  step_last : (html checks : Bool) (keys : Keys) (place : Place) → LastByte s (look_of s html checks keys place) (step_of s html checks keys place).answer
  unfolding look_of look_start step_of step_from LastByte
  step_last html checks keys place = by (recover_of s place) refl where
    by : (x : Option ℕ) → recover_of s place ≡ x → LastByte s (look_start s html checks keys x) (step_from s html checks keys place x).answer
    by None e = omega arith
    by (Some o) e = read_last html checks keys o (starts_in s place o e)

pub look_of_answer : LookOfAnswer
unfolding leaves
look_of_answer s st good =
    let x = step_of s st.html st.check_duplicates (keys_of st) st.place in
    subst (λ (y : Step). LastByte s (look_next s st) y.answer) (next_steps s st good x refl)
    (step_last s st.html st.check_duplicates (keys_of st) st.place)
