-- What every step leaves: each way that a step can go is one row of the table. A key that is found fresh is recorded, and
-- the verdict's count is one more while checks are on.
use Prim.Native.Nat.{ℕ, ◌+◌, ◌≤◌, ◌<◌}
use mathlib.Core.Path.{◌≡◌, refl}
use mathlib.Core.Bool.{Bool, true, false}
use mathlib.Core.List.{List}
use native.Mathlib.Omega.{arith}
use lib.ListN.{length, get_or}
use lib.Dec.{eqb, ltb}
use borrow.Author.Tests.{ltb-false, not-false}
use Rattle.std.proofs.Common.{Option, Some, None, Result, Ok, Err}
use Rattle.scan.specs.First.{first_from, pick}
use Rattle.scan.specs.Bytes.{is_space, not_space, ends_key}
use Rattle.scan.proofs.Laws.{first, picks}
use Rattle.tag_keys.specs.declared.KeyRefusal.{KeyRefusal}
use Rattle.tag_keys.specs.declared.KeyRefusal.TheVariants.{Same, Full}
use Rattle.tag_keys.specs.Keys.{capacity, checked_by, checked_of, written_by, count_by}
use Rattle.tag_step.specs.declared.Span.{Span}
use Rattle.tag_step.specs.declared.Place.{Place}
use Rattle.tag_step.specs.declared.Place.TheVariants.{Next}
use Rattle.tag_step.specs.declared.KeyRead.{KeyRead}
use Rattle.tag_step.specs.declared.KeyRead.TheVariants.{Bare, Valued}
use Rattle.tag_step.specs.Answer.{Answer}
use Rattle.tag_step.specs.declared.Attr.TheVariants.{Empty}
use Rattle.tag_step.specs.declared.Found.{Found}
use Rattle.tag_step.specs.declared.IterState.{IterState}
use Rattle.tag_step.specs.Read.{is_at, recover_of, key_eq, key_to, key_from, key_at, quoted, closed_of, value_at}
use Rattle.tag_step.specs.Next.{Keys, Reading, reading, check_of, kept_by, place_at, bare_by, bare_to, valued_by, valued_to, read_at, step_from, step_of, keys_of, state_good, no_keys, bad_reading, leaves, next_of}
use Rattle.tag_step.proofs.Whole.{starts_in}
use Rattle.tag_step.proofs.Ways.{value_ways, step_ways}
use Rattle.law_steps.specs.Steps.{ValuedKey, valued, moved_with, only_space, nowhere, end_left, skips_from, goes_on, RowLeft, LeavesExact}

-- Where no key is read only whitespace follows.

key_never : (s : List ℕ) (key : Span) (x : ℕ) → key_eq s key x ≡ None → ⊥
unfolding key_eq
key_never s key x =
    picks (λ (k : Option KeyRead). k ≡ None → ⊥) (is_at s 61 x)
    (λ _ e. let z : ◌≡◌ {A = ℕ} 0 1 = cc in omega arith)
    (λ _ e. let z : ◌≡◌ {A = ℕ} 0 1 = cc in omega arith)

none_inside : (s : List ℕ) (o : ℕ) → key_at s o ≡ None → length s ≤ first_from not_space s o
unfolding key_at key_from key_to
none_inside s o = by (ltb (first_from not_space s o) (length s)) refl where
  by : (t : Bool) → ltb (first_from not_space s o) (length s) ≡ t → pick t (key_to s (first_from not_space s o) (first_from ends_key s (first_from not_space s o + 1))) None ≡ None → length s ≤ first_from not_space s o
  by true h e = absurd (key_never s _ _ e)
  by false h e = ltb-false (first_from not_space s o) (length s) h

pub only_space_lem : (s : List ℕ) (o : ℕ) → o ≤ length s → key_at s o ≡ None → (k : ℕ) → o ≤ k → k < length s → is_space (get_or s k 0) ≡ true
unfolding not_space
only_space_lem s o h e k lo hi = not-false (is_space (get_or s k 0)) ((first not_space s o h).before k lo (omega (arith, none_inside s o e)))

-- The count after a fresh key.

fresh_by_lem : (count n : ℕ) (e : Option ℕ) → Ok n ≡ checked_by count e → n ≡ count + 1
unfolding checked_by
fresh_by_lem count n (Some p) h = let z : ◌≡◌ {A = ℕ} 0 1 = cc in absurd (omega arith)
fresh_by_lem count n None h =
    picks (λ (c : Result ℕ KeyRefusal). Ok n ≡ c → n ≡ count + 1) (ltb count capacity)
    (λ _ e. cc)
    (λ _ e. let z : ◌≡◌ {A = ℕ} 0 1 = cc in absurd (omega arith))
    h

pub fresh_count : (s : List ℕ) (checks : Bool) (keys : Keys) (key : Span) (n : ℕ) → Ok n ≡ check_of s checks keys key → n ≡ pick checks (keys.count + 1) keys.count
unfolding check_of checked_of
fresh_count s true keys key n e = fresh_by_lem keys.count n _ e
fresh_count s false keys key n e = cc

module _ (s : List ℕ) (st : IterState) where
  abbrev checks : Bool
  checks = st.check_duplicates

  -- a row of the table for what a reading makes
  abbrev Leaves : Reading → Type 0
  Leaves x = RowLeft s st x.answer (leaves st x).state

  -- the state after a fresh key
  fresh : (a : Answer) (p : Place) (key : Span) (n : ℕ) → Ok n ≡ check_of s checks (keys_of st) key → (leaves st (record { answer = a; place = p; keys = kept_by s checks (keys_of st) key (Ok n) })).state ≡ moved_with s p key st
  unfolding leaves kept_by written_by count_by keys_of
  fresh a p key n e = rw (fresh_count s checks (keys_of st) key n e)

  module _ (o : ℕ) (goes : recover_of s st.place ≡ Some o) where
    -- a bare key in HTML mode
    bare_leaves : (key : Span) (at : ℕ) (c : Result ℕ KeyRefusal) → key_at s o ≡ Some (Bare key at) → st.html ≡ true → c ≡ check_of s checks (keys_of st) key → Leaves (bare_to s checks (keys_of st) key at c)
    unfolding bare_to bare_by RowLeft place_at leaves kept_by written_by count_by keys_of
    bare_leaves key at (Ok n) e on v = (at, record { from = o; goes = goes; reads = e; html = on }, fresh (Some (Ok (Empty key))) (place_at s at) key n v)
    bare_leaves key at (Err (Same p)) e on v = goes_on key at (record { from = o; goes = goes; reads = e; html = on }) refl refl
    bare_leaves key at (Err Full) e on v = refl

    -- a key with `=`
    module _ (key : Span) (eq : ℕ) (e : key_at s o ≡ Some (Valued key eq)) where
      it : ValuedKey s st key eq
      it = record { from = o; goes = goes; reads = e }

      -- a row for a value of a fresh key
      abbrev Value : ℕ → Found → Type 0
      Value n x = Leaves (reading x (kept_by s checks (keys_of st) key (Ok n)))

      quoted_leaves : (n q : ℕ) (value : Span) → Ok n ≡ check_of s checks (keys_of st) key → Value n (closed_of q key value)
      unfolding closed_of quoted RowLeft
      quoted_leaves n q value v =
          picks (λ (a : Answer). Value n (record { answer = a; place = Next (value.end + 1) })) (eqb q 34)
          (λ _. record { due = valued eq it; leaves = fresh _ _ key n v })
          (λ _. record { due = valued eq it; leaves = fresh _ _ key n v })

      value_leaves : (n : ℕ) → Ok n ≡ check_of s checks (keys_of st) key → Value n (value_at s st.html key eq)
      unfolding RowLeft
      value_leaves n v =
          value_ways s st.html key eq _ refl (λ (x : Found) (_ : ℕ). Value n x)
          (λ l. (refl, record { key = key; eq = eq; due = it; leaves = fresh _ _ key n v }))
          (λ c l q b g. quoted_leaves n _ _ v)
          (λ c l q b g. (refl, record { key = key; eq = eq; due = it; leaves = fresh _ _ key n v }))
          (λ c l q m b. record { due = valued eq it; leaves = fresh _ _ key n v })
          (λ l q m. record { key = key; eq = eq; due = it; leaves = fresh _ _ key n v })

      valued_leaves : (c : Result ℕ KeyRefusal) → c ≡ check_of s checks (keys_of st) key → Leaves (valued_to s st.html checks (keys_of st) key eq c)
      unfolding valued_to valued_by RowLeft leaves kept_by written_by count_by keys_of
      valued_leaves (Ok n) v = value_leaves n v
      valued_leaves (Err (Same p)) v = skips_from key eq it refl refl
      valued_leaves (Err Full) v = refl

    read_leaves : Leaves (read_at s st.html checks (keys_of st) o)
    unfolding RowLeft leaves keys_of place_at end_left
    read_leaves =
        let h = starts_in s st.place o goes in
        step_ways s st.html checks (keys_of st) o h (λ (x : Reading) (_ : ℕ). Leaves x)
        (λ e. record { nothing = only_space o goes h (only_space_lem s o h e); leaves = refl })
        (λ key at e i m. refl)
        (λ key at c e i m v. bare_leaves key at c e m v)
        (λ key eq c e i a v. valued_leaves key eq e c v)

  step_leaves : Leaves (step_of s st.html checks (keys_of st) st.place)
  unfolding step_of step_from RowLeft leaves keys_of end_left
  step_leaves = by (recover_of s st.place) refl where
    by : (x : Option ℕ) → recover_of s st.place ≡ x → Leaves (step_from s st.html checks (keys_of st) st.place x)
    by (Some o) e = read_leaves o e
    by None e = record { nothing = nowhere e; leaves = refl }

pub leaves_exact : LeavesExact
unfolding LeavesExact next_of leaves bad_reading no_keys RowLeft
leaves_exact s st = picks (Leaves s st) (state_good s st) (λ _. step_leaves s st) (λ _. refl)
