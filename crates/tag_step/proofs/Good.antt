-- Good states stay good: on tables of full size every step of a good state is taken, and `next` leaves a good state and tables
-- as long as they were, whatever it began with.
use Prim.Native.Nat.{ℕ}
use mathlib.Core.Path.{◌≡◌, refl, sym, ap, ◌∙◌}
use mathlib.Core.Bool.{Bool, true, false}
use mathlib.Core.List.{List}
use native.Mathlib.Omega.{arith}
use lib.ListN.{length, replicate, length-replicate}
use Rattle.std.proofs.Common.{Option, Some, None}
use Rattle.std.specs.Prelude.{Err}
use Rattle.scan.specs.First.{pick}
use Rattle.scan.proofs.Bytes.{and_on, both}
use Rattle.tag_keys.specs.Keys.{capacity, KeysIn, KeyRoom, table_good}
use Rattle.tag_keys.proofs.Laws.{in_table, keys_none}
use Rattle.tag_step.specs.declared.Place.{Place}
use Rattle.tag_step.specs.declared.Place.TheVariants.{Done}
use Rattle.tag_step.specs.declared.AttrError.TheVariants.{BadState}
use Rattle.tag_step.specs.declared.Advance.{Advance}
use Rattle.tag_step.specs.declared.IterState.{IterState}
use Rattle.tag_step.specs.Read.{found, recover_of}
use Rattle.tag_step.specs.Next.{Keys, Reading, keys_lent, advanced, step_from, step_of, place_good, good_of, keys_of, lent_state, state_good, no_keys, reading, bad_reading, leaves, next_of, opened, with_checks}
use Rattle.tag_step.specs.Lent.{taken, step_in}
use Rattle.tag_step.proofs.Whole.{starts_in, good_inside, next_steps, next_bad}
use Rattle.tag_step.proofs.Taken.{Held, step_keeps_held, step_held, room_made, room_never}
use Rattle.tag_step.proofs.Progress.{after_good, read_forward}

-- the place that a step leaves is good
pub step_stands : (s : List ℕ) (html checks : Bool) (keys : Keys) (place : Place) → place_good s place ≡ true → place_good s (step_of s html checks keys place).place ≡ true
unfolding step_of step_from
step_stands s html checks keys place g = by (recover_of s place) refl where
  by : (x : Option ℕ) → recover_of s place ≡ x → place_good s (step_from s html checks keys place x).place ≡ true
  by None e = g
  by (Some o) e = after_good s o _ (read_forward s html checks keys o (starts_in s place o e))

-- keys that lie in the tag and a good place are a good state
parts_good : (s : List ℕ) (keys : Keys) (place : Place) → KeysIn keys.starts keys.ends keys.hashes keys.count s → place_good s place ≡ true → good_of s keys place ≡ true
parts_good s keys place inside stands = sym (and_on (in_table s keys.starts keys.ends keys.hashes keys.count inside) refl) ∙ stands

-- The tables of a state of the code have as many places as the capacity.
pub record Sized (st : IterState) : Type 0 where
  pub starts : length st.starts ≡ capacity
  pub ends : length st.ends ≡ capacity
  pub hashes : length st.hashes ≡ capacity

-- that is room for every key
sized_room : (st : IterState) → Sized st → KeyRoom st.check_duplicates st.starts st.ends st.hashes
sized_room st z = record { room = λ _. (omega (arith, z.starts), omega (arith, z.ends), omega (arith, z.hashes)) }

-- So a step of a good state is taken, and no place is lacking.
module _ (s : List ℕ) (st : IterState) (sized : Sized st) (good : state_good s st ≡ true) where
  pub sized_inside : KeysIn st.starts st.ends st.hashes st.count s
  unfolding state_good
  sized_inside = good_inside s (keys_lent st.starts st.ends st.hashes st.count) st.place good

  abbrev left : Reading
  left = step_of s st.html st.check_duplicates (keys_of st) st.place

  kept : Held s (keys_of st) left.keys
  unfolding keys_of
  kept =
      step_keeps_held s st.check_duplicates (keys_of st) sized_inside st.html st.place
      (step_held s st.check_duplicates (keys_of st) sized_inside (sized_room st sized) st.html st.place)

  left_good : good_of s left.keys left.place ≡ true
  unfolding state_good
  left_good =
      parts_good s left.keys left.place kept.inside
      (step_stands s st.html st.check_duplicates (keys_of st) st.place (both (table_good s st.starts st.ends st.hashes st.count) (place_good s st.place) good).1)

  -- what `step_in` does on such tables
  module _ (r : Option Advance) (starts ends hashes : List ℕ) (e : taken r starts ends hashes st.count ≡ step_in s st.html st.check_duplicates (keys_lent st.starts st.ends st.hashes st.count) st.place) where
    pub sized_next : (o : Advance) → r ≡ Some o → record { answer = o.answer; state = lent_state o.place st.html st.check_duplicates starts ends hashes o.count } ≡ next_of s st
    unfolding leaves keys_of
    sized_next o m =
        next_steps s st good (advanced o starts ends hashes)
        (room_made s st.check_duplicates (keys_of st) sized_inside (sized_room st sized) st.html st.place r o starts ends hashes e m)

    pub sized_never : r ≡ None → ⊥
    unfolding keys_of
    sized_never m = room_never s st.check_duplicates (keys_of st) sized_inside (sized_room st sized) st.html st.place r starts ends hashes e m

-- Refusal 7 leaves such tables all zero.
pub sized_cleared : (s : List ℕ) (st : IterState) → Sized st → state_good s st ≡ false → (starts ends hashes : List ℕ) → starts ≡ replicate (length st.starts) 0 → ends ≡ replicate (length st.ends) 0 → hashes ≡ replicate (length st.hashes) 0 → leaves st (reading (found (Some (Err BadState)) Done) (keys_lent starts ends hashes 0)) ≡ next_of s st
unfolding bad_reading no_keys
sized_cleared s st z bad starts ends hashes a b d =
    ap (λ (t : List ℕ). leaves st (reading (found (Some (Err BadState)) Done) (keys_lent t ends hashes 0))) (a ∙ ap (λ (n : ℕ). replicate n 0) z.starts)
    ∙ ap (λ (t : List ℕ). leaves st (reading (found (Some (Err BadState)) Done) (keys_lent (replicate capacity 0) t hashes 0))) (b ∙ ap (λ (n : ℕ). replicate n 0) z.ends)
    ∙ ap (λ (t : List ℕ). leaves st (reading (found (Some (Err BadState)) Done) (keys_lent (replicate capacity 0) (replicate capacity 0) t 0))) (d ∙ ap (λ (n : ℕ). replicate n 0) z.hashes)
    ∙ next_bad s st bad

none_good : (s : List ℕ) → good_of s no_keys Done ≡ true
unfolding no_keys place_good
none_good s = parts_good s no_keys Done (keys_none (replicate capacity 0) (replicate capacity 0) (replicate capacity 0) s) refl

module _ (s : List ℕ) (st : IterState) (sized : Sized st) where
  -- the state after `next` is good, whatever it was before
  pub next_stays_good : state_good s (next_of s st).state ≡ true
  unfolding next_of leaves state_good bad_reading
  next_stays_good = by (state_good s st) refl where
    by : (t : Bool) → state_good s st ≡ t → state_good s (leaves st (pick t (step_of s st.html st.check_duplicates (keys_of st) st.place) bad_reading)).state ≡ true
    by true g = left_good s st sized g
    by false g = none_good s

  -- and has as many places
  pub next_sized : Sized (next_of s st).state
  unfolding next_of leaves bad_reading no_keys keys_of
  next_sized = by (state_good s st) refl where
    by : (t : Bool) → state_good s st ≡ t → Sized (leaves st (pick t (step_of s st.html st.check_duplicates (keys_of st) st.place) bad_reading)).state
    by true g =
        let k = kept s st sized g in
        record { starts = k.starts ∙ sized.starts; ends = k.ends ∙ sized.ends; hashes = k.hashes ∙ sized.hashes }
    by false g = record { starts = length-replicate {A = ℕ} capacity 0; ends = length-replicate {A = ℕ} capacity 0; hashes = length-replicate {A = ℕ} capacity 0 }

-- An opened iterator is good, wherever it is opened; and setting the checks leaves a state as good as it was.

pub opened_sized : (o : ℕ) (html checks : Bool) → Sized (opened o html checks)
unfolding opened no_keys
opened_sized o html checks = record { starts = length-replicate {A = ℕ} capacity 0; ends = length-replicate {A = ℕ} capacity 0; hashes = length-replicate {A = ℕ} capacity 0 }

pub opened_good : (s : List ℕ) (o : ℕ) (html checks : Bool) → state_good s (opened o html checks) ≡ true
unfolding opened state_good place_good no_keys
opened_good s o html checks = rw (in_table s no_keys.starts no_keys.ends no_keys.hashes 0 (keys_none no_keys.starts no_keys.ends no_keys.hashes s))

pub checks_good : (s : List ℕ) (checks : Bool) (st : IterState) → state_good s (with_checks checks st) ≡ state_good s st
unfolding with_checks state_good
checks_good s checks st = refl
