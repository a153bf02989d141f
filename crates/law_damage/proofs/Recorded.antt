-- Recorded keys of two tags, of the same bytes: a key that is read in both is found, recorded or refused in both.
use Prim.Native.Nat.{ℕ, ◌+◌, ◌<◌}
use mathlib.Core.Path.{◌≡◌, refl, sym, ap, subst, ◌∙◌}
use mathlib.Core.Bool.{Bool, true, false}
use mathlib.Core.List.{List}
use native.Mathlib.Omega.{arith}
use lib.ListN.{length, get_or, set, length-set}
use lib.Seq.{get_or-set_same, get_or-set_other}
use lib.Dec.{eqb, ltb}
use borrow.Author.Tests.{ltb-true, ltb-false, eqb-true, eqb-false}
use Rattle.std.proofs.Common.{Option, Some, None, Result, Ok, Err}
use Rattle.scan.specs.First.{first_to, pick}
use Rattle.scan.specs.Bytes.{part}
use Rattle.scan.proofs.Laws.{to_first, first_only}
use Rattle.scan.proofs.Move.{pick_ap}
use Rattle.tag_keys.specs.declared.KeyRefusal.{KeyRefusal}
use Rattle.tag_keys.specs.declared.KeyRefusal.TheVariants.{Same, Full}
use Rattle.tag_keys.specs.Hash.{hash_of}
use Rattle.tag_keys.specs.Keys.{capacity, name_at, same_key, oldest_of, earlier_of, checked_by, checked_of, written_by, count_by}
use Rattle.tag_keys.proofs.Laws.{earlier_at, earlier_past}
use Rattle.tag_step.specs.declared.Span.{Span}
use Rattle.tag_step.specs.Next.{Keys, check_of, kept_by}
use Rattle.law_damage.specs.Damage.{move_span}

abbrev pub move_earlier : (ℕ → ℕ) → Option ℕ → Option ℕ
move_earlier f (Some p) = Some (f p)
move_earlier f None = None

abbrev pub move_checked : (ℕ → ℕ) → Result ℕ KeyRefusal → Result ℕ KeyRefusal
move_checked f (Ok n) = Ok n
move_checked f (Err (Same p)) = Err (Same (f p))
move_checked f (Err Full) = Err Full

-- the keys of t are those of s, moved, with the same bytes
pub record NamesLike (f : ℕ → ℕ) (s t : List ℕ) (ks kt : Keys) : Type 0 where
  pub count : kt.count ≡ ks.count
  pub start : (k : ℕ) → k < ks.count → get_or kt.starts k 0 ≡ f (get_or ks.starts k 0)
  pub bytes : (k : ℕ) → k < ks.count → name_at s ks.starts ks.ends k ≡ name_at t kt.starts kt.ends k

-- and stand in tables of the capacity
pub record KeysLike (f : ℕ → ℕ) (s t : List ℕ) (ks kt : Keys) : Type 0 where
  pub names : NamesLike f s t ks kt
  pub room_s : (length ks.starts ≡ capacity) × (length ks.ends ≡ capacity)
  pub room_t : (length kt.starts ≡ capacity) × (length kt.ends ≡ capacity)

-- no keys
pub like_none : (f : ℕ → ℕ) (s t : List ℕ) (k : Keys) → k.count ≡ 0 → length k.starts ≡ capacity → length k.ends ≡ capacity
    → KeysLike f s t k k
like_none f s t k z a b =
    record {
      names = record { count = refl; start = λ i h. absurd (omega arith); bytes = λ i h. absurd (omega arith) };
      room_s = (a, b);
      room_t = (a, b);
    }

-- the search among recorded keys
abbrev earlier_in : List ℕ → Keys → Span → Option ℕ
earlier_in s k key = earlier_of s k.starts k.ends k.count key.start key.end

set_pick : (l : List ℕ) (c x k : ℕ) → c < length l → get_or (set l c x) k 0 ≡ pick (eqb k c) x (get_or l k 0)
set_pick l c x k h = by (eqb k c) refl where
  by : (y : Bool) → eqb k c ≡ y → get_or (set l c x) k 0 ≡ pick y x (get_or l k 0)
  by true e = subst (λ (j : ℕ). get_or (set l c x) j 0 ≡ x) (sym (eqb-true k c e)) (get_or-set_same l c x 0 h)
  by false e = get_or-set_other l c k x 0 (eqb-false k c e)

module _ {f : ℕ → ℕ} {s t : List ℕ} {ks kt : Keys} (like : NamesLike f s t ks kt) (key : Span) (alike : part s key.start key.end ≡ part t (f key.start) (f key.end)) where
  -- two tests that agree have the same first hit
  oldest_move : oldest_of t kt.starts kt.ends ks.count (f key.start) (f key.end) ≡ oldest_of s ks.starts ks.ends ks.count key.start key.end
  unfolding oldest_of same_key
  oldest_move = first_same _ _ ks.count same where
    first_same : (p q : ℕ → Bool) (n : ℕ) → ((k : ℕ) → k < n → p k ≡ q k) → first_to p 0 n ≡ first_to q 0 n
    first_same p q n all =
        let g = to_first q 0 n (omega arith) in
        first_only p 0 n (first_to p 0 n) (first_to q 0 n) (to_first p 0 n (omega arith))
        (record { ahead = omega arith; inside = g.inside; found = λ h. all _ h ∙ g.found h; before = λ k lo hi. all k (omega (arith, g.inside)) ∙ g.before k lo hi })

    same : (k : ℕ) → k < ks.count
        → same_key t kt.starts kt.ends (f key.start) (f key.end) k ≡ same_key s ks.starts ks.ends key.start key.end k
    same k h = rw (like.bytes k h, alike)

  earlier_move : earlier_in t kt (move_span f key) ≡ move_earlier f (earlier_in s ks key)
  earlier_move = rw like.count (by (ltb oldest ks.count) refl) where
    oldest : ℕ
    oldest = oldest_of s ks.starts ks.ends ks.count key.start key.end

    by : (x : Bool) → ltb oldest ks.count ≡ x
        → earlier_of t kt.starts kt.ends ks.count (f key.start) (f key.end) ≡ move_earlier f (earlier_in s ks key)
    by true e =
        let h = ltb-true _ _ e in
        earlier_at t _ _ _ _ _ _ oldest_move h ∙ ap Some (like.start _ h) ∙ sym (ap (move_earlier f) (earlier_at s _ _ _ _ _ _ refl h))
    by false e =
        let h = ltb-false _ _ e in
        earlier_past t _ _ _ _ _ _ oldest_move h ∙ sym (ap (move_earlier f) (earlier_past s _ _ _ _ _ _ refl h))

  by_move : (e : Option ℕ) → checked_by kt.count (move_earlier f e) ≡ move_checked f (checked_by ks.count e)
  unfolding checked_by
  by_move (Some p) = refl
  by_move None = rw like.count (pick_ap (move_checked f) (ltb ks.count capacity) (Ok (ks.count + 1)) (Err Full))

  -- the verdict
  pub check_move : (checks : Bool) → check_of t checks kt (move_span f key) ≡ move_checked f (check_of s checks ks key)
  unfolding check_of checked_of
  check_move true = rw earlier_move (by_move _)
  check_move false = ap Ok like.count

module _ {f : ℕ → ℕ} {s t : List ℕ} {ks kt : Keys} (like : KeysLike f s t ks kt) (key : Span) (alike : part s key.start key.end ≡ part t (f key.start) (f key.end)) where
  -- one key more, at index count
  added_names : ks.count < capacity → NamesLike f s t
      (record { starts = set ks.starts ks.count key.start; ends = set ks.ends ks.count key.end; hashes = set ks.hashes ks.count (hash_of (part s key.start key.end)); count = ks.count + 1 })
      (record { starts = set kt.starts kt.count (f key.start); ends = set kt.ends kt.count (f key.end); hashes = set kt.hashes kt.count (hash_of (part t (f key.start) (f key.end))); count = ks.count + 1 })
  unfolding name_at
  added_names h =
      record {
        count = refl;
        start = λ k l. rw (like.names.count, set_pick kt.starts ks.count (f key.start) k (omega arith), set_pick ks.starts ks.count key.start k (omega arith)) (start_by k l (eqb k ks.count) refl);
        bytes = λ k l.
            rw (
              like.names.count,
              set_pick kt.starts ks.count (f key.start) k (omega arith),
              set_pick ks.starts ks.count key.start k (omega arith),
              set_pick kt.ends ks.count (f key.end) k (omega arith),
              set_pick ks.ends ks.count key.end k (omega arith),
            ) (bytes_by k l (eqb k ks.count) refl);
      } where
        below : (k : ℕ) → k < ks.count + 1 → eqb k ks.count ≡ false → k < ks.count
        below k l e = let ne : k ≡ ks.count → ⊥ = eqb-false k ks.count e in omega arith

        start_by : (k : ℕ) → k < ks.count + 1 → (x : Bool) → eqb k ks.count ≡ x
            → pick x (f key.start) (get_or kt.starts k 0) ≡ f (pick x key.start (get_or ks.starts k 0))
        start_by k l true e = refl
        start_by k l false e = like.names.start k (below k l e)

        bytes_by : (k : ℕ) → k < ks.count + 1 → (x : Bool) → eqb k ks.count ≡ x
            → part s (pick x key.start (get_or ks.starts k 0)) (pick x key.end (get_or ks.ends k 0)) ≡ part t (pick x (f key.start) (get_or kt.starts k 0)) (pick x (f key.end) (get_or kt.ends k 0))
        bytes_by k l true e = alike
        bytes_by k l false e = like.names.bytes k (below k l e)

  -- the keys that the verdict leaves
  pub kept_move : (checks : Bool)
      → KeysLike f s t (kept_by s checks ks key (check_of s checks ks key)) (kept_by t checks kt (move_span f key) (move_checked f (check_of s checks ks key)))
  unfolding check_of checked_of checked_by kept_by written_by count_by
  kept_move false = record { names = record { count = refl; start = like.names.start; bytes = like.names.bytes }; room_s = like.room_s; room_t = like.room_t }
  kept_move true = by (earlier_in s ks key) _ refl where
    by : (e : Option ℕ) (b : Bool) → ltb ks.count capacity ≡ b
        → KeysLike f s t (kept_by s true ks key (checked_by ks.count e)) (kept_by t true kt (move_span f key) (move_checked f (checked_by ks.count e)))
    by (Some p) b h = like
    by None true h =
        rw h
        (record {
          names = added_names (ltb-true _ _ h);
          room_s = (rw length-set like.room_s.0, rw length-set like.room_s.1);
          room_t = (rw length-set like.room_t.0, rw length-set like.room_t.1);
        })
    by None false h = rw h like
