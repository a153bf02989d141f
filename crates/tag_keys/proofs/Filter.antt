-- No filter can change what the search finds: for every function of the bytes, on every tag and every table, names with one
-- number included. Keys with the same bytes have the same number, so none of them is passed over.
use Prim.Native.Nat.{ℕ, ◌≤◌, ◌<◌}
use mathlib.Core.Path.{◌≡◌, refl, sym, ap, fun_ext, ◌∙◌}
use mathlib.Core.Bool.{Bool, true, false, ◌&&◌}
use mathlib.Core.List.{List}
use native.Mathlib.Omega.{arith}
use lib.ListN.{get_or}
use borrow.Author.Tests.{eq-eqb, lt-ltb, le-ltb}
use Rattle.std.proofs.Common.{Some, None}
use Rattle.scan.specs.First.{first_to}
use Rattle.scan.specs.Bytes.{part}
use Rattle.scan.proofs.Laws.{to_first, to_skip}
use Rattle.scan.proofs.Bytes.{and_off, same_eq}
use Rattle.tag_keys.specs.Keys.{name_at, hash_is, same_key, oldest_of, earlier_of}
use Rattle.tag_keys.specs.Filter.{passes, filtered_oldest, filtered_of}

module _ (h : List ℕ → ℕ) (tag starts ends : List ℕ) (from to : ℕ) where
  -- whether the search behind a filter stops at an index
  abbrev pub stops : ℕ → Bool
  stops k = passes h tag starts ends from to k && same_key tag starts ends from to k

  same_passes : (k : ℕ) → same_key tag starts ends from to k ≡ true → passes h tag starts ends from to k ≡ true
  unfolding same_key passes
  same_passes k e =
      eq-eqb (h (name_at tag starts ends k)) (h (part tag from to)) (ap h (same_eq (name_at tag starts ends k) (part tag from to) e))

  filter_at : (k : ℕ) → stops k ≡ same_key tag starts ends from to k
  filter_at k = by (same_key tag starts ends from to k) refl where
    by : (t : Bool) → same_key tag starts ends from to k ≡ t → (passes h tag starts ends from to k && t) ≡ t
    by true e = rw (same_passes k e)
    by false e = off (passes h tag starts ends from to k) where
      off : (t : Bool) → (t && false) ≡ false
      off true = refl
      off false = refl

  -- the key that is compared next, by its bytes
  pub stops_by : (k : ℕ) (t : Bool) → same_key tag starts ends from to k ≡ t → stops k ≡ t
  stops_by k t e = filter_at k ∙ e

  module _ (count : ℕ) where
    oldest_agrees : filtered_oldest h tag starts ends count from to ≡ oldest_of tag starts ends count from to
    unfolding filtered_oldest oldest_of
    oldest_agrees = ap (λ (p : ℕ → Bool). first_to p 0 count) (fun_ext filter_at)

    -- The search behind a filter answers as the plain one does.
    pub filtered_agrees : filtered_of h tag starts ends count from to ≡ earlier_of tag starts ends count from to
    unfolding filtered_of earlier_of
    filtered_agrees = rw oldest_agrees

    -- What the code goes by: the hash that is kept beside each key is h of its bytes.
    module _ (hashes : List ℕ) (kept : (k : ℕ) → k < count → get_or hashes k 0 ≡ h (name_at tag starts ends k)) (hash : ℕ) (own : hash ≡ h (part tag from to)) where
      kept_passes : (k : ℕ) → k < count → hash_is hashes hash k ≡ passes h tag starts ends from to k
      unfolding hash_is passes
      kept_passes k lt = rw (kept k lt, own)

      -- keys with another hash are passed over
      pub over_hashes : (k i : ℕ) → k ≤ count → i ≡ first_to (hash_is hashes hash) k count → first_to stops k count ≡ first_to stops i count
      over_hashes k i le e =
          let first = to_first (hash_is hashes hash) k count le in
          to_skip stops k i count (omega (arith, first.ahead)) (omega (arith, first.inside))
          (λ n lo hi.
          let low : n < first_to (hash_is hashes hash) k count = omega arith in
          sym (and_off (same_key tag starts ends from to n) (sym (kept_passes n (omega (arith, first.inside))) ∙ first.before n lo low)))

    -- where the search stops
    module _ (k : ℕ) (here : first_to stops 0 count ≡ k) where
      pub stops_at : k < count → Some (get_or starts k 0) ≡ earlier_of tag starts ends count from to
      unfolding filtered_of filtered_oldest
      stops_at lt = sym (rw (here, lt-ltb k count lt)) ∙ filtered_agrees

      pub stops_past : count ≤ k → None ≡ earlier_of tag starts ends count from to
      unfolding filtered_of filtered_oldest
      stops_past le = sym (rw (here, le-ltb k count le)) ∙ filtered_agrees
