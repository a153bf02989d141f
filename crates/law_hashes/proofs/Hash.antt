-- No hash can change a verdict: the crate's way and the plain search agree for every function from names to numbers,
-- names that collide included, on every tag and every table, one check after another. A set that holds the hash of every
-- recorded name lacks a key's hash only where no recorded key has its bytes; and each check leaves such a set.
use Prim.Native.Nat.{ℕ, ◌+◌, ◌≤◌, ◌<◌}
use mathlib.Core.Path.{◌≡◌, refl, sym, ap, ◌∙◌}
use mathlib.Core.Bool.{Bool, true, false, ◌||◌, true≢false}
use mathlib.Core.Logic.{⊎_elim}
use mathlib.Core.List.{List, [], ◌∷◌}
use native.Mathlib.Nat.{eq-or-lt_of_le}
use native.Mathlib.Omega.{arith}
use lib.ListN.{length, set}
use lib.Seq.{get_or-set_same, get_or-set_other}
use lib.Dec.{eqb, ltb, leb}
use borrow.Author.Tests.{lt-ltb, ltb-true, ltb-false, leb-true, leb-false, eq-eqb}
use Rattle.std.proofs.Common.{Option, Some, None, Result, Ok, Err}
use Rattle.scan.specs.First.{first_to, pick}
use Rattle.scan.specs.Bytes.{part}
use Rattle.scan.proofs.Laws.{IsFirst, to_first}
use Rattle.tag_keys.specs.declared.KeyRefusal.{KeyRefusal}
use Rattle.tag_keys.specs.declared.KeyRefusal.TheVariants.{Full}
use Rattle.tag_keys.specs.Keys.{capacity, name_at, earlier_of, checked_by, checked_of, written_by, count_by}
use Rattle.law_hashes.specs.Hash.{Hashes, unset, held, insert, Room, Key, seeded, asked, hashed_earlier_of, Covers, crate_earlier_of, hashes_after, Kept, crate_checks_of, checks_of}
use Rattle.tag_keys.proofs.Laws.{earlier_none, written_length}

-- a set keeps what it holds
pub insert_keeps : (s : ℕ → Bool) (x y : ℕ) → s y ≡ true → insert s x y ≡ true
unfolding insert
insert_keeps s x y e = by (eqb x y) where
  by : (t : Bool) → (t || s y) ≡ true
  by true = refl
  by false = e

-- and holds what was inserted
pub insert_has : (s : ℕ → Bool) (x y : ℕ) → x ≡ y → insert s x y ≡ true
unfolding insert
insert_has s x y e = rw (eq-eqb x y e)

-- a recorded name stays where another place is written
name_other : (tag starts ends : List ℕ) (count from to k : ℕ) → k < count → name_at tag (set starts count from) (set ends count to) k ≡ name_at tag starts ends k
unfolding name_at
name_other tag starts ends count from to k lt =
    let n : k ≡ count → ⊥ = λ e. omega arith in
    rw (get_or-set_other starts count k from 0 n, get_or-set_other ends count k to 0 n)

name_new : (tag starts ends : List ℕ) (count from to : ℕ) → count < length starts → count < length ends → name_at tag (set starts count from) (set ends count to) count ≡ part tag from to
unfolding name_at
name_new tag starts ends count from to hs he = rw (get_or-set_same starts count from 0 hs, get_or-set_same ends count to 0 he)

-- a test that one of the positions passes is passed first at a position among them
first_below : (p : ℕ → Bool) (n k : ℕ) → k < n → p k ≡ true → first_to p 0 n < n
first_below p n k lt t = by (ltb k (first_to p 0 n)) refl where
  f : IsFirst p 0 n (first_to p 0 n)
  f = to_first p 0 n (omega arith)

  by : (b : Bool) → ltb k (first_to p 0 n) ≡ b → first_to p 0 n < n
  by true e = absurd (true≢false (sym t ∙ f.before k (omega arith) (ltb-true k (first_to p 0 n) e)))
  by false e =
      let le = ltb-false k (first_to p 0 n) e in
      omega arith

-- no verdict makes the recorded keys fewer
count_grows : (count : ℕ) (e : Option ℕ) → count ≤ count_by (checked_by count e) count
unfolding checked_by count_by
count_grows count (Some p) = omega arith
count_grows count None = by (ltb count capacity) where
  by : (t : Bool) → count ≤ count_by (pick t (Ok (count + 1)) (Err Full)) count
  by true = omega arith
  by false = omega arith

-- no verdict takes places away
room_after : (v : Result ℕ KeyRefusal) (starts ends : List ℕ) (count from to : ℕ) → Room starts ends → Room (written_by true v starts count from) (written_by true v ends count to)
room_after v starts ends count from to r =
    record { places = (omega (arith, r.places, written_length true v starts count from), omega (arith, r.places, written_length true v ends count to)) }

module _ (h : List ℕ → ℕ) where
  -- more in the set does no harm
  pub covers_insert : (s : ℕ → Bool) (x : ℕ) (tag starts ends : List ℕ) (count : ℕ) → Covers h s tag starts ends count → Covers h (insert s x) tag starts ends count
  covers_insert s x tag starts ends count c = record { has = λ k lt. insert_keeps s x (h (name_at tag starts ends k)) (c.has k lt) }

  -- a key is recorded and its hash inserted
  pub covers_more : (s : ℕ → Bool) (tag starts ends : List ℕ) (count from to : ℕ) → count < length starts → count < length ends → Covers h s tag starts ends count → Covers h (insert s (h (part tag from to))) tag (set starts count from) (set ends count to) (count + 1)
  covers_more s tag starts ends count from to hs he c =
      record { has = λ k lt. ⊎_elim (λ (e : k ≡ count). last k e) (λ (l : k < count). rest k l) (eq-or-lt_of_le (below k lt)) } where
        below : (k : ℕ) → k < count + 1 → k ≤ count
        below k lt = omega arith

        last : (k : ℕ) → k ≡ count → insert s (h (part tag from to)) (h (name_at tag (set starts count from) (set ends count to) k)) ≡ true
        last k e = rw (e, name_new tag starts ends count from to hs he) (insert_has s (h (part tag from to)) (h (part tag from to)) refl)

        rest : (k : ℕ) → k < count → insert s (h (part tag from to)) (h (name_at tag (set starts count from) (set ends count to) k)) ≡ true
        rest k l = rw (name_other tag starts ends count from to k l) (insert_keeps s (h (part tag from to)) (h (name_at tag starts ends k)) (c.has k l))

  -- below the threshold there is no set, and none comes to be
  no_set : (small : ℕ) (s : Hashes) (tag starts ends : List ℕ) (count : ℕ) → Kept h small s tag starts ends count → count < small → (starts' ends' : List ℕ) (n : ℕ) → Kept h small s tag starts' ends' n
  no_set small unset tag starts ends count kept lt starts' ends' n = tt
  no_set small (held s) tag starts ends count kept lt starts' ends' n = absurd (omega (arith, kept.0))

  -- On a set that holds the hash of every recorded name, the hash decides nothing.
  pub any_hash_agrees : (s : ℕ → Bool) (tag starts ends : List ℕ) (count from to : ℕ) → Covers h s tag starts ends count → hashed_earlier_of h s tag starts ends count from to ≡ earlier_of tag starts ends count from to
  unfolding hashed_earlier_of
  any_hash_agrees s tag starts ends count from to c = by (s (h (part tag from to))) refl where
    by : (t : Bool) → s (h (part tag from to)) ≡ t → pick t (earlier_of tag starts ends count from to) None ≡ earlier_of tag starts ends count from to
    by true e = refl
    by false e =
        sym (earlier_none tag starts ends count from to
        (λ k lt same. true≢false (sym (c.has k lt) ∙ ap (λ (n : List ℕ). s (h n)) same ∙ e)))

  -- the seeded set holds them
  pub seeded_covers : (tag starts ends : List ℕ) (count : ℕ) → Covers h (seeded h tag starts ends count) tag starts ends count
  unfolding seeded
  seeded_covers tag starts ends count =
      record {
        has = λ k lt.
            (let p : ℕ → Bool = λ j. eqb (h (name_at tag starts ends j)) (h (name_at tag starts ends k)) in
            lt-ltb (first_to p 0 count) count (first_below p count k lt (eq-eqb (h (name_at tag starts ends k)) (h (name_at tag starts ends k)) refl)));
      }

  -- the set that is asked holds them
  pub asked_covers : (small : ℕ) (s : Hashes) (tag starts ends : List ℕ) (count : ℕ) → Kept h small s tag starts ends count → Covers h (asked h s tag starts ends count) tag starts ends count
  unfolding asked
  asked_covers small unset tag starts ends count k = seeded_covers tag starts ends count
  asked_covers small (held s) tag starts ends count k = k.1

  -- Whatever the verdict, the set with the key's hash holds the hash of every name that is recorded then.
  pub covers_after : (s : ℕ → Bool) (tag starts ends : List ℕ) (count from to : ℕ) (e : Option ℕ) → Room starts ends → Covers h s tag starts ends count →
      let v = checked_by count e in
      Covers h (insert s (h (part tag from to))) tag (written_by true v starts count from) (written_by true v ends count to) (count_by v count)
  unfolding checked_by written_by count_by
  covers_after s tag starts ends count from to (Some p) r c = covers_insert s (h (part tag from to)) tag starts ends count c
  covers_after s tag starts ends count from to None r c = by (ltb count capacity) refl where
    by : (t : Bool) → ltb count capacity ≡ t →
        let v = pick t (Ok (count + 1)) (Err Full) in
        Covers h (insert s (h (part tag from to))) tag (written_by true v starts count from) (written_by true v ends count to) (count_by v count)
    by true f =
        let few = ltb-true count capacity f in
        let places = r.places in
        covers_more s tag starts ends count from to (omega arith) (omega arith) c
    by false f = covers_insert s (h (part tag from to)) tag starts ends count c

  module _ (small : ℕ) (s : Hashes) (tag starts ends : List ℕ) (count from to : ℕ) (kept : Kept h small s tag starts ends count) where
    -- The crate finds the earlier key that the plain search finds, at every threshold.
    pub crate_way_agrees : crate_earlier_of h small s tag starts ends count from to ≡ earlier_of tag starts ends count from to
    unfolding crate_earlier_of
    crate_way_agrees = by (leb small count) where
      by : (t : Bool) → pick t (hashed_earlier_of h (asked h s tag starts ends count) tag starts ends count from to) (earlier_of tag starts ends count from to) ≡ earlier_of tag starts ends count from to
      by true = any_hash_agrees (asked h s tag starts ends count) tag starts ends count from to (asked_covers small s tag starts ends count kept)
      by false = refl

    -- After each check the crate's set still holds the hash of every recorded name.
    pub crate_way_keeps : Room starts ends →
        let v = checked_of tag true starts ends count from to in
        Kept h small (hashes_after h small s tag starts ends count from to) tag (written_by true v starts count from) (written_by true v ends count to) (count_by v count)
    unfolding hashes_after checked_of
    crate_way_keeps r = by (leb small count) refl where
      by : (t : Bool) → leb small count ≡ t →
          let v = checked_by count (earlier_of tag starts ends count from to) in
          Kept h small (pick t (held (insert (asked h s tag starts ends count) (h (part tag from to)))) s) tag (written_by true v starts count from) (written_by true v ends count to) (count_by v count)
      by true e =
          let le = leb-true small count e in
          let up = count_grows count (earlier_of tag starts ends count from to) in
          (omega arith, covers_after (asked h s tag starts ends count) tag starts ends count from to (earlier_of tag starts ends count from to) r (asked_covers small s tag starts ends count kept))
      by false e =
          let v = checked_by count (earlier_of tag starts ends count from to) in
          no_set small s tag starts ends count kept (leb-false small count e) (written_by true v starts count from) (written_by true v ends count to) (count_by v count)

  -- However many keys are checked one after another, each verdict of the crate's way is the plain one.
  pub crate_run_agrees : (small : ℕ) (ks : List Key) (s : Hashes) (tag starts ends : List ℕ) (count : ℕ) → Kept h small s tag starts ends count → Room starts ends → crate_checks_of h small ks s tag starts ends count ≡ checks_of ks tag starts ends count
  unfolding crate_checks_of checks_of checked_of
  crate_run_agrees small [] s tag starts ends count kept r = refl
  crate_run_agrees small (k ∷ ks) s tag starts ends count kept r =
      let v = checked_of tag true starts ends count k.from k.to in
      rw (crate_way_agrees small s tag starts ends count k.from k.to kept)
      (ap (λ (vs : List (Result ℕ KeyRefusal)). v ∷ vs)
      (crate_run_agrees small ks (hashes_after h small s tag starts ends count k.from k.to) tag (written_by true v starts count k.from) (written_by true v ends count k.to) (count_by v count)
      (crate_way_keeps small s tag starts ends count k.from k.to kept r)
      (room_after v starts ends count k.from k.to r)))
