-- The crate's way with many keys, for any function h from names to numbers: `check_for_duplicates` and
-- `check_for_duplicates_hashed`, src/events/attributes.rs. From a number of recorded keys on, `small`, a set of their
-- hashes is asked first. It is not ported; proofs/Hash.antt shows that it answers as the plain search does.
use Rattle.std.specs.Prelude.{ℕ, ◌≤◌, ◌<◌, ◌≡◌, Bool, true, ◌||◌, List, [], ◌∷◌, length, eqb, ltb, leb, Option, None, Result}
use Rattle.scan.specs.First.{first_to, pick}
use Rattle.scan.specs.Bytes.{part}
use Rattle.tag_keys.specs.declared.KeyRefusal.{KeyRefusal}
use Rattle.tag_keys.specs.Keys.{capacity, name_at, earlier_of, checked_by, checked_of, written_by, count_by}

-- `key_hashes`: no set until it is first needed, then a set of numbers, which says of each number whether it holds it
pub data Hashes : Type 0 where
  unset : Hashes
  held : (ℕ → Bool) → Hashes

-- a set with one number more: `HashSet::insert`
unfoldable pub insert : (ℕ → Bool) → ℕ → ℕ → Bool
insert s x y = eqb x y || s y

-- The crate's recorded keys are starts and ends, and no hash is kept beside them. Each list has a place for as many keys as may
-- ever be recorded.
pub record Room (starts ends : List ℕ) : Type 0 where
  pub places : (capacity ≤ length starts) × (capacity ≤ length ends)

-- the keys that are checked one after another
pub record Key : Type 0 where
  pub from : ℕ
  pub to : ℕ

module _ (h : List ℕ → ℕ) where
  -- the set that the crate seeds when the threshold is crossed: the hashes of the recorded names
  unfoldable pub seeded : List ℕ → List ℕ → List ℕ → ℕ → ℕ → Bool
  seeded tag starts ends count x = ltb (first_to (λ k. eqb (h (name_at tag starts ends k)) x) 0 count) count

  -- the set that is asked: `get_or_insert_with`
  unfoldable pub asked : Hashes → List ℕ → List ℕ → List ℕ → ℕ → ℕ → Bool
  asked unset tag starts ends count = seeded tag starts ends count
  asked (held s) tag starts ends count = s

  -- A hash that the set lacks: the key is new. On a hit the names are compared, oldest first.
  unfoldable pub hashed_earlier_of : (ℕ → Bool) → List ℕ → List ℕ → List ℕ → ℕ → ℕ → ℕ → Option ℕ
  hashed_earlier_of s tag starts ends count from to = pick (s (h (part tag from to))) (earlier_of tag starts ends count from to) None

  -- the set holds the hash of every recorded name; what else it holds does not matter
  pub record Covers (s : ℕ → Bool) (tag starts ends : List ℕ) (count : ℕ) : Type 0 where
    pub has : (k : ℕ) → k < count → s (h (name_at tag starts ends k)) ≡ true

  module _ (small : ℕ) where
    -- below the threshold the plain search, from it on the set
    unfoldable pub crate_earlier_of : Hashes → List ℕ → List ℕ → List ℕ → ℕ → ℕ → ℕ → Option ℕ
    crate_earlier_of s tag starts ends count from to =
        pick (leb small count)
        (hashed_earlier_of (asked s tag starts ends count) tag starts ends count from to)
        (earlier_of tag starts ends count from to)

    -- the set after a check: from the threshold on it takes the key's hash, on a hit as well
    unfoldable pub hashes_after : Hashes → List ℕ → List ℕ → List ℕ → ℕ → ℕ → ℕ → Hashes
    hashes_after s tag starts ends count from to =
        pick (leb small count) (held (insert (asked s tag starts ends count) (h (part tag from to)))) s

    -- what is so of the crate's set before and after every check: there is one only from the threshold on, and it
    -- holds the hash of every recorded name
    abbrev pub Kept : Hashes → List ℕ → List ℕ → List ℕ → ℕ → Type 0
    Kept unset tag starts ends count = Unit {0}
    Kept (held s) tag starts ends count = (small ≤ count) × Covers s tag starts ends count

    -- the verdicts on keys that are checked one after another, in the crate's way
    unfoldable pub crate_checks_of : List Key → Hashes → List ℕ → List ℕ → List ℕ → ℕ → List (Result ℕ KeyRefusal)
    crate_checks_of [] s tag starts ends count = []
    crate_checks_of (k ∷ ks) s tag starts ends count =
        let v = checked_by count (crate_earlier_of s tag starts ends count k.from k.to) in
        v ∷ crate_checks_of ks (hashes_after s tag starts ends count k.from k.to) tag (written_by true v starts count k.from) (written_by true v ends count k.to) (count_by v count)

-- and as they are here
unfoldable pub checks_of : List Key → List ℕ → List ℕ → List ℕ → ℕ → List (Result ℕ KeyRefusal)
checks_of [] tag starts ends count = []
checks_of (k ∷ ks) tag starts ends count =
    let v = checked_of tag true starts ends count k.from k.to in
    v ∷ checks_of ks tag (written_by true v starts count k.from) (written_by true v ends count k.to) (count_by v count)
