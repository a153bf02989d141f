-- The search behind a filter is the plain one for each of the three hashes: they are cases of `filtered_agrees`. Then names that
-- have one number: both pass the filter, and the bytes tell them apart.
use Prim.Native.Nat.{ℕ, ◌+◌}
use Prim.Native.String.{String}
use mathlib.Core.Path.{◌≡◌, refl}
use mathlib.Core.Bool.{true}
use mathlib.Core.List.{List, [], ◌∷◌, ◌++◌}
use native.Mathlib.Nat.{mod-lt}
use native.Mathlib.Omega.{arith}
use lib.ListN.{length}
use Rattle.std.proofs.Common.{Some, None}
use Rattle.scan.specs.First.{first_of, first_to}
use Rattle.scan.specs.Bytes.{part, same_bytes, bytes_from, bytes}
use Rattle.tag_keys.specs.Hash.{times_prime, hash_from, hash_of}
use Rattle.tag_keys.specs.Keys.{name_at, same_key, oldest_of, earlier_of}
use Rattle.tag_keys.specs.Filter.{passes, filtered_of}
use Rattle.tag_keys.proofs.Filter.{filtered_agrees}
use Rattle.law_hashes.specs.Hash.{Hashes, unset, seeded, asked, crate_earlier_of, Kept}
use Rattle.law_hashes.specs.Filter.{hash8, Hash64}
use Rattle.law_hashes.proofs.Hash.{crate_way_agrees}

module _ (tag starts ends : List ℕ) (count from to : ℕ) where
  -- by FNV-1a
  pub fnv_agrees : filtered_of hash_of tag starts ends count from to ≡ earlier_of tag starts ends count from to
  fnv_agrees = filtered_agrees hash_of tag starts ends from to count

  -- by FNV-1a cut to 8 bits
  pub cut_agrees : filtered_of hash8 tag starts ends count from to ≡ earlier_of tag starts ends count from to
  cut_agrees = filtered_agrees hash8 tag starts ends from to count

  -- by the crate's hash: a filter, and its set of hashes, which it asks from any number of recorded keys on
  pub crate_hash_agrees : (h : Hash64) (small : ℕ) (s : Hashes) → Kept h.of small s tag starts ends count →
      (filtered_of h.of tag starts ends count from to ≡ earlier_of tag starts ends count from to)
      × (crate_earlier_of h.of small s tag starts ends count from to ≡ earlier_of tag starts ends count from to)
  crate_hash_agrees h small s kept = (
    filtered_agrees h.of tag starts ends from to count,
    crate_way_agrees h.of small s tag starts ends count from to kept,
  )

-- FNV-1a of three texts, as its authors list them
pub hash_none : hash_of (bytes "") ≡ 0x811c9dc5
unfolding bytes bytes_from hash_from hash_of
hash_none = refl

pub hash_a : hash_of (bytes "a") ≡ 0xe40c292c
unfolding bytes bytes_from times_prime hash_from hash_of
hash_a = refl

pub hash_foobar : hash_of (bytes "foobar") ≡ 0xbf9cf968
unfolding bytes bytes_from times_prime hash_from hash_of
hash_foobar = refl

-- Names with one number.

module _ (h : List ℕ → ℕ) (one other : String) where
  abbrev first : List ℕ
  first = bytes one

  abbrev second : List ℕ
  second = bytes other

  -- a tag with one name, the other, and the first again: where the second stands, and the third
  abbrev tag : List ℕ
  tag = first ++ 32 ∷ second ++ 32 ∷ first

  abbrev from : ℕ
  from = length first + 1

  abbrev to : ℕ
  to = from + length second

  abbrev again : ℕ
  again = to + 1

  abbrev starts : List ℕ
  starts = 0 ∷ from ∷ []

  abbrev ends : List ℕ
  ends = length first ∷ to ∷ []

  -- The two have one number under h. With the first recorded the second passes the filter, and is new all the same; with both
  -- recorded the third is found, and it is the first.
  pub record Apart : Type 0 where
    pub number : h first ≡ h second
    pub pass : passes h tag starts ends from to 0 ≡ true
    pub new : filtered_of h tag starts ends 1 from to ≡ None
    pub found : filtered_of h tag starts ends 2 again (again + length first) ≡ Some 0

-- four pairs under 8 bits
pub eight_bits_apart : Apart hash8 "m" "va" × Apart hash8 "c" "ib" × Apart hash8 "n" "vb" × Apart hash8 "b" "ic"
unfolding first_of first_to part same_bytes bytes_from bytes times_prime hash_from hash_of hash8 passes name_at same_key oldest_of earlier_of
eight_bits_apart = (
  record { number = refl; pass = refl; new = cut_agrees _ _ _ 1 _ _; found = cut_agrees _ _ _ 2 _ _ },
  record { number = refl; pass = refl; new = cut_agrees _ _ _ 1 _ _; found = cut_agrees _ _ _ 2 _ _ },
  record { number = refl; pass = refl; new = cut_agrees _ _ _ 1 _ _; found = cut_agrees _ _ _ 2 _ _ },
  record { number = refl; pass = refl; new = cut_agrees _ _ _ 1 _ _; found = cut_agrees _ _ _ 2 _ _ },
)

-- four pairs under all 32 bits
pub all_bits_apart : Apart hash_of "yaczf" "glbpp" × Apart hash_of "yzfzf" "geepp" × Apart hash_of "yomzf" "gvlpp" × Apart hash_of "gtbxf" "yicrp"
unfolding first_of first_to part same_bytes bytes_from bytes times_prime hash_from hash_of passes name_at same_key oldest_of earlier_of
all_bits_apart = (
  record { number = refl; pass = refl; new = fnv_agrees _ _ _ 1 _ _; found = fnv_agrees _ _ _ 2 _ _ },
  record { number = refl; pass = refl; new = fnv_agrees _ _ _ 1 _ _; found = fnv_agrees _ _ _ 2 _ _ },
  record { number = refl; pass = refl; new = fnv_agrees _ _ _ 1 _ _; found = fnv_agrees _ _ _ 2 _ _ },
  record { number = refl; pass = refl; new = fnv_agrees _ _ _ 1 _ _; found = fnv_agrees _ _ _ 2 _ _ },
)

-- The crate's set with a hash of 8 bits, asked from the first recorded key on: it holds the number of va where m alone is recorded,
-- and the crate finds no va there; m it finds.

eight_bits : Hash64
unfolding hash8
eight_bits = record { of = hash8; fits = λ name. omega (arith, mod-lt (hash_of name) {m = 256} (omega arith)) }

pub crate_hash_example :
    (asked hash8 unset (bytes "m va m") (0 ∷ []) (1 ∷ []) 1 (hash8 (bytes "va")) ≡ true)
    × (crate_earlier_of hash8 1 unset (bytes "m va m") (0 ∷ []) (1 ∷ []) 1 2 4 ≡ None)
    × (crate_earlier_of hash8 1 unset (bytes "m va m") (0 ∷ 2 ∷ []) (1 ∷ 4 ∷ []) 2 5 6 ≡ Some 0)
unfolding eight_bits first_of first_to part same_bytes bytes_from bytes times_prime hash_from hash_of hash8 name_at same_key oldest_of earlier_of seeded asked
crate_hash_example = (
  refl,
  (crate_hash_agrees (bytes "m va m") (0 ∷ []) (1 ∷ []) 1 2 4 eight_bits 1 unset tt).1,
  (crate_hash_agrees (bytes "m va m") (0 ∷ 2 ∷ []) (1 ∷ 4 ∷ []) 2 5 6 eight_bits 1 unset tt).1,
)
