-- The theorems on hashes applied where every name collides with every other of its length: the hash of a name is its length,
-- the set is asked from the second recorded key on.
use Prim.Native.Nat.{ℕ, zero, suc, ◌-◌, ◌<◌}
use mathlib.Core.Path.{◌≡◌, refl}
use mathlib.Core.Bool.{Bool, true}
use mathlib.Core.List.{List, [], ◌∷◌}
use native.Mathlib.Omega.{arith}
use lib.ListN.{length, replicate}
use lib.Dec.{eqb}
use Rattle.std.proofs.Common.{Some, None, Ok, Err}
use Rattle.scan.specs.First.{first_of, first_to}
use Rattle.scan.specs.Bytes.{part, same_bytes, bytes_from, bytes}
use Rattle.tag_keys.specs.declared.KeyRefusal.TheVariants.{Same}
use Rattle.tag_keys.specs.Keys.{capacity, name_at, same_key, oldest_of, earlier_of, checked_by, checked_of, written_by, count_by}
use Rattle.law_hashes.specs.Hash.{unset, held, insert, Key, asked, hashed_earlier_of, Covers, crate_earlier_of, hashes_after, crate_checks_of, checks_of}
use Rattle.law_hashes.proofs.Hash.{any_hash_agrees, crate_way_agrees, crate_way_keeps, crate_run_agrees}

abbrev hash : List ℕ → ℕ
hash name = length name

-- the keys a, b, c, a and bb
abbrev tag : List ℕ
tag = bytes "a b c a bb"

-- tables of the capacity's size, in which a and b are recorded
abbrev starts : List ℕ
starts = 0 ∷ 2 ∷ replicate (capacity - 2) 0

abbrev ends : List ℕ
ends = 1 ∷ 3 ∷ replicate (capacity - 2) 0

-- a set that holds the number 1 and no other: the hash of both
abbrev ones : ℕ → Bool
ones x = eqb x 1

ones_cover : Covers hash ones tag starts ends 2
unfolding name_at part bytes bytes_from
ones_cover = record { has = by } where
  by : (k : ℕ) → k < 2 → ones (hash (name_at tag starts ends k)) ≡ true
  by zero h = refl
  by (suc zero) h = refl
  by (suc (suc k)) h = absurd (omega arith)

-- c has the same hash and is new all the same; a is found; the hash of bb is not in the set
pub any_hash_example :
    (hashed_earlier_of hash ones tag starts ends 2 4 5 ≡ None)
    × (hashed_earlier_of hash ones tag starts ends 2 6 7 ≡ Some 0)
    × (hashed_earlier_of hash ones tag starts ends 2 8 10 ≡ None)
unfolding first_of first_to part same_bytes bytes_from bytes name_at same_key oldest_of earlier_of
any_hash_example = (
  any_hash_agrees hash ones tag starts ends 2 4 5 ones_cover,
  any_hash_agrees hash ones tag starts ends 2 6 7 ones_cover,
  any_hash_agrees hash ones tag starts ends 2 8 10 ones_cover,
)

-- with no set yet, and with that one
pub crate_way_example : (crate_earlier_of hash 2 unset tag starts ends 2 6 7 ≡ Some 0) × (crate_earlier_of hash 2 (held ones) tag starts ends 2 4 5 ≡ None)
unfolding first_of first_to part same_bytes bytes_from bytes name_at same_key oldest_of earlier_of
crate_way_example = (
  crate_way_agrees hash 2 unset tag starts ends 2 6 7 tt,
  crate_way_agrees hash 2 (held ones) tag starts ends 2 4 5 (omega arith, ones_cover),
)

-- c is recorded third, and the set after that holds the hash of all three
pub crate_keeps_example : (k : ℕ) → k < 3 → insert ones (hash (bytes "c")) (hash (name_at tag (0 ∷ 2 ∷ 4 ∷ replicate (capacity - 3) 0) (1 ∷ 3 ∷ 5 ∷ replicate (capacity - 3) 0) k)) ≡ true
unfolding first_of first_to part same_bytes bytes_from bytes name_at same_key oldest_of earlier_of checked_by checked_of written_by count_by asked hashes_after
crate_keeps_example = (crate_way_keeps hash 2 (held ones) tag starts ends 2 4 5 (omega arith, ones_cover) (record { places = (omega arith, omega arith) })).1.has

abbrev key : ℕ → ℕ → Key
key from to = record { from = from; to = to }

-- all five, from no recorded keys: the fourth is the first again
pub crate_run_example : crate_checks_of hash 2 (key 0 1 ∷ key 2 3 ∷ key 4 5 ∷ key 6 7 ∷ key 8 10 ∷ []) unset tag (replicate capacity 0) (replicate capacity 0) 0 ≡ Ok 1 ∷ Ok 2 ∷ Ok 3 ∷ Err (Same 0) ∷ Ok 4 ∷ []
unfolding first_of first_to part same_bytes bytes_from bytes name_at same_key oldest_of earlier_of checked_by checked_of written_by count_by checks_of
crate_run_example = crate_run_agrees hash 2 (key 0 1 ∷ key 2 3 ∷ key 4 5 ∷ key 6 7 ∷ key 8 10 ∷ []) unset tag (replicate capacity 0) (replicate capacity 0) 0 tt (record { places = (omega arith, omega arith) })
