-- The hash over the bytes that are left of a list, byte by byte.
use Prim.Native.Nat.{ℕ, ◌+◌, ◌≤◌, ◌<◌}
use mathlib.Core.Path.{◌≡◌, refl, ap}
use mathlib.Core.List.{List}
use native.Mathlib.Numerals.{add-one}
use lib.ListN.{length, get_or, drop}
use lib.Bits.{bit_xor}
use lib.Seq.{drop-cons}
use Rattle.std.proofs.lemmas.List.{drop_all}
use Rattle.tag_keys.specs.Hash.{times_prime, hash_from}

module _ (xs : List ℕ) (i : ℕ) where
  -- one byte on, by what the code reads and makes
  pub hash_more : (h b : ℕ) → i < length xs → b ≡ get_or xs i 0 → hash_from (times_prime (bit_xor b h)) (drop (i + 1) xs) ≡ hash_from h (drop i xs)
  unfolding hash_from
  hash_more h b lt e = rw (e, drop-cons xs i 0 lt, add-one i) refl

  -- none is left
  pub hash_none : (h : ℕ) → length xs ≤ i → hash_from h (drop i xs) ≡ h
  unfolding hash_from
  hash_none h le = ap (hash_from h) (drop_all i xs le)
