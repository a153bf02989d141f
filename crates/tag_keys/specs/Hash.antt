-- FNV-1a with 32 bits (document 02, request 7): from its first number on, each byte is put in by exclusive or, and the sum is
-- multiplied by the factor, of which the lower 32 bits are kept.
use Rattle.std.specs.Prelude.{ℕ, ◌*◌, ◌%◌, List, [], ◌∷◌}
use Rattle.std.specs.Int.Bits.{bit_xor}

-- one more than the largest number of 32 bits
abbrev pub hash_range : ℕ
hash_range = 4294967296

-- a number times the factor, with everything above 32 bits dropped
unfoldable pub times_prime : ℕ → ℕ
times_prime x = x * 16777619 % hash_range

-- going on from h, over bytes that are left
unfoldable pub hash_from : ℕ → List ℕ → ℕ
hash_from h [] = h
hash_from h (b ∷ more) = hash_from (times_prime (bit_xor b h)) more

unfoldable pub hash_of : List ℕ → ℕ
hash_of name = hash_from 2166136261 name
