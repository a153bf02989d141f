-- The numbers of a record.
use Rattle.std.specs.Prelude.{ℕ, zero, suc, ◌+◌, ◌*◌, List, [], ◌∷◌, drop, get_or}

abbrev pub byte_at : List ℕ → ℕ → ℕ
byte_at s at = get_or s at 0

-- a number of two bytes, the lower one first
abbrev pub two_at : List ℕ → ℕ → ℕ
two_at s at = byte_at s at + 256 * byte_at s (at + 1)

-- the first n of them
unfoldable pub twos_of : ℕ → List ℕ → List ℕ
twos_of zero s = []
twos_of (suc n) s = two_at s 0 ∷ twos_of n (drop 2 s)
