-- The sieve: a small set of bits in front of the kept hashes, in which the bit of each of them is set. A hash whose bit is not set is
-- that of no recorded key; one whose bit is set may be.
use Rattle.std.specs.Prelude.{ℕ, zero, suc, ◌/◌, ◌%◌, ◌^◌, ◌≡◌, Bool, true, List, get_or, set, replicate, eqb}
use Rattle.std.specs.Int.Bits.{bit_or}
use Rattle.scan.specs.First.{pick}

-- how many words of 64 bits there are
abbrev pub sieve_words : ℕ
sieve_words = 32

-- the word of a hash; in it, its bit is the one that the hash's last six bits number
unfoldable pub sieve_word : ℕ → ℕ
sieve_word hash = hash / 64 % sieve_words

unfoldable pub in_sieve : List ℕ → ℕ → Bool
in_sieve sieve hash = eqb (get_or sieve (sieve_word hash) 0 / 2 ^ (hash % 64) % 2) 1

-- with the bit of one hash more
unfoldable pub sieved : List ℕ → ℕ → List ℕ
sieved sieve hash = set sieve (sieve_word hash) (bit_or (get_or sieve (sieve_word hash) 0) (2 ^ (hash % 64)))

unfoldable pub empty_sieve : List ℕ
empty_sieve = replicate sieve_words 0

-- those of the first n hashes
unfoldable pub sieve_of : List ℕ → ℕ → List ℕ
sieve_of hashes zero = empty_sieve
sieve_of hashes (suc n) = sieved (sieve_of hashes n) (get_or hashes n 0)

-- While checks are on the sieve is that of the kept hashes. Nothing is asked of it while they are off.
pub record SieveOf (checks : Bool) (sieve hashes : List ℕ) (count : ℕ) : Type 0 where
  pub all : checks ≡ true → sieve ≡ sieve_of hashes count

-- the sieve that is left where so many hashes are kept: it stays as it is while checks are off
abbrev pub sieve_left : Bool → (sieve hashes : List ℕ) → ℕ → List ℕ
sieve_left checks sieve hashes count = pick checks (sieve_of hashes count) sieve

-- the sieve after a new key: no key is recorded while checks are off
abbrev pub sieved_in : Bool → List ℕ → ℕ → List ℕ
sieved_in checks sieve hash = pick checks (sieved sieve hash) sieve
