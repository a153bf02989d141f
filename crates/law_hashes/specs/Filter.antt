-- Three hashes for the filter of specs/Filter.antt in `tag_keys`, which takes any: FNV-1a (`hash_of` there), the same cut to 8 bits,
-- so that many names have one number, and the crate's.
use Rattle.std.specs.Prelude.{ℕ, ◌%◌, ◌<◌, List}
use Rattle.tag_keys.specs.Hash.{hash_of}

-- FNV-1a cut to 8 bits
unfoldable pub hash8 : List ℕ → ℕ
hash8 name = hash_of name % 256

-- The crate's `hash_name`, src/events/attributes.rs, gives a `u64` for a name: which one, its library's hasher says. So it is any
-- function into numbers of 64 bits.
pub record Hash64 : Type 0 where
  pub of : List ℕ → ℕ
  pub fits : (name : List ℕ) → of name < 18446744073709551616
