-- A filter before the search of the recorded keys, for any function h of the bytes: a recorded key whose number is another is
-- passed over, and one with the same number is compared byte by byte all the same. proofs/Filter.antt shows that it finds
-- what the plain search finds.
use Rattle.std.specs.Prelude.{ℕ, Bool, ◌&&◌, List, get_or, eqb, ltb, Option, Some, None}
use Rattle.scan.specs.First.{first_to, pick}
use Rattle.scan.specs.Bytes.{part}
use Rattle.tag_keys.specs.Keys.{name_at, same_key}

module _ (h : List ℕ → ℕ) where
  -- whether the recorded key at index k has the number of the key from `from` up to `to`
  unfoldable pub passes : (tag starts ends : List ℕ) (from to k : ℕ) → Bool
  passes tag starts ends from to k = eqb (h (name_at tag starts ends k)) (h (part tag from to))

  -- the index of the oldest recorded key that passes and has the same bytes; the count where there is none
  unfoldable pub filtered_oldest : (tag starts ends : List ℕ) (count from to : ℕ) → ℕ
  filtered_oldest tag starts ends count from to =
      first_to (λ k. passes tag starts ends from to k && same_key tag starts ends from to k) 0 count

  -- the start of that key, if there is one
  unfoldable pub filtered_of : (tag starts ends : List ℕ) (count from to : ℕ) → Option ℕ
  filtered_of tag starts ends count from to =
      pick (ltb (filtered_oldest tag starts ends count from to) count)
      (Some (get_or starts (filtered_oldest tag starts ends count from to) 0))
      None
