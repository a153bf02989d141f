-- The recorded keys. A table of them is three lists, the keys' starts, their ends and their hashes in the order in which they
-- were recorded, and a count: places at or after the count are unused.
use Rattle.std.specs.Prelude.{ℕ, ◌+◌, ◌≤◌, ◌<◌, ◌≡◌, Bool, true, not, ◌&&◌, List, [], ◌∷◌, length, get_or, set, eqb, ltb, leb, Option, Some, None, Result, Ok, Err}
use Rattle.scan.specs.First.{first_to, pick}
use Rattle.scan.specs.Bytes.{part, same_bytes}
use Rattle.tag_keys.specs.Hash.{hash_of}
use Rattle.tag_keys.specs.declared.KeyRefusal.{KeyRefusal}
use Rattle.tag_keys.specs.declared.KeyRefusal.TheVariants.{Same, Full}

-- Capacities: 1,024 recorded keys.
abbrev pub capacity : ℕ
capacity = 1024

-- the name at index k: the bytes of that recorded key
unfoldable pub name_at : List ℕ → List ℕ → List ℕ → ℕ → List ℕ
name_at tag starts ends k = part tag (get_or starts k 0) (get_or ends k 0)

-- A key is good exactly if it is not empty and lies inside a tag of len bytes.
unfoldable pub key_good : ℕ → ℕ → ℕ → Bool
key_good len start end = ltb start end && leb end len

-- whether the hash that is kept at index k is h
unfoldable pub hash_is : List ℕ → ℕ → ℕ → Bool
hash_is hashes h k = eqb (get_or hashes k 0) h

-- how many kept hashes are asked together
abbrev pub block : ℕ
block = 16

-- State 7 covers a recorded key that is empty or not inside the tag, and a kept hash that is not its key's: this is the test at
-- index k.
unfoldable pub key_bad : (tag starts ends hashes : List ℕ) → ℕ → Bool
key_bad tag starts ends hashes k =
    not (key_good (length tag) (get_or starts k 0) (get_or ends k 0) && hash_is hashes (hash_of (name_at tag starts ends k)) k)

-- Whether lists hold so many keys: those of unequal lengths count as long as the shortest one.
abbrev pub holds : (starts ends hashes : List ℕ) → ℕ → Bool
holds starts ends hashes count = leb count (length starts) && (leb count (length ends) && leb count (length hashes))

-- the count is no more than the capacity, and each list has a place for every recorded key
unfoldable pub count_good : (starts ends hashes : List ℕ) → ℕ → Bool
count_good starts ends hashes count = leb count capacity && holds starts ends hashes count

-- State 7 covers more keys than the capacity, and any recorded key that is bad: a table is good where neither is so.
-- (Lent lists too short for the count are no table of that many keys.)
unfoldable pub table_good : (tag starts ends hashes : List ℕ) → ℕ → Bool
table_good tag starts ends hashes count =
    count_good starts ends hashes count && leb count (first_to (key_bad tag starts ends hashes) 0 count)

-- the same as facts
pub record KeysIn (starts ends hashes : List ℕ) (count : ℕ) (tag : List ℕ) : Type 0 where
  pub few : count ≤ capacity
  pub placed : (count ≤ length starts) × (count ≤ length ends) × (count ≤ length hashes)
  pub inside : (k : ℕ) → k < count → (get_or starts k 0 < get_or ends k 0) × (get_or ends k 0 ≤ length tag)
  pub kept : (k : ℕ) → k < count → get_or hashes k 0 ≡ hash_of (name_at tag starts ends k)

-- While checks are on each list has a place for as many keys as may ever be recorded. Nothing is asked of them while
-- checks are off.
pub record KeyRoom (checks : Bool) (starts ends hashes : List ℕ) : Type 0 where
  pub room : checks ≡ true → (capacity ≤ length starts) × (capacity ≤ length ends) × (capacity ≤ length hashes)

-- Whether lists have the place of the next key. While checks are off none is wanted.
unfoldable pub has_place : Bool → (starts ends hashes : List ℕ) → ℕ → Bool
has_place checks starts ends hashes count = pick checks (holds starts ends hashes (count + 1)) true

-- The hash of a key that is due to be checked: while checks are off none is asked for it.
unfoldable pub hash_for : List ℕ → Bool → ℕ → ℕ → ℕ
hash_for tag checks from to = pick checks (hash_of (part tag from to)) 0

-- A key is compared byte by byte with a recorded one: whether that at index k has the bytes from `from` up to `to`.
unfoldable pub same_key : List ℕ → List ℕ → List ℕ → ℕ → ℕ → ℕ → Bool
same_key tag starts ends from to k = same_bytes (name_at tag starts ends k) (part tag from to)

-- the index of the oldest recorded key with those bytes; the count where there is none
unfoldable pub oldest_of : List ℕ → List ℕ → List ℕ → ℕ → ℕ → ℕ → ℕ
oldest_of tag starts ends count from to = first_to (same_key tag starts ends from to) 0 count

-- A key is compared with every recorded key, oldest first: the start of the first that has its bytes, if one has.
unfoldable pub earlier_of : List ℕ → List ℕ → List ℕ → ℕ → ℕ → ℕ → Option ℕ
earlier_of tag starts ends count from to =
    pick (ltb (oldest_of tag starts ends count from to) count)
    (Some (get_or starts (oldest_of tag starts ends count from to) 0))
    None

-- A key equal to an earlier one is refusal 5, with the earlier key's start. Refusal 6 comes exactly if it equals none
-- and as many keys as the capacity are recorded already. Any other is recorded, so that there is one more.
unfoldable pub checked_by : ℕ → Option ℕ → Result ℕ KeyRefusal
checked_by count (Some p) = Err (Same p)
checked_by count None = pick (ltb count capacity) (Ok (count + 1)) (Err Full)

-- "Recorded" applies while checks are on: without them every key is fresh, and there are as many as before.
unfoldable pub checked_of : List ℕ → Bool → List ℕ → List ℕ → ℕ → ℕ → ℕ → Result ℕ KeyRefusal
checked_of tag checks starts ends count from to = pick checks (checked_by count (earlier_of tag starts ends count from to)) (Ok count)

-- The verdict by numbers: 5, with the start of the earlier key, and 6 are document 01's. A new key has none there, and is 0 with
-- how many keys are recorded then.
unfoldable pub checked_numbers : Result ℕ KeyRefusal → List ℕ
checked_numbers (Ok n) = 0 ∷ n ∷ []
checked_numbers (Err (Same p)) = 5 ∷ p ∷ []
checked_numbers (Err Full) = 6 ∷ []

-- One of the lists after a new key is recorded, x being the key's own number in it: the place at index count is written and
-- no other, so that unused key places keep their content. No key is recorded while checks are off.
abbrev pub recorded_in : Bool → List ℕ → ℕ → ℕ → List ℕ
recorded_in checks t count x = pick checks (set t count x) t

-- One of the lists after a verdict: refusals 5 and 6 write nothing.
unfoldable pub written_by : Bool → Result ℕ KeyRefusal → List ℕ → ℕ → ℕ → List ℕ
written_by checks (Ok n) t count x = recorded_in checks t count x
written_by checks (Err (Same p)) t count x = t
written_by checks (Err Full) t count x = t

-- how many keys are recorded after a verdict
unfoldable pub count_by : Result ℕ KeyRefusal → ℕ → ℕ
count_by (Ok n) count = n
count_by (Err (Same p)) count = count
count_by (Err Full) count = count
