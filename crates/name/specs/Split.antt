-- A name splits at its first colon.
use Rattle.std.specs.Prelude.{ℕ, ◌+◌, Bool, List, [], ◌∷◌, length, take, drop, ltb, Option, Some, None}
use Rattle.scan.specs.First.{pick, first_from}
use Rattle.scan.specs.Bytes.{is_byte}
use Rattle.name.specs.declared.Parts.{Parts}

-- the place of the first colon (58), the length where there is none
unfoldable pub colon_at : List ℕ → ℕ
colon_at name = first_from (is_byte 58) name 0

-- whether there is one
unfoldable pub has_colon : List ℕ → Bool
has_colon name = ltb (colon_at name) (length name)

-- the place, or that there is none
unfoldable pub colon_of : List ℕ → Option ℕ
colon_of name = pick (has_colon name) (Some (colon_at name)) None

-- The prefix is what stands before the first colon. A name with none has no prefix, and no bytes here.
unfoldable pub prefix_of : List ℕ → List ℕ
prefix_of name = pick (has_colon name) (take (colon_at name) name) []

-- where the local part starts: after the first colon, at 0 where there is none
unfoldable pub local_at : List ℕ → ℕ
local_at name = pick (has_colon name) (colon_at name + 1) 0

-- The local part is what stands after the first colon, and the whole name where there is none.
unfoldable pub local_of : List ℕ → List ℕ
local_of name = drop (local_at name) name

-- a colon by numbers: its place, if there is one
unfoldable pub colon_numbers : Option ℕ → List ℕ
colon_numbers (Some i) = i ∷ []
colon_numbers None = []

-- and by one number: its place, or another number where there is none
unfoldable pub colon_or : ℕ → Option ℕ → ℕ
colon_or other (Some i) = i
colon_or other None = other

-- the place of the first colon of the local part, counted from the start of the name; the name's length where there is none.
-- A name with no colon is its own local part, and has none.
unfoldable pub second_at : List ℕ → ℕ
second_at name = first_from (is_byte 58) name (local_at name)

-- the place, or that there is none
unfoldable pub second_of : List ℕ → Option ℕ
second_of name = pick (ltb (second_at name) (length name)) (Some (second_at name)) None

-- both, as places
unfoldable pub parts_of : List ℕ → Parts
parts_of name = record { colon = colon_of name; local = local_at name }
