-- Document 02, request 2, in its own words: the colon that `second_colon` answers with is the name's second. Colons are counted here, one by one
-- from the start, and nothing is said of searches (`second_colon_exactly`, proofs/Second).
use Rattle.std.specs.Prelude.{ℕ, suc, ◌<◌, ◌≡◌, List, [], ◌∷◌, length, take, get_or, Some, None}
use Rattle.scan.specs.First.{pick}
use Rattle.scan.specs.Bytes.{is_byte}
use Rattle.name.specs.Split.{second_of}

-- how many colons there are
unfoldable pub colons : List ℕ → ℕ
colons [] = 0
colons (a ∷ s) = pick (is_byte 58 a) (suc (colons s)) (colons s)

-- A colon stands at j, with one before it: it is the second.
pub record IsSecond (name : List ℕ) (j : ℕ) : Type 0 where
  pub inside : j < length name
  pub colon : get_or name j 0 ≡ 58
  pub before : colons (take j name) ≡ 1

-- The second colon is told, and at its place, exactly if there is one: if the name has two colons or more.
pub record SecondExactly (name : List ℕ) : Type 0 where
  pub told : (j : ℕ) → second_of name ≡ Some j → IsSecond name j
  pub tells : (j : ℕ) → IsSecond name j → second_of name ≡ Some j
  pub none : second_of name ≡ None → colons name < 2
  pub few : colons name < 2 → second_of name ≡ None
