-- What a step does not look at does not matter: two tags that agree as far as it looks give the same step.
use Rattle.std.specs.Prelude.{ℕ, ◌≤◌, ◌<◌, ◌≡◌, true, List, length, get_or, take}
use Rattle.tag_keys.specs.Keys.{KeysIn}
use Rattle.tag_step.specs.declared.IterState.{IterState}
use Rattle.tag_step.specs.Next.{place_good, next_of}
use Rattle.tag_step.specs.Look.{look_next}

-- two tags whose first m bytes are the same
pub record Agree (s t : List ℕ) (m : ℕ) : Type 0 where
  pub in_s : m ≤ length s
  pub in_t : m ≤ length t
  pub byte : (k : ℕ) → k < m → get_or s k 0 ≡ get_or t k 0

-- a state of s whose recorded keys lie in those bytes, with their own hashes, and whose place is good
pub record Before (s : List ℕ) (m : ℕ) (st : IterState) : Type 0 where
  pub keys : KeysIn st.starts st.ends st.hashes st.count (take m s)
  pub place : place_good s st.place ≡ true

-- in both modes, with any recorded keys
abbrev pub NextStable : Type 0
NextStable =
    (s t : List ℕ) (m : ℕ) (st : IterState)
    → Agree s t m
    → Before s m st
    → look_next s st < m
    → next_of t st ≡ next_of s st
