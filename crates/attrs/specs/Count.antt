-- What is counted: document 01, "Program `attrs`".
use Rattle.std.specs.Prelude.{◌≡◌, true, false, List, ℕ, length}
use Rattle.tag_keys.specs.Keys.{capacity}
use Rattle.tag_step.specs.declared.Place.TheVariants.{Next}
use Rattle.tag_step.specs.Answer.{Answer}
use Rattle.tag_step.specs.declared.IterState.{IterState}
use Rattle.tag_step.specs.Next.{opened, lent_state}
use Rattle.tag_step.specs.Run.{answers_of}
use Rattle.tag_batch.specs.Batch.{answers_room}

-- the tables of an iterator, and an output with room for 256 answers
pub record AttrsMemory (s e h numbers : List ℕ) : Type 0 where
  pub starts : length s ≡ capacity
  pub ends : length e ≡ capacity
  pub hashes : length h ≡ capacity
  pub room : answers_room numbers ≡ 256

-- an iterator in XML mode with checks on, opened at 0 on those tables
unfoldable pub attrs_opened : (starts ends hashes : List ℕ) → IterState
attrs_opened starts ends hashes = lent_state (Next 0) false true starts ends hashes 0

-- the answers to one tag, XML mode, checks on, from 0
unfoldable pub attrs_answers : List ℕ → List Answer
attrs_answers s = answers_of s (opened 0 false true)
