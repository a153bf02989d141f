-- What a record of a tag is, and when its answers are those of the iterator's definitions.
use Rattle.std.specs.Prelude.{ℕ, ◌+◌, ◌-◌, ◌*◌, ◌/◌, ◌≤◌, ◌≡◌, Bool, List, length, drop, get_or, eqb, ltb}
use Rattle.scan.specs.First.{pick}
use Rattle.scan.specs.Bytes.{part, same_bytes}
use Rattle.tag_keys.specs.Keys.{capacity}
use Rattle.tag_step.specs.declared.IterState.{IterState}
use Rattle.tag_step.specs.declared.Place.TheVariants.{Next}
use Rattle.tag_step.specs.Next.{opened, lent_state}
use Rattle.tag_step.specs.Run.{answers_of}
use Rattle.tag_batch.specs.Batch.{fives_of}
use Rattle.replay.specs.declared.Replayed.{Replayed}
use Rattle.replay.specs.Numbers.{two_at, twos_of}
use Rattle.replay.specs.Run.{RecordStep, agrees, differs, cut, replay_each}

-- the recorded numbers, five for each of so many answers, are those of the answers
unfoldable pub answers_agree : List ℕ → IterState → (answers : ℕ) → (recorded : List ℕ) → Bool
answers_agree s st answers recorded = same_bytes (fives_of (answers_of s st)) (twos_of (5 * answers) recorded)

-- lent tables, an output with room for an answer, and the recorded numbers all there
pub record ReplayMemory (s e h out : List ℕ) (answers : ℕ) (recorded : List ℕ) : Type 0 where
  pub starts : length s ≡ capacity
  pub ends : length e ≡ capacity
  pub hashes : length h ≡ capacity
  pub room : 5 ≤ length out
  pub whole : 10 * answers ≤ length recorded

-- an iterator opened at a position on lent tables
unfoldable pub replay_opened : ℕ → Bool → Bool → (starts ends hashes : List ℕ) → IterState
replay_opened o html checks starts ends hashes = lent_state (Next o) html checks starts ends hashes 0

-- whether the answers of a record are ours: behind the tag stand the mode, the checks, the opening position, how many answers
-- there are, and their numbers
unfoldable pub tail_agrees : (tag tail : List ℕ) → Bool
tail_agrees tag tail =
    answers_agree tag (opened (two_at tail 2) (eqb (get_or tail 0 0) 1) (eqb (get_or tail 1 0) 1)) (two_at tail 4) (drop 6 tail)

-- the record at the front: the tag's length in two bytes, the tag, six bytes, ten for each answer
unfoldable pub tail_of : (rest : List ℕ) → (n : ℕ) → (tail : List ℕ) → RecordStep
tail_of rest n tail =
    pick (ltb ((length tail - 6) / 10) (two_at tail 4)) cut
    (pick (tail_agrees (part rest 2 (2 + n)) tail) (agrees (8 + n + 10 * two_at tail 4) 0 0) differs)

unfoldable pub tag_record_of : List ℕ → RecordStep
tag_record_of rest =
    pick (ltb (length rest) 8) cut
    (pick (ltb (length rest - 8) (two_at rest 0)) cut
    (tail_of rest (two_at rest 0) (drop (2 + two_at rest 0) rest)))

unfoldable pub tags_replayed : List ℕ → Replayed
tags_replayed s = replay_each tag_record_of s
