-- A page: the lines of the next answers of a run, as many as a lent output of numbers holds.
use Rattle.std.specs.Prelude.{ℕ, ◌*◌, List, length, take, Result, Ok, Err}
use Rattle.scan.specs.Lists.{over}
use Rattle.tag_step.specs.declared.IterState.{IterState}
use Rattle.tag_batch.specs.declared.BatchRead.{BatchRead}
use Rattle.tag_batch.specs.declared.WrongTables.{WrongTables}
use Rattle.tag_batch.specs.Batch.{Batched, batch_of}
use Rattle.lines.specs.declared.Paged.{Paged}
use Rattle.lines.specs.Lines.{lines_in}

-- how many answers a batch wrote
abbrev pub answers_count : Result BatchRead WrongTables → ℕ
answers_count (Ok x) = x.answers
answers_count (Err e) = 0

-- what a page leaves: a batch, and the text with its length
pub record PageLeft : Type 0 where
  pub batch : Batched
  pub length : ℕ
  pub text : List ℕ

abbrev pub page_left : Paged → (starts ends hashes numbers text : List ℕ) → PageLeft
page_left p starts ends hashes numbers text =
    record {
      batch = record { batch = p.left; starts = starts; ends = ends; hashes = hashes; out = numbers };
      length = p.length;
      text = text;
    }

-- the lines of the numbers that a batch wrote, in a text that has room for them
unfoldable pub lines_by : Batched → List ℕ → List ℕ
lines_by x text = lines_in (take (5 * answers_count x.batch) x.out) text

unfoldable pub page_by : Batched → List ℕ → PageLeft
page_by x text = record { batch = x; length = length (lines_by x text); text = over text 0 (lines_by x text) }

-- (`page_lines`, proofs/Pages: with room for them, the lines of the answers)
unfoldable pub page_of : List ℕ → IterState → List ℕ → List ℕ → PageLeft
page_of s st numbers text = page_by (batch_of s st numbers) text
