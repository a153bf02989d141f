-- What is written: document 01, "Program `attrs`". No contract can speak of standard output itself; so every byte goes
-- through one function, which asks that what it writes is the next part of the output, and counts what it wrote.
use Rattle.std.specs.Prelude.{ℕ, ◌+◌, ◌*◌, ◌^◌, ◌≤◌, ◌<◌, ◌≡◌, List, ◌++◌, length, replicate}
use Rattle.scan.specs.Bytes.{part, bytes}
use Rattle.tag_keys.specs.Keys.{capacity}
use Rattle.lines.specs.Lines.{decimal_of, lines_of}
use Rattle.attrs.specs.Count.{AttrsMemory, attrs_answers}

-- "It prints the count": a line, as `answers 2`
unfoldable pub count_line : ℕ → List ℕ
count_line n = bytes "answers " ++ (decimal_of n ++ bytes "\n")

-- "then per answer" a line: all that is written for a tag
unfoldable pub output_of : List ℕ → List ℕ
output_of s = count_line (length (attrs_answers s)) ++ lines_of (attrs_answers s)

-- a text that comes next where the first `written` bytes of the output are written already
pub record ComesNext (s : List ℕ) (written : ℕ) (text : List ℕ) : Type 0 where
  pub next : part (output_of s) written (written + length text) ≡ text
  pub fits : written + length text < 2 ^ 64

-- "at most 65,536 bytes", nothing written yet, and the number of answers
pub record ToCount (s : List ℕ) (written total : ℕ) : Type 0 where
  pub short : length s ≤ 65536
  pub none : written ≡ 0
  pub all : total ≡ length (attrs_answers s)

-- the count is written, the lines are not
pub record Counted (s : List ℕ) (written : ℕ) : Type 0 where
  pub short : length s ≤ 65536
  pub count : written ≡ length (count_line (length (attrs_answers s)))

-- the same with the tables of a fresh iterator, and room for a page of 256 answers, 107 bytes each
pub record ToShow (s starts ends hashes numbers text : List ℕ) (written : ℕ) : Type 0 where
  pub lent : AttrsMemory starts ends hashes numbers
  pub fresh : (starts ≡ replicate capacity 0) × (ends ≡ replicate capacity 0) × (hashes ≡ replicate capacity 0)
  pub room : 107 * 256 ≤ length text
  pub counted : Counted s written
