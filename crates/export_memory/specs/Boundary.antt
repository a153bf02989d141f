-- A resolver across the boundary: lent text, lent records and four numbers of a head; an answer is a number, and its values
-- stand in an array.
use Rattle.std.specs.Prelude.{ℕ, List, get_or, set}
use Rattle.scope_table.specs.Table.{head_of}
use Rattle.scope_table.specs.Answer.{change_numbers}
use Rattle.scope_table.specs.Lent.{Given}
use Rattle.scope_table.specs.declared.Head.{Head}

-- A head as four numbers, in order: text used, records in use, level, limit. As it is read, and as it is written.
unfoldable pub head_in : List ℕ → Head
head_in l = head_of (get_or l 0 0) (get_or l 1 0) (get_or l 2 0) (get_or l 3 0)

unfoldable pub head_after : List ℕ → Head → List ℕ
head_after l h = set (set (set (set l 0 h.used) 1 h.count) 2 h.level) 3 h.limit

-- An answer is given as its number and its values: the number is the result, and two values stand in the detail, 0 where there
-- are fewer.
unfoldable pub code_of : List ℕ → ℕ
code_of numbers = get_or numbers 0 0

unfoldable pub detail_after : (numbers detail : List ℕ) → List ℕ
detail_after numbers detail = set (set detail 0 (get_or numbers 1 0)) 1 (get_or numbers 2 0)

-- Calls that change a resolver.

-- what a call answers, and the lent memory after it
pub record Crossed : Type 0 where
  pub result : ℕ
  pub text : List ℕ
  pub records : List ℕ
  pub head : List ℕ
  pub detail : List ℕ

abbrev pub crossed : ℕ → (text records head detail : List ℕ) → Crossed
crossed r text records head detail =
    record { result = r; text = text; records = records; head = head; detail = detail }

unfoldable pub crossed_of : (head detail : List ℕ) → Given → Crossed
crossed_of head detail g =
    crossed (code_of (change_numbers g.answer)) g.text g.records (head_after head g.head)
    (detail_after (change_numbers g.answer) detail)

-- A call on lent memory; one without a detail has an empty one.
unfoldable pub change_in : (call : (text records : List ℕ) → Head → Given) (text records head detail : List ℕ) → Crossed
change_in call text records head detail = crossed_of head detail (call text records (head_in head))

-- Calls that ask a resolver.

-- what a call answers, and its detail
pub record Asked : Type 0 where
  pub result : ℕ
  pub detail : List ℕ

abbrev pub asked : ℕ → List ℕ → Asked
asked r detail = record { result = r; detail = detail }

-- A call whose answer has these numbers.
unfoldable pub ask_in : (numbers detail : List ℕ) → Asked
ask_in numbers detail = asked (code_of numbers) (detail_after numbers detail)
