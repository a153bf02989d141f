-- The fresh resolver across the boundary. The head is written where there is room for it, and is not read.
use Rattle.std.specs.Prelude.{List, [], ℕ}
use Rattle.scan.specs.First.{pick}
use Rattle.scope_table.specs.Table.{head_of}
use Rattle.scope_table.specs.Answer.{change_numbers, is_done}
use Rattle.scope_table.specs.Lent.{Given, fresh_in}
use Rattle.export_memory.specs.Boundary.{head_after, code_of, Crossed, crossed}

-- the head that a call without one is given
abbrev pub nothing_given : (text records : List ℕ) → Given
nothing_given text records = fresh_in text records (head_of 0 0 0 0)

unfoldable pub fresh_by : (text records head : List ℕ) → Crossed
fresh_by text records head =
    let g = nothing_given text records in
    crossed (code_of (change_numbers g.answer)) g.text g.records (pick (is_done g.answer) (head_after head g.head) head) []
