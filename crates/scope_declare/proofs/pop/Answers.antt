-- `scope_declare::pop` meets its contract: as `add`.
use Rattle.std.proofs.Common.{rules}
use mathlib.Core.Path.{ap}
use Rattle.scope_table.specs.Answer.{numbered_change}
use Rattle.scope_declare.specs.Declare.{pop_of}
use Rattle.scope_declare.proofs.Laws.{FullSize, pop_sized, by_value}
use Rattle.scope_declare.proofs.pop.Goals as goal

pub returns : goal.returns
returns c =
    let a = c.args in
    let s : FullSize a.r = record { text = search rules; records = search rules } in
    ap numbered_change (by_value pop_of a.r s (pop_sized a.r s) _ _ _ _ c.pop_in-out.ensures)
