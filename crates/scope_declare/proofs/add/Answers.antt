-- `scope_declare::add` meets its contract: the arrays are lent whole, and what is put together is what they became.
use Rattle.std.proofs.Common.{rules}
use mathlib.Core.Path.{ap}
use Rattle.scope_table.specs.Answer.{numbered_change}
use Rattle.scope_declare.specs.Declare.{add_of}
use Rattle.scope_declare.proofs.Laws.{FullSize, add_sized, by_value}
use Rattle.scope_declare.proofs.add.Goals as goal

pub returns : goal.returns
returns c =
    let a = c.args in
    let s : FullSize a.r = record { text = search rules; records = search rules } in
    ap numbered_change (by_value (add_of a.declares a.prefix.now a.value.now) a.r s (add_sized a.declares a.prefix.now a.value.now a.r s) _ _ _ _ c.add_in-out.ensures)
