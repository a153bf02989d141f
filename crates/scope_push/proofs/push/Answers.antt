-- `scope_push::push` meets its contract: the arrays are lent whole, and what is put together is what they became.
use Rattle.std.proofs.Common.{rules}
use mathlib.Core.Path.{ap}
use Rattle.scope_table.specs.Answer.{numbered_change}
use Rattle.scope_declare.proofs.Laws.{FullSize, by_value}
use Rattle.scope_push.specs.Push.{push_of}
use Rattle.scope_push.proofs.Laws.{push_sized}
use Rattle.scope_push.proofs.push.Goals as goal

pub returns : goal.returns
returns c =
    let a = c.args in
    let s : FullSize a.r = record { text = search rules; records = search rules } in
    ap numbered_change (by_value (push_of a.tag.now a.from) a.r s (push_sized a.tag.now a.from a.r s) _ _ _ _ c.push_in-out.ensures)
