-- `scope_declare::set_level` meets its contract: as `add`.
use Rattle.std.proofs.Common.{rules}
use mathlib.Core.Path.{ap}
use Rattle.scope_table.specs.Answer.{numbered_change}
use Rattle.scope_change.specs.Change.{level_of}
use Rattle.scope_declare.proofs.Laws.{FullSize, level_sized, by_value}
use Rattle.scope_declare.proofs.set_level.Goals as goal

pub returns : goal.returns
returns c =
    let a = c.args in
    let s : FullSize a.r = record { text = search rules; records = search rules } in
    ap numbered_change (by_value (level_of a.to) a.r s (level_sized a.to a.r s) _ _ _ _ c.set_level_in-out.ensures)
