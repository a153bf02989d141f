-- `export_scopes::mz_set_level` meets its contract: it is the call on lent memory, and what it leaves is written (crates/export_memory, proofs/Calls).
use mathlib.Core.List.{[]}
use Rattle.export_memory.proofs.Calls.{change_made, none_told}
use Rattle.scope_table.specs.Lent.{lent_of}
use Rattle.scope_change.specs.Change.{level_of}
use Rattle.export_scopes.proofs.mz_set_level.Goals as goal

pub returns : goal.returns
returns c =
    let a = c.args in
    change_made (lent_of (level_of a.to)) a.text.now a.records.now a.head.now [] c.head_from-h.result c.set_level_in-out.result _ _ _ _ [] c.head_from-h.ensures c.set_level_in-out.ensures (none_told _ _ c.left_head.ensures.0) c.left_head.ensures.1
