-- `export_scopes::mz_push` meets its contract: it is the call on lent memory, and what it leaves is written (crates/export_memory, proofs/Calls).
use Rattle.export_memory.proofs.Calls.{change_made}
use Rattle.scope_table.specs.Lent.{lent_of}
use Rattle.scope_push.specs.Push.{push_of}
use Rattle.export_scopes.proofs.mz_push.Goals as goal

pub returns : goal.returns
returns c =
    let a = c.args in
    change_made (lent_of (push_of a.tag.now a.at)) a.text.now a.records.now a.head.now a.detail.now c.head_from-h.result c.push_in-out.result _ _ _ _ _ c.head_from-h.ensures c.push_in-out.ensures c.left.ensures.0 c.left.ensures.1
