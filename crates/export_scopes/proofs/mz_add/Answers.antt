-- `export_scopes::mz_add` meets its contract: it is the call on lent memory, and what it leaves is written (crates/export_memory, proofs/Calls).
use Rattle.export_memory.proofs.Calls.{change_made}
use Rattle.scope_table.specs.Lent.{lent_of}
use Rattle.scope_declare.specs.Declare.{add_of}
use Rattle.export_scopes.specs.OneDeclaration.{declared_by}
use Rattle.export_scopes.proofs.mz_add.Goals as goal

pub returns : goal.returns
returns c =
    let a = c.args in
    change_made (lent_of (add_of (declared_by a.named) a.prefix.now a.value.now)) a.text.now a.records.now a.head.now a.detail.now c.head_from-h.result c.add_in-out.result _ _ _ _ _ c.head_from-h.ensures (rw c.declared_by.ensures at c.add_in-out.ensures) c.left.ensures.0 c.left.ensures.1
