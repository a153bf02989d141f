-- `export_scopes::mz_pop` meets its contract: it is the call on lent memory, and what it leaves is written (crates/export_memory, proofs/Calls).
use mathlib.Core.List.{[]}
use borrow.Author.Rules.{rules}
use Rattle.export_memory.proofs.Calls.{change_made, none_told}
use Rattle.scope_table.specs.Lent.{lent_of}
use Rattle.scope_declare.specs.Declare.{pop_of}
use Rattle.export_scopes.proofs.mz_pop.Goals as goal

pub returns : goal.returns
returns c =
    let a = c.args in
    change_made (lent_of pop_of) a.text.now a.records.now a.head.now [] c.head_from-h.result _ _ _ _ _ [] c.head_from-h.ensures (search rules) (none_told _ _ c.left_head.ensures.0) c.left_head.ensures.1
