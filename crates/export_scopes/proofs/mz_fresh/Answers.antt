-- `export_scopes::mz_fresh` meets its contract: both ways of coming back have their law (proofs/Fresh).
use mathlib.Core.Path.{sym, ap, ◌∙◌}
use Rattle.scope_table.specs.declared.Told.{Told}
use Rattle.scope_table.specs.Answer.{is_done}
use Rattle.scope_table.proofs.Answers.{refused, accepted}
use Rattle.export_memory.specs.Boundary.{code_of}
use Rattle.export_scopes.proofs.Fresh.{fresh_not, fresh_done}
use Rattle.export_scopes.proofs.mz_fresh.Goals as goal

pub returns-then-is_err : goal.returns-then-is_err
unfolding code_of
returns-then-is_err c =
    let a = c.args in
    fresh_not a.text.now a.records.now a.head.now _ _ c.fresh_in-out.result c.fresh_in-out.ensures (refused _ (sym c.is_err.ensures.value ∙ c.if-is_err.true)) _ (ap (λ (x : Told). x.number) c.change_numbers.ensures)

pub returns : goal.returns
returns c =
    let a = c.args in
    fresh_done a.text.now a.records.now a.head.now _ _ c.fresh_in-out.result c.fresh_in-out.ensures (ap is_done (accepted _ (sym c.is_err.ensures.value ∙ c.if-is_err.false))) _ _ c.left_head.ensures.0 c.left_head.ensures.1
