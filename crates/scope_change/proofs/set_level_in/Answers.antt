-- `scope_change::set_level_in` meets its contract: the form that is found decides.
use mathlib.Core.Path.{sym, ◌∙◌}
use Rattle.std.specs.Prelude.{Ok}
use Rattle.scope_table.specs.Answer.{changed}
use Rattle.scope_table.proofs.Calls.{changes_refused}
use Rattle.scope_change.specs.Change.{dropped_of, level_of}
use Rattle.scope_change.proofs.set_level_in.Goals as goal

pub clear_above_in-requires : goal.clear_above_in-requires
clear_above_in-requires c = sym c.form_in.ensures ∙ c.in_default.is

pub returns-in-Err : goal.returns-in-Err
unfolding level_of
returns-in-Err c =
    let a = c.args in
    rw c.from.ensures
    (changes_refused a.text.now a.records.now a.head (λ x. changed (Ok tt) (dropped_of a.to x)) c.in-Err.wrong (sym c.form_in.ensures ∙ c.in-Err.is))
