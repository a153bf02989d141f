-- `scope_declare::pop_in` meets its contract: the form that is found decides; a good one has its level set, one lower.
use Prim.Native.Nat.{◌-◌}
use mathlib.Core.Path.{sym, ◌∙◌}
use Rattle.std.specs.Prelude.{Ok}
use Rattle.scope_table.specs.Answer.{changed}
use Rattle.scope_table.proofs.Calls.{same_call, changes_refused}
use Rattle.scope_change.specs.Change.{dropped_of, level_of}
use Rattle.scope_declare.specs.Declare.{pop_of}
use Rattle.scope_declare.proofs.pop_in.Goals as goal

pub clear_above_in-requires : goal.clear_above_in-requires
clear_above_in-requires c = sym c.form_in.ensures ∙ c.in_default.is

pub returns-in-Err : goal.returns-in-Err
unfolding pop_of level_of
returns-in-Err c =
    let a = c.args in
    rw c.from.ensures
    (changes_refused a.text.now a.records.now a.head (λ x. changed (Ok tt) (dropped_of (x.head.level - 1) x)) c.in-Err.wrong (sym c.form_in.ensures ∙ c.in-Err.is))

pub returns : goal.returns
unfolding pop_of
returns c =
    let a = c.args in
    c.clear_above_in.ensures ∙ same_call a.text.now a.records.now a.head (level_of c.saturating_sub-to.result) pop_of (rw c.saturating_sub-to.ensures)
