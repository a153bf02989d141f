-- `scope_declare::add_in` meets its contract: the form decides first, then the declaration, which is the whole of the argument.
use mathlib.Core.Path.{sym, ◌∙◌}
use native.Mathlib.Omega.{arith}
use Rattle.scope_table.proofs.Good.{ready}
use Rattle.scope_table.proofs.Calls.{changes_refused, changes_good}
use Rattle.scope_change.specs.Change.{whole}
use Rattle.scope_declare.specs.Declare.{wholly, declare_of, add_of}
use Rattle.scope_declare.proofs.add_in.Goals as goal

pub returns-in-Err : goal.returns-in-Err
unfolding add_of
returns-in-Err c =
    let a = c.args in
    rw c.from.ensures
    (changes_refused a.text.now a.records.now a.head (declare_of whole a.declares a.prefix.now a.value.now (wholly a.prefix.now a.value.now)) c.in-Err.wrong (sym c.form_in.ensures ∙ c.in-Err.is))

pub declare_in-requires : goal.declare_in-requires
declare_in-requires c =
    let a = c.args in
    let r = ready a.text.now a.records.now a.head (sym c.form_in.ensures ∙ c.in_default.is) in
    record { fit = r.fit; few_records = omega arith; few_bytes = omega arith }

pub returns : goal.returns
unfolding add_of
returns c =
    let a = c.args in
    c.declare_in.ensures ∙ sym (changes_good a.text.now a.records.now a.head (declare_of whole a.declares a.prefix.now a.value.now (wholly a.prefix.now a.value.now)) (sym c.form_in.ensures ∙ c.in_default.is))
