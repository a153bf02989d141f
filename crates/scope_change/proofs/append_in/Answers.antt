-- `scope_change::append_in` meets its contract: where it does not write it leaves all as it was; else what is lent holds what
-- it writes.
use Prim.Native.Nat.{◌+◌}
use mathlib.Core.Path.{refl, sym, ap, ◌∙◌}
use lib.ListN.{length}
use Rattle.std.specs.Prelude.{Err}
use Rattle.scope_table.specs.Answer.{is_done}
use Rattle.scope_change.proofs.Change.{lent_holds, append_not, append_done}
use Rattle.scope_change.proofs.append_in.Goals as goal

pub returns-in-Err : goal.returns-in-Err
returns-in-Err c =
    let a = c.args in
    append_not a.text.now a.records.now a.head a.room c.requires a.prefix.now a.value.now (Err c.in-Err.refused) (sym c.in-Err.is ∙ c.lent_refusal.ensures) refl

pub write_binding-head-requires : goal.write_binding-head-requires
write_binding-head-requires c =
    let a = c.args in
    lent_holds (length a.text.now) (length a.records.now) a.room a.head (length a.prefix.now + length a.value.now) c.requires (ap is_done (sym c.lent_refusal.ensures ∙ c.in_default.is))

pub returns : goal.returns
returns c =
    let a = c.args in
    append_done a.text.now a.records.now a.head a.room c.requires a.prefix.now a.value.now (sym c.in_default.is ∙ c.lent_refusal.ensures) _ _ _ c.write_binding-head.ensures
