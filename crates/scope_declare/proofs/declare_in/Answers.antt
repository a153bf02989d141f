-- `scope_declare::declare_in` meets its contract: a refusal and a declaration that adds nothing are kept, and else `append_in` is
-- given the bytes that were judged.
use mathlib.Core.Path.{sym, ◌∙◌}
use lib.Seq.{length-take-le}
use Rattle.scope_declare.proofs.Laws.{bind_fits, declare_refuses, declare_nothing, declare_binds}
use Rattle.scope_declare.proofs.declare_in.Goals as goal

pub slice_bounds-bound-end : goal.slice_bounds-bound-end
slice_bounds-bound-end c =
    let a = c.args in
    sym (length-take-le c.in-Ok-Some.n a.prefix.now (bind_fits a.declares a.prefix.now a.value.now a.at c.in-Ok-Some.n (sym (rw c.in-Ok-Some.field-0-is at c.in-Ok-Some.ensures))))

pub append_in-requires : goal.append_in-requires
append_in-requires c = c.requires

pub returns-in-Err : goal.returns-in-Err
returns-in-Err c =
    let a = c.args in
    declare_refuses a.room a.declares a.prefix.now a.value.now a.at a.text.now a.records.now a.head c.in-Err.error c.requires.fit (sym c.in-Err.ensures)

pub returns-in-Ok-None : goal.returns-in-Ok-None
returns-in-Ok-None c =
    let a = c.args in
    declare_nothing a.room a.declares a.prefix.now a.value.now a.at a.text.now a.records.now a.head c.requires.fit (sym (rw c.in-Ok-None.field-0-is at c.in-Ok-None.ensures))

pub returns-in-Ok-Some : goal.returns-in-Ok-Some
returns-in-Ok-Some c =
    let a = c.args in
    c.append_in.ensures ∙ declare_binds a.room a.declares a.prefix.now a.value.now a.at a.text.now a.records.now a.head c.in-Ok-Some.n (sym (rw c.in-Ok-Some.field-0-is at c.in-Ok-Some.ensures))
