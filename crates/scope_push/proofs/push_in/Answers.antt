-- `scope_push::push_in` meets its contract: the two refusals that come first, then the declarations at the level that is risen;
-- what is not held is taken back.
use mathlib.Core.Path.{sym, ap, ◌∙◌}
use native.Mathlib.Omega.{arith}
use borrow.Author.Tests.{le-leb, lt-leb}
use Rattle.scope_table.proofs.Good.{Ready, ready}
use Rattle.std.specs.Prelude.{Err}
use Rattle.scope_table.specs.declared.NamespaceError.{NamespaceError}
use Rattle.scope_declare.proofs.Laws.{is_more}
use Rattle.scope_push.proofs.Laws.{push_refused, too_deep, not_more, push_went, push_back}
use Rattle.scope_push.proofs.push_in.Goals as goal

pub returns-in-Err : goal.returns-in-Err
returns-in-Err c =
    let a = c.args in
    rw c.from.ensures
    (push_refused a.tag.now a.from a.text.now a.records.now a.head c.in-Err.wrong (sym c.form_in.ensures ∙ c.in-Err.is))

pub returns-then-head-ge-DEEPEST : goal.returns-then-head-ge-DEEPEST
returns-then-head-ge-DEEPEST c =
    let a = c.args in
    let g : Ready a.text.now a.records.now a.head = ready a.text.now a.records.now a.head (sym c.form_in.ensures ∙ c.in_default.is) in
    too_deep a.tag.now a.from a.text.now a.records.now a.head g (le-leb _ _ c.if-head-ge-DEEPEST.true)

pub take_all-out-requires : goal.take_all-out-requires
take_all-out-requires c =
    let a = c.args in
    let g : Ready a.text.now a.records.now a.head = ready a.text.now a.records.now a.head (sym c.form_in.ensures ∙ c.in_default.is) in
    record { fit = g.fit; few_records = omega arith; few_bytes = omega arith }

pub returns-in_default-answer : goal.returns-in_default-answer
returns-in_default-answer c =
    let a = c.args in
    let g : Ready a.text.now a.records.now a.head = ready a.text.now a.records.now a.head (sym c.form_in.ensures ∙ c.in_default.is) in
    push_went a.tag.now a.from a.text.now a.records.now a.head g (lt-leb _ _ c.if-head-ge-DEEPEST.false) c.take_all-out.result.answer c.take_all-out.new.text c.take_all-out.new.records c.take_all-out.result.head c.take_all-out.ensures (ap is_more c.in_default-answer.is)

pub returns-in_default-refused : goal.returns-in_default-refused
returns-in_default-refused c =
    let a = c.args in
    let g : Ready a.text.now a.records.now a.head = ready a.text.now a.records.now a.head (sym c.form_in.ensures ∙ c.in_default.is) in
    push_went a.tag.now a.from a.text.now a.records.now a.head g (lt-leb _ _ c.if-head-ge-DEEPEST.false) c.take_all-out.result.answer c.take_all-out.new.text c.take_all-out.new.records c.take_all-out.result.head c.take_all-out.ensures (ap is_more c.in-Err-answer.is ∙ not_more c.in-Err-answer.refused c.in_default-refused.not-LendMore)

pub take_back-requires : goal.take_back-requires
take_back-requires c =
    let a = c.args in
    (ready a.text.now a.records.now a.head (sym c.form_in.ensures ∙ c.in_default.is)).table.few

pub returns : goal.returns
returns c =
    let a = c.args in
    let g : Ready a.text.now a.records.now a.head = ready a.text.now a.records.now a.head (sym c.form_in.ensures ∙ c.in_default.is) in
    rw (c.take_back.ensures.0, c.take_back.ensures.1)
    (push_back a.tag.now a.from a.text.now a.records.now a.head g (lt-leb _ _ c.if-head-ge-DEEPEST.false) c.take_all-out.result.answer c.take_all-out.new.text c.take_all-out.new.records c.take_all-out.result.head c.take_all-out.ensures (c.in-Err-answer.is ∙ ap (λ (e : NamespaceError). Err e) c.in-LendMore.is))
