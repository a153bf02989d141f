-- `export_names::mz_resolve_all` meets its contract: a call comes back in three ways, each by its law (proofs/Calls), and after i
-- turns each array has the numbers of the first i names (proofs/Written).
use mathlib.Core.Path.{sym, ap, ◌∙◌}
use native.Mathlib.Omega.{arith}
use lib.ListN.{length}
use Rattle.std.specs.Prelude.{Ok}
use Rattle.scope_lookup.specs.declared.ResolveResult.{ResolveResult}
use Rattle.export_names.proofs.Written.{filled_none, filled_next}
use Rattle.export_names.proofs.Calls.{alike_long, nth, names_unlike, names_inside, name_told, names_refused, names_good}
use Rattle.export_names.proofs.mz_resolve_all.Goals as goal

pub returns-then-not-alike : goal.returns-then-not-alike
returns-then-not-alike c =
    let a = c.args in
    rw c.form_number.ensures (names_unlike a.tag.now a.from.now a.to.now a.elements a.kinds.now a.begins.now a.ends.now a.text.now a.records.now a.head.now (sym c.alike.ensures ∙ c.if-not-alike.true))

pub returns-in_default : goal.returns-in_default
returns-in_default c =
    let a = c.args in
    rw c.form_number-in_default.ensures
    (names_refused a.tag.now a.from.now a.to.now a.elements a.kinds.now a.begins.now a.ends.now a.text.now a.records.now a.head.now c.head_from-h.result c.head_from-h.ensures (sym c.alike.ensures ∙ c.if-not-alike.false) c.form_in-form.result (sym c.form_in-form.ensures) (c.in_default.not-Ok tt))

pub loop-i-init : goal.loop-i-init
loop-i-init c =
    let a = c.args in
    let l = alike_long a.from.now a.to.now a.kinds.now a.begins.now a.ends.now (sym c.alike.ensures ∙ c.if-not-alike.false) in
    filled_none (nth a.tag.now a.from.now a.to.now a.elements a.kinds.now a.begins.now a.ends.now a.text.now a.records.now a.head.now) (length a.from.now) a.kinds.now a.begins.now a.ends.now l.kinds_long l.begins_long l.ends_long

pub bounds-to-i : goal.bounds-to-i
bounds-to-i c =
    let a = c.args in
    let l = alike_long a.from.now a.to.now a.kinds.now a.begins.now a.ends.now (sym c.alike.ensures ∙ c.if-not-alike.false) in
    omega arith

pub name_among-found-requires : goal.name_among-found-requires
name_among-found-requires c =
    let a = c.args in
    names_inside a.tag.now a.from.now a.to.now a.elements a.kinds.now a.begins.now a.ends.now a.text.now a.records.now a.head.now c.head_from-h.result c.head_from-h.ensures (sym c.form_in-form.ensures ∙ c.in-Ok.is)

pub loop-i-preserved : goal.loop-i-preserved
loop-i-preserved c =
    let a = c.args in
    let l = c.loop-i in
    filled_next (nth a.tag.now a.from.now a.to.now a.elements a.kinds.now a.begins.now a.ends.now a.text.now a.records.now a.head.now) (length a.from.now) a.kinds.now a.begins.now a.ends.now l.kinds l.begins l.ends l.i l.invariant (omega arith) _
    (name_told a.tag.now a.from.now a.to.now a.elements a.kinds.now a.begins.now a.ends.now a.text.now a.records.now a.head.now c.head_from-h.result c.head_from-h.ensures (sym c.form_in-form.ensures ∙ c.in-Ok.is) l.i _ c.inside-name.ensures _ (ap (λ (r : ResolveResult). Ok r) c.name_among-found.ensures) _ c.resolved_numbers-told.ensures)

pub shape_of-kinds : goal.shape_of-kinds
shape_of-kinds c = c.loop-i.invariant.kinds_part.kept

pub shape_of-begins : goal.shape_of-begins
shape_of-begins c = c.loop-i.invariant.begins_part.kept

pub shape_of-ends : goal.shape_of-ends
shape_of-ends c = c.loop-i.invariant.ends_part.kept

pub returns : goal.returns
returns c =
    let a = c.args in
    let l = c.loop-i in
    names_good a.tag.now a.from.now a.to.now a.elements a.kinds.now a.begins.now a.ends.now a.text.now a.records.now a.head.now c.head_from-h.result c.head_from-h.ensures (sym c.alike.ensures ∙ c.if-not-alike.false) (sym c.form_in-form.ensures ∙ c.in-Ok.is) l.kinds l.begins l.ends l.i l.invariant (omega arith)
