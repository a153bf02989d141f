-- `scope_lookup::resolve_prefix_in` meets its contract: the test, then the lookup.
use mathlib.Core.Path.{sym, ap, ◌∙◌}
use Rattle.std.specs.Prelude.{Ok}
use Rattle.std.proofs.lemmas.Result.{err_from_is_err_and}
use Rattle.scope_lookup.specs.declared.ResolveResult.{ResolveResult}
use Rattle.scope_table.proofs.Good.{ready}
use Rattle.scope_lookup.proofs.Padded.{ready_inside, lookup_refused, lookup_good}
use Rattle.scope_lookup.proofs.resolve_prefix_in.Goals as goal

pub returns-in_err-form_in : goal.returns-in_err-form_in
returns-in_err-form_in c =
    let a = c.args in
    let p = err_from_is_err_and c.from_residual.result c.from_residual.ensures.1 in
    rw (p.1, p.2) (lookup_refused a.text.now a.records.now a.head a.prefix.now a.named a.wanted c.in_err-form_in.field-0.0 (sym c.form_in.ensures ∙ c.in_err-form_in.was))

pub among-requires : goal.among-requires
among-requires c =
    let a = c.args in
    ready_inside a.text.now a.records.now a.head (ready a.text.now a.records.now a.head (sym c.form_in.ensures ∙ c.in_ok-form_in.was))

pub returns : goal.returns
returns c =
    let a = c.args in
    ap (λ (r : ResolveResult). Ok r) c.among.ensures ∙ lookup_good a.text.now a.records.now a.head a.prefix.now a.named a.wanted (sym c.form_in.ensures ∙ c.in_ok-form_in.was)
