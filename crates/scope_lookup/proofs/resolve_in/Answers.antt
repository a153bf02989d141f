-- `scope_lookup::resolve_in` meets its contract: the test, then the lookup.
use mathlib.Core.Path.{sym, ap, ◌∙◌}
use Rattle.std.specs.Prelude.{Ok}
use Rattle.std.proofs.lemmas.Result.{err_from_is_err_and}
use Rattle.scope_lookup.specs.declared.ResolveResult.{ResolveResult}
use Rattle.name.specs.Split.{has_colon, prefix_of}
use Rattle.scope_table.proofs.Good.{ready}
use Rattle.scope_lookup.specs.Lookup.{resolve_of}
use Rattle.scope_lookup.proofs.Padded.{ready_inside, lookup_refused, lookup_good}
use Rattle.scope_lookup.proofs.resolve_in.Goals as goal

pub returns-in_err-form_in : goal.returns-in_err-form_in
unfolding resolve_of
returns-in_err-form_in c =
    let a = c.args in
    let p = err_from_is_err_and c.from_residual.result c.from_residual.ensures.1 in
    rw (p.1, p.2) (lookup_refused a.text.now a.records.now a.head (prefix_of a.name.now) (has_colon a.name.now) a.wanted c.in_err-form_in.field-0.0 (sym c.form_in.ensures ∙ c.in_err-form_in.was))

pub name_among-requires : goal.name_among-requires
name_among-requires c =
    let a = c.args in
    ready_inside a.text.now a.records.now a.head (ready a.text.now a.records.now a.head (sym c.form_in.ensures ∙ c.in_ok-form_in.was))

pub returns : goal.returns
unfolding resolve_of
returns c =
    let a = c.args in
    ap (λ (r : ResolveResult). Ok r) c.name_among.ensures ∙ lookup_good a.text.now a.records.now a.head (prefix_of a.name.now) (has_colon a.name.now) a.wanted (sym c.form_in.ensures ∙ c.in_ok-form_in.was)
