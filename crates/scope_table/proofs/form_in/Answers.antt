-- `scope_table::form_in` meets its contract: first what is lent is held against the head, then the resolver against 20.
use mathlib.Core.Path.{sym, ◌∙◌}
use Rattle.scope_table.proofs.Good.{form_wrong, form_bad, form_good}
use Rattle.scope_table.proofs.form_in.Goals as goal

pub returns-then-not-fits : goal.returns-then-not-fits
returns-then-not-fits c =
    let a = c.args in
    sym (form_wrong a.text.now a.records.now a.head (sym c.fits.ensures ∙ c.if-not-fits.true))

pub is_table-requires : goal.is_table-requires
is_table-requires c = sym c.fits.ensures ∙ c.if-not-fits.false

pub returns-then-not-is_table : goal.returns-then-not-is_table
returns-then-not-is_table c =
    let a = c.args in
    sym (form_bad a.text.now a.records.now a.head (sym c.fits.ensures ∙ c.if-not-fits.false) (sym c.is_table.ensures ∙ c.if-not-is_table.true))

pub returns : goal.returns
returns c =
    let a = c.args in
    sym (form_good a.text.now a.records.now a.head (sym c.fits.ensures ∙ c.if-not-fits.false) (sym c.is_table.ensures ∙ c.if-not-is_table.false))
