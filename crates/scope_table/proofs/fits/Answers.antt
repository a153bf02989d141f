-- `scope_table::fits` meets its contract. More records than the capacity are no matter of what is lent.
use mathlib.Core.Path.{refl, sym, ◌∙◌}
use native.Mathlib.Omega.{arith}
use Rattle.scope_table.proofs.Lists.{and_take, and_fail}
use Rattle.scope_table.specs.Lent.{fits_of}
use Rattle.scope_table.specs.Records.{row_at}
use Rattle.scope_table.specs.Table.{NUMBERS}
use Rattle.scope_table.proofs.Pad.{holds_beyond}
use Rattle.scope_table.proofs.fits.Goals as goal

pub returns-then-holds : goal.returns-then-holds
unfolding fits_of
returns-then-holds c =
    let a = c.args in
    sym (and_take (sym c.holds.ensures ∙ c.if-holds.true) (holds_beyond NUMBERS a.numbers (row_at a.count) (omega arith)))

pub returns-else-holds : goal.returns-else-holds
unfolding fits_of
returns-else-holds c = c.if-holds.false ∙ sym (and_fail _ (sym c.holds.ensures ∙ c.if-holds.false))

pub returns-then-holds-2 : goal.returns-then-holds-2
unfolding fits_of
returns-then-holds-2 c = c.holds-then-holds-2.ensures ∙ sym (and_take (sym c.holds-2.ensures ∙ c.if-holds-2.true) refl)

pub returns-else-holds-2 : goal.returns-else-holds-2
unfolding fits_of
returns-else-holds-2 c = c.if-holds-2.false ∙ sym (and_fail _ (sym c.holds-2.ensures ∙ c.if-holds-2.false))
