-- `export_scopes::mz_layout` meets its contract: its table is the definition's, and both are 0 past it.
use mathlib.Core.Path.{refl, sym}
use lib.ListN.{get_or-eq_default}
use Rattle.export_scopes.specs.Layout.{layout, layout_of}
use Rattle.export_scopes.proofs.mz_layout.Goals as goal

pub returns-then-what-lt14 : goal.returns-then-what-lt14
unfolding layout_of
returns-then-what-lt14 c = refl

pub returns : goal.returns
unfolding layout_of
returns c = sym (get_or-eq_default layout 0 c.if-what-lt14.false)
