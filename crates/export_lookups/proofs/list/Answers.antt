-- `export_lookups::list` meets its contract.
use mathlib.Core.Path.{ap}
use Rattle.scope_listing.specs.declared.LinedUp.{LinedUp}
use Rattle.export_lookups.specs.Listings.{listed_as, listed_by}
use Rattle.export_lookups.proofs.list.Goals as goal

pub returns : goal.returns
unfolding listed_by
returns c =
    let a = c.args in
    ap (λ (x : LinedUp). listed_as x a.shown.place a.detail.now) c.listed_numbers-five.ensures
