-- `replay_scopes::listing_said` meets its contract: its numbers are those of what is shown, and then the place.
use Prim.Native.Nat.{ℕ}
use mathlib.Core.Path.{ap, ◌∙◌}
use Rattle.scope_listing.specs.declared.LinedUp.{LinedUp}
use Rattle.replay_scopes.specs.declared.Said.{Said}
use Rattle.replay_scopes.specs.Calls.{listing_said}
use Rattle.replay_scopes.proofs.listing_said.Goals as goal

abbrev shown : LinedUp → ℕ → Said
shown x place =
    record { code = x.number; first = x.prefix_from; second = x.prefix_to; third = x.value_from; fourth = x.value_to; fifth = place }

pub returns : goal.returns
unfolding listing_said
returns c =
    ap (λ (x : LinedUp). shown x c.place_after-after.result) c.listed_numbers-told.ensures
    ∙ ap (shown _) c.place_after-after.ensures
