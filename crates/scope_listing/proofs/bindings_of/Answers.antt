-- `scope_listing::bindings_of` meets its contract: memory of full size is the resolver itself.
use Rattle.std.proofs.Common.{rules}
use mathlib.Core.Path.{ap, ◌∙◌}
use Rattle.scope_table.proofs.Full.{full_asks}
use Rattle.scope_listing.specs.Listing.{listing, numbered_listing, bindings_at_of}
use Rattle.std.specs.Prelude.{Err}
use Rattle.scope_table.specs.declared.FormError.TheVariants.{WrongLength}
use Rattle.scope_listing.proofs.bindings_of.Goals as goal

pub returns : goal.returns
returns c =
    let a = c.args in
    ap numbered_listing (c.bindings_of_in.ensures ∙ full_asks a.r.text a.r.records a.r.head (search rules) (search rules) (listing (Err WrongLength) a.place) (bindings_at_of a.asked a.place))
