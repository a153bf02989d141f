-- `export_lookups::mz_binding_of` meets its contract: it is the call on lent memory, and its numbers are written.
use mathlib.Core.Path.{ap, ◌∙◌}
use Rattle.scope_table.specs.Lent.{lent}
use Rattle.scope_table.specs.declared.Head.{Head}
use Rattle.scope_listing.specs.Listing.{listing, bindings_at_of}
use Rattle.std.specs.Prelude.{Err}
use Rattle.scope_table.specs.declared.FormError.TheVariants.{WrongLength}
use Rattle.scope_listing.specs.declared.Listing.{Listing}
use Rattle.export_lookups.specs.Listings.{listed_by}
use Rattle.export_lookups.proofs.mz_binding_of.Goals as goal

pub returns : goal.returns
returns c =
    let a = c.args in
    c.list.ensures
    ∙ ap (λ (x : Listing). listed_by x a.detail.now) c.bindings_of_in.ensures
    ∙ ap (λ (x : Head). listed_by (lent (listing (Err WrongLength) a.place) (bindings_at_of a.level a.place) a.text.now a.records.now x) a.detail.now) c.head_from-h.ensures
