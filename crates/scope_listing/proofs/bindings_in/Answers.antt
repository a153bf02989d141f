-- `scope_listing::bindings_in` meets its contract: the test, then the listing.
use Prim.Native.Nat.{ℕ, ◌≤◌}
use mathlib.Core.Path.{◌≡◌, sym, ap, ◌∙◌}
use lib.ListN.{length}
use Rattle.std.specs.Prelude.{Option}
use Rattle.scope_table.specs.Records.{record_at}
use Rattle.scope_table.specs.Table.{TEXT}
use Rattle.scope_table.proofs.Good.{ready}
use Rattle.scope_lookup.specs.Lookup.{counted}
use Rattle.scope_lookup.proofs.Laws.{fewer, widest}
use Rattle.scope_lookup.proofs.Padded.{ready_inside}
use Rattle.scope_listing.specs.Listing.{in_effect, past_built_in, found_to, shown_at}
use Rattle.scope_listing.proofs.Laws.{found_within, found_shown}
use Rattle.scope_listing.proofs.Padded.{listing_refused, listing_good}
use Rattle.scope_listing.proofs.bindings_in.Goals as goal

pub returns-in-Err : goal.returns-in-Err
returns-in-Err c =
    let a = c.args in
    listing_refused a.text.now a.records.now a.head a.place c.in-Err.why (sym c.form_in.ensures ∙ c.in-Err.is)

pub first_in_effect-found-requires : goal.first_in_effect-found-requires
first_in_effect-found-requires c =
    let a = c.args in
    ready_inside a.text.now a.records.now a.head (ready a.text.now a.records.now a.head (sym c.form_in.ensures ∙ c.in_default.is))

pub shown-requires : goal.shown-requires
shown-requires c =
    let a = c.args in
    let y = ready a.text.now a.records.now a.head (sym c.form_in.ensures ∙ c.in_default.is) in
    let found : c.first_in_effect-found.result ≡ found_to (in_effect a.text.now (record_at a.records.now) a.head.count) (past_built_in a.place) a.head.count = c.first_in_effect-found.ensures ∙ ap (λ (from : ℕ). found_to (in_effect a.text.now (record_at a.records.now) a.head.count) from a.head.count) c.past_built_in-from.ensures in
    let below : counted c.first_in_effect-found.result ≤ a.head.count = rw found (found_within (in_effect a.text.now (record_at a.records.now) a.head.count) (past_built_in a.place) a.head.count) in
    fewer a.records.now (counted c.first_in_effect-found.result) a.head.count TEXT below (widest a.records.now a.head.count (length a.text.now) (ready_inside a.text.now a.records.now a.head y))

pub returns : goal.returns
returns c =
    let a = c.args in
    let found : c.first_in_effect-found.result ≡ found_to (in_effect a.text.now (record_at a.records.now) a.head.count) (past_built_in a.place) a.head.count = c.first_in_effect-found.ensures ∙ ap (λ (from : ℕ). found_to (in_effect a.text.now (record_at a.records.now) a.head.count) from a.head.count) c.past_built_in-from.ensures in
    c.shown.ensures
    ∙ ap (λ (f : Option ℕ). shown_at (record_at a.records.now) f a.place) found
    ∙ found_shown (in_effect a.text.now (record_at a.records.now) a.head.count) (past_built_in a.place) a.head.count (record_at a.records.now) a.place
    ∙ listing_good a.text.now a.records.now a.head a.place (sym c.form_in.ensures ∙ c.in_default.is)
