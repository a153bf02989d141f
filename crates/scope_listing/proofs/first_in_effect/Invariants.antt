-- `scope_listing::first_in_effect` meets its contract: the answer from `from` is the answer from i.
use mathlib.Core.Path.{◌≡◌}
use Rattle.scope_table.specs.Records.{record_at}
use Rattle.scope_listing.specs.Listing.{found_to, in_effect}
use Rattle.scope_listing.proofs.first_in_effect.Given as goal

abbrev pub invariant-loop-i : goal.invariant-loop-i
invariant-loop-i l = found_to (in_effect l.text (record_at l.records) l.count) l.from l.count ≡ found_to (in_effect l.text (record_at l.records) l.count) l.i l.count
