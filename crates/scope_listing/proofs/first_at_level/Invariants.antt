-- `scope_listing::first_at_level` meets its contract: the answer from `from` is the answer from i, and past a higher level
-- there is none.
use Prim.Native.Nat.{ℕ}
use mathlib.Core.Path.{◌≡◌}
use mathlib.Core.Bool.{Bool}
use mathlib.Core.List.{List}
use Rattle.scope_table.specs.Records.{record_at}
use Rattle.scope_listing.specs.Listing.{found_to, at_level}
use Rattle.scope_listing.proofs.first_at_level.Given as goal

abbrev pub passes : (records : List ℕ) (asked i : ℕ) → Bool
passes records asked i = at_level asked (record_at records i)

abbrev pub invariant-loop-i : goal.invariant-loop-i
invariant-loop-i l = found_to (passes l.records l.asked) l.from l.count ≡ found_to (passes l.records l.asked) l.i l.count
