-- `scope_listing::first_with` meets its contract: the answer from `from` is the answer from i.
use Prim.Native.Nat.{ℕ}
use mathlib.Core.Path.{◌≡◌}
use mathlib.Core.Bool.{Bool}
use mathlib.Core.List.{List}
use Rattle.scope_table.specs.Records.{record_at}
use Rattle.scope_lookup.specs.Lookup.{has_prefix}
use Rattle.scope_listing.specs.Listing.{found_to}
use Rattle.scope_listing.proofs.first_with.Given as goal

abbrev pub passes : (text records prefix : List ℕ) (i : ℕ) → Bool
passes text records prefix i = has_prefix text prefix (record_at records i)

abbrev pub invariant-loop-i : goal.invariant-loop-i
invariant-loop-i l = found_to (passes l.text l.records l.prefix) l.from l.count ≡ found_to (passes l.text l.records l.prefix) l.i l.count
