-- `scope_lookup::last_default` meets its contract: the last of all records is the last of the first i.
use Prim.Native.Nat.{ℕ}
use mathlib.Core.Path.{◌≡◌}
use mathlib.Core.Bool.{Bool}
use mathlib.Core.List.{List}
use Rattle.scope_table.specs.Records.{record_at}
use Rattle.scope_table.specs.Lists.{last_below}
use Rattle.scope_lookup.specs.Lookup.{is_default}
use Rattle.scope_lookup.proofs.last_default.Given as goal

abbrev pub passes : (records : List ℕ) (i : ℕ) → Bool
passes records i = is_default (record_at records i)

abbrev pub invariant-loop-i : goal.invariant-loop-i
invariant-loop-i l = last_below (passes l.records) l.count ≡ last_below (passes l.records) l.i
