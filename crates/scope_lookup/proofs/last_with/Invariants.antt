-- `scope_lookup::last_with` meets its contract: the last of all records is the last of the first i.
use Prim.Native.Nat.{ℕ}
use mathlib.Core.Path.{◌≡◌}
use mathlib.Core.Bool.{Bool}
use mathlib.Core.List.{List}
use lib.ListN.{take}
use Rattle.scope_table.specs.Records.{record_at}
use Rattle.scope_table.specs.Lists.{last_below}
use Rattle.scope_lookup.specs.Lookup.{has_prefix}
use Rattle.scope_lookup.proofs.last_with.Given as goal

abbrev pub passes : (text records name : List ℕ) (len i : ℕ) → Bool
passes text records name len i = has_prefix text (take len name) (record_at records i)

abbrev pub invariant-loop-i : goal.invariant-loop-i
invariant-loop-i l = last_below (passes l.text l.records l.name l.len) l.count ≡ last_below (passes l.text l.records l.name l.len) l.i
