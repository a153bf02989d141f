-- `scope_change::kept` meets its contract: what is kept of n records is what is kept of the first i.
use mathlib.Core.Path.{◌≡◌}
use Rattle.scope_table.specs.Records.{record_at}
use Rattle.scope_change.specs.Change.{kept_at}
use Rattle.scope_change.proofs.kept.Given as goal

abbrev pub invariant-loop-i : goal.invariant-loop-i
invariant-loop-i l = kept_at (record_at l.records) l.level l.n ≡ kept_at (record_at l.records) l.level l.i
