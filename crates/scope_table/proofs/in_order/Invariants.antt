-- `scope_table::in_order` meets its contract: `at` is the text of the i records passed, each of which starts where those before it
-- end, and `before` is the level of the last of them.
use Prim.Native.Nat.{◌*◌, ◌≤◌}
use mathlib.Core.Path.{◌≡◌}
use Rattle.scope_table.specs.Records.{record_at}
use Rattle.scope_table.specs.Table.{text_of, level_before}
use Rattle.scope_table.proofs.Turns.{Links, Rises}
use Rattle.scope_table.proofs.in_order.Given as goal

abbrev pub invariant-loop-i : goal.invariant-loop-i
invariant-loop-i l = (l.i ≤ l.count) × (l.at ≤ 131072 * l.i) × (l.at ≡ text_of (record_at l.records) l.i) × (l.before ≡ level_before (record_at l.records) l.i) × Links (record_at l.records) l.used l.count l.i × Rises (record_at l.records) l.i
