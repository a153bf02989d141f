-- `scope_table::write_built_in` meets its contract: two rows side by side are one write.
use Prim.Native.Nat.{ℕ}
use mathlib.Core.Path.{ap, ◌∙◌}
use mathlib.Core.List.{List}
use native.Mathlib.Omega.{arith}
use Rattle.scan.specs.Bytes.{bytes, bytes_from}
use Rattle.scan.specs.Lists.{over}
use Rattle.scan.proofs.Lists.{over_over}
use Rattle.scope_table.specs.Records.{row_at, binding_of, row_of}
use Rattle.scope_table.specs.Table.{built_in}
use Rattle.scope_table.proofs.write_built_in.Goals as goal

pub returns : goal.returns
unfolding built_in bytes bytes_from
returns c =
    let r = c.args.records.now in
    (c.put.ensures, c.write_record-2.ensures ∙ ap (λ (u : List ℕ). over u (row_at 1) (row_of (binding_of 39 5 29 0))) c.write_record.ensures ∙ over_over r 0 (row_of (binding_of 0 3 36 0)) (row_of (binding_of 39 5 29 0)) (omega arith))
