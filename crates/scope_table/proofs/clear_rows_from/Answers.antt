-- `scope_table::clear_rows_from` meets its contract: nothing stands after the end.
use mathlib.Core.Path.{sym}
use native.Mathlib.Omega.{arith}
use lib.ListN.{length}
use Rattle.scope_table.specs.Records.{row_at}
use Rattle.scope_table.proofs.Lists.{all_read, cut_filled, cut_zeros, zeros_later}
use Rattle.scope_table.proofs.clear_rows_from.Goals as goal

pub returns-then-first-records : goal.returns-then-first-records
returns-then-first-records c =
    let a = c.args in
    cut_filled a.records.now (row_at a.from) (length a.records.now) _ (omega arith) (omega arith) (c.fill.ensures.after (λ y e. e)) (all_read a.records.now)

pub returns-else-first-records : goal.returns-else-first-records
returns-else-first-records c =
    let a = c.args in
    sym (cut_zeros a.records.now (row_at a.from) (zeros_later a.records.now (length a.records.now) (row_at a.from) (omega arith) (all_read a.records.now)))
