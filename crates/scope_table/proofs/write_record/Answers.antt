-- `scope_table::write_record` meets its contract: the numbers are written one by one.
use native.Mathlib.Omega.{arith}
use lib.ListN.{length-set}
use Rattle.scope_table.proofs.Rows.{row_written}
use Rattle.scope_table.proofs.write_record.Goals as goal

pub bounds-records-row-2 : goal.bounds-records-row-2
bounds-records-row-2 c = simp length-set (omega arith)

pub bounds-records-row-3 : goal.bounds-records-row-3
bounds-records-row-3 c = simp length-set (omega arith)

pub bounds-records-row-4 : goal.bounds-records-row-4
bounds-records-row-4 c = simp length-set (omega arith)

pub returns : goal.returns
returns c = row_written c.args.records.now c.args.i c.args.written (omega arith)
