-- `scope_table::clear_rows` meets its contract: what is written is zeros up to where there are only zeros.
use native.Mathlib.Omega.{arith}
use Rattle.scope_table.specs.Records.{row_at}
use Rattle.scope_table.proofs.Lists.{cut_filled}
use Rattle.scope_table.proofs.clear_rows.Goals as goal

pub returns : goal.returns
returns c =
    let a = c.args in
    cut_filled a.records.now (row_at a.from) (row_at a.to) _ (omega arith) c.requires.1 (c.fill.ensures.after (λ y e. e)) c.requires.2
