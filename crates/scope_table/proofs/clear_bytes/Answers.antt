-- `scope_table::clear_bytes` meets its contract: what is written is zeros up to where there are only zeros.
use Rattle.scope_table.proofs.Lists.{cut_filled, cut_zeros, zeros_later}
use mathlib.Core.Path.{sym}
use native.Mathlib.Omega.{arith}
use Rattle.scope_table.proofs.clear_bytes.Goals as goal

pub returns-then-from-to : goal.returns-then-from-to
returns-then-from-to c =
    let a = c.args in
    cut_filled a.t.now a.from a.to _ (omega arith) c.requires.0 (c.fill.ensures.after (λ y e. e)) c.requires.1

pub returns-else-from-to : goal.returns-else-from-to
returns-else-from-to c =
    let a = c.args in
    sym (cut_zeros a.t.now a.from (zeros_later a.t.now a.to a.from c.if-from-to.false c.requires.1))
