-- `scope_table::is_table` meets its contract: the tests one by one.
use mathlib.Core.Path.{sym, ◌∙◌}
use native.Mathlib.Omega.{arith}
use Rattle.scope_table.proofs.Good.{within, within_rows}
use Rattle.scope_table.proofs.is_table.Goals as goal

pub opens_built_in-requires : goal.opens_built_in-requires
opens_built_in-requires c = within_rows _ _ c.args.head.used c.args.head.count c.args.head.level c.requires (sym c.is_within.ensures ∙ c.if-not-is_within.false)

pub in_order-requires : goal.in_order-requires
in_order-requires c =
    let h = c.args.head in
    let w = sym c.is_within.ensures ∙ c.if-not-is_within.false in
    (within_rows _ _ h.used h.count h.level c.requires w, (within h.used h.count h.level w).few_bytes, (within h.used h.count h.level w).few_records)

pub overflow_mul-count : goal.overflow_mul-count
overflow_mul-count c =
    let h = c.args.head in
    let w = within h.used h.count h.level (sym c.is_within.ensures ∙ c.if-not-is_within.false) in
    omega (arith, w.few_records)
