-- `scope_table::fresh_in` meets its contract: what is lent decides first; else all of it is cleared, and the built-ins are
-- written.
use Prim.Native.Nat.{ℕ}
use mathlib.Core.Path.{◌≡◌, sym, ap, ◌∙◌}
use mathlib.Core.List.{List}
use native.Mathlib.Omega.{arith}
use lib.ListN.{length}
use Rattle.scan.specs.Lists.{over}
use Rattle.scope_table.specs.Lists.{cut}
use Rattle.scope_table.specs.Table.{built_in, built_in_rows}
use Rattle.scope_table.proofs.Lists.{all_read, cut_all, cut_length}
use Rattle.scope_table.proofs.Fresh.{fresh_wrong, fresh_more, fresh_lent, fresh_done}
use Rattle.scope_table.proofs.fresh_in.Goals as goal

pub returns-then-not-within_capacity : goal.returns-then-not-within_capacity
returns-then-not-within_capacity c =
    let a = c.args in
    fresh_wrong a.text.now a.records.now a.head (sym c.within_capacity.ensures ∙ c.if-not-within_capacity.true)

pub returns-then-not-fits : goal.returns-then-not-fits
returns-then-not-fits c =
    let a = c.args in
    fresh_more a.text.now a.records.now a.head (sym c.within_capacity.ensures ∙ c.if-not-within_capacity.false) (sym c.fits.ensures ∙ c.if-not-fits.true)

pub clear_bytes-requires : goal.clear_bytes-requires
clear_bytes-requires c = (omega arith, all_read c.args.text.now)

pub write_built_in-requires : goal.write_built_in-requires
write_built_in-requires c =
    let a = c.args in
    let l = fresh_lent a.text.now a.records.now a.head (sym c.within_capacity.ensures ∙ c.if-not-within_capacity.false) (sym c.fits.ensures ∙ c.if-not-fits.false) in
    (omega (arith, l.0, ap length c.clear_bytes.ensures ∙ cut_length a.text.now _ (omega arith)), omega (arith, l.1, ap length (c.fill.ensures.after (λ y e. e) ∙ sym (cut_all a.records.now)) ∙ cut_length a.records.now 0 (omega arith)))

pub returns : goal.returns
returns c =
    let a = c.args in
    let t : c.write_built_in.new.text ≡ over (cut a.text.now 0) 0 built_in = c.write_built_in.ensures.0 ∙ ap (λ (u : List ℕ). over u 0 built_in) c.clear_bytes.ensures in
    let r : c.write_built_in.new.records ≡ over (cut a.records.now 0) 0 built_in_rows = c.write_built_in.ensures.1 ∙ ap (λ (u : List ℕ). over u 0 built_in_rows) (c.fill.ensures.after (λ y e. e) ∙ sym (cut_all a.records.now)) in
    rw (t, r) (fresh_done a.text.now a.records.now a.head (sym c.within_capacity.ensures ∙ c.if-not-within_capacity.false) (sym c.fits.ensures ∙ c.if-not-fits.false))
