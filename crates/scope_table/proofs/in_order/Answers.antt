-- `scope_table::in_order` meets its contract: `at` is the text of the i records passed, each of which starts where those before it
-- end, and `before` is the level of the last of them.
use mathlib.Core.Path.{◌≡◌, refl, sym, ap, ◌∙◌}
use native.Mathlib.Omega.{arith}
use lib.Dec.{leb}
use borrow.Author.Tests.{eq-eqb, ne_eqb}
use borrow.Author.Count.{below_none, below_more}
use Rattle.scope_table.specs.Records.{record_at}
use Rattle.scope_table.specs.Table.{text_of, level_before, is_chain}
use Rattle.scope_table.proofs.Lists.{and_take, and_fail, and_off}
use Rattle.scope_table.proofs.Turns.{text_next, before_next, link_on, chain_off, chain_long, chain_all, bits_left, bits_right, bits_sum, rises_on, rise_low, rise_all}
use Rattle.scope_table.proofs.in_order.Goals as goal

pub loop-i-init : goal.loop-i-init
unfolding text_of level_before
loop-i-init c = (omega arith, omega arith, refl, refl, below_none _, below_none _)

pub returns-then-b-at : goal.returns-then-b-at
returns-then-b-at c =
    let l = c.loop-i in
    let a = c.args in
    sym (and_fail _ (sym (chain_off (record_at a.records.now) a.used a.count l.i _ c.record_at-b.ensures (omega arith) (λ e. c.if-b-at.true (e ∙ sym l.invariant.2)))))

pub returns-then-used-prefix_len : goal.returns-then-used-prefix_len
returns-then-used-prefix_len c =
    let l = c.loop-i in
    let a = c.args in
    let b = c.record_at-b in
    sym (and_fail _ (sym (chain_long (record_at a.records.now) a.used a.count l.i _ b.ensures (omega arith) (omega (arith, bits_sum b.result.prefix_len b.result.value_len)))))

pub returns-then-here-before : goal.returns-then-here-before
returns-then-here-before c =
    let l = c.loop-i in
    let a = c.args in
    sym (and_off (is_chain (record_at a.records.now) a.used a.count) (rise_low (record_at a.records.now) a.count a.top l.i _ c.record_at-b.ensures (omega arith) (omega (arith, l.invariant.3))))

pub overflow_add-at : goal.overflow_add-at
overflow_add-at c =
    let b = c.record_at-b in
    omega (arith, bits_left b.result.prefix_len b.result.value_len, bits_right b.result.prefix_len b.result.value_len)

pub overflow_add-at-in-loop-i : goal.overflow_add-at-in-loop-i
overflow_add-at-in-loop-i c =
    let b = c.record_at-b in
    omega (arith, bits_left b.result.prefix_len b.result.value_len, bits_right b.result.prefix_len b.result.value_len)

pub loop-i-preserved : goal.loop-i-preserved
loop-i-preserved c =
    let l = c.loop-i in
    let a = c.args in
    let b = c.record_at-b in
    let rows = record_at a.records.now in
    (omega arith, omega (arith, bits_left b.result.prefix_len b.result.value_len, bits_right b.result.prefix_len b.result.value_len), omega (arith, text_next rows l.i _ b.ensures, l.invariant.2), before_next rows l.i _ b.ensures, below_more _ _ l.invariant.4 (link_on rows a.used a.count l.i _ b.ensures (c.if-b-at.false ∙ l.invariant.2)), below_more _ _ l.invariant.5 (rises_on rows l.i _ b.ensures (omega (arith, l.invariant.3))))

pub returns-then-at-used : goal.returns-then-at-used
returns-then-at-used c =
    let l = c.loop-i in
    let a = c.args in
    let rows = record_at a.records.now in
    let e : l.i ≡ a.count = omega arith in
    let chained = sym (chain_all rows a.used a.count l.i l.at e l.invariant.2 l.invariant.4) ∙ eq-eqb _ _ c.if-at-used.true in
    ap (λ x. leb x a.top) (l.invariant.3 ∙ ap (level_before rows) e) ∙ rise_all rows a.count a.top (rw (sym e) l.invariant.5) ∙ sym (and_take chained refl)

pub returns-else-at-used : goal.returns-else-at-used
returns-else-at-used c =
    let l = c.loop-i in
    let a = c.args in
    ne_eqb _ _ c.if-at-used.false ∙ sym (and_fail _ (sym (chain_all (record_at a.records.now) a.used a.count l.i l.at (omega arith) l.invariant.2 l.invariant.4) ∙ ne_eqb _ _ c.if-at-used.false))
