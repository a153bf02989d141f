-- `scope_listing::first_at_level` meets its contract: the answer from `from` is the answer from i, and past a higher level
-- there is none.
use Prim.Native.Nat.{◌<◌}
use mathlib.Core.Path.{sym, ap, ◌∙◌}
use Rattle.scope_table.specs.Records.{record_at}
use Rattle.scope_listing.specs.Listing.{at_level}
use Rattle.scope_listing.proofs.Laws.{rising_lent, found_hit, found_miss, found_past, level_none}
use Rattle.scope_listing.proofs.first_at_level.Invariants.{passes}
use Rattle.scope_listing.proofs.first_at_level.Goals as goal

pub record_at-b-requires : goal.record_at-b-requires
record_at-b-requires c =
    rising_lent c.args.records.now c.args.count c.loop-i.i c.requires c.loop-i-test.true

pub returns-then-asked-b : goal.returns-then-asked-b
returns-then-asked-b c =
    let h : c.args.asked < (record_at c.args.records.now c.loop-i.i).level = rw c.record_at-b.ensures at c.if-asked-b.true in
    sym (c.loop-i.invariant ∙ level_none c.args.records.now c.args.count c.args.asked c.requires c.loop-i.i c.loop-i-test.true h)

pub returns-then-at_level : goal.returns-then-at_level
returns-then-at_level c =
    let a = c.args in
    let e = ap (at_level a.asked) (sym c.record_at-b.ensures) ∙ sym c.at_level.ensures ∙ c.if-at_level.true in
    sym (c.loop-i.invariant ∙ found_hit (passes a.records.now a.asked) c.loop-i.i a.count c.loop-i-test.true e)

pub loop-i-preserved : goal.loop-i-preserved
loop-i-preserved c =
    let a = c.args in
    let e = ap (at_level a.asked) (sym c.record_at-b.ensures) ∙ sym c.at_level.ensures ∙ c.if-at_level.false in
    c.loop-i.invariant ∙ found_miss (passes a.records.now a.asked) c.loop-i.i a.count c.loop-i-test.true e

pub returns : goal.returns
returns c = sym (c.loop-i.invariant ∙ found_past _ _ _ c.loop-i-test.false)
