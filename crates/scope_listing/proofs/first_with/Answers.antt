-- `scope_listing::first_with` meets its contract: the answer from `from` is the answer from i.
use Prim.Native.Nat.{ℕ}
use mathlib.Core.Path.{sym, ap, ◌∙◌}
use mathlib.Core.List.{List}
use lib.ListN.{length}
use Rattle.scan.specs.Bytes.{same_bytes}
use Rattle.scope_listing.proofs.Laws.{found_hit, found_miss, found_past}
use Rattle.scope_table.specs.Records.{prefix_in}
use Rattle.scope_table.specs.declared.NamespaceBinding.{NamespaceBinding}
use Rattle.scope_lookup.specs.Lookup.{has_prefix}
use Rattle.scope_lookup.proofs.Laws.{row_lent, record_ends}
use Rattle.scope_listing.proofs.first_with.Invariants.{passes}
use Rattle.scope_listing.proofs.first_with.Goals as goal

pub record_at-b-requires : goal.record_at-b-requires
record_at-b-requires c =
    row_lent c.args.records.now c.args.count (length c.args.text.now) c.loop-i.i c.requires c.loop-i-test.true

pub prefix-requires : goal.prefix-requires
prefix-requires c =
    record_ends c.args.records.now c.args.count (length c.args.text.now) c.loop-i.i c.requires c.loop-i-test.true c.record_at-b.result c.record_at-b.ensures

pub returns-then-same : goal.returns-then-same
unfolding has_prefix
returns-then-same c =
    let a = c.args in
    let r = c.record_at-b in
    let e = ap (λ (b : NamespaceBinding). same_bytes (prefix_in a.text.now b) a.prefix.now) (sym r.ensures) ∙ ap (λ (p : List ℕ). same_bytes p a.prefix.now) (sym c.prefix.ensures) ∙ sym c.same.ensures ∙ c.if-same.true in
    sym (c.loop-i.invariant ∙ found_hit (passes a.text.now a.records.now a.prefix.now) c.loop-i.i a.count c.loop-i-test.true e)

pub loop-i-preserved : goal.loop-i-preserved
unfolding has_prefix
loop-i-preserved c =
    let a = c.args in
    let r = c.record_at-b in
    let e = ap (λ (b : NamespaceBinding). same_bytes (prefix_in a.text.now b) a.prefix.now) (sym r.ensures) ∙ ap (λ (p : List ℕ). same_bytes p a.prefix.now) (sym c.prefix.ensures) ∙ sym c.same.ensures ∙ c.if-same.false in
    c.loop-i.invariant ∙ found_miss (passes a.text.now a.records.now a.prefix.now) c.loop-i.i a.count c.loop-i-test.true e

pub returns : goal.returns
returns c = sym (c.loop-i.invariant ∙ found_past _ _ _ c.loop-i-test.false)
