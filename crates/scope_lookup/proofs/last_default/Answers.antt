-- `scope_lookup::last_default` meets its contract: the last of all records is the last of the first i.
use Prim.Native.Nat.{suc, ◌-◌}
use mathlib.Core.Path.{◌≡◌, sym, ap, ◌∙◌}
use native.Mathlib.Omega.{arith}
use borrow.Author.Tests.{eq-eqb, ne_eqb}
use Rattle.scope_lookup.specs.Lookup.{is_default}
use Rattle.scope_table.proofs.Last.{last_hit, last_miss, last_none}
use Rattle.scope_lookup.proofs.last_default.Invariants.{passes}
use Rattle.scope_lookup.proofs.last_default.Goals as goal

pub returns-then-record_at-eq0 : goal.returns-then-record_at-eq0
unfolding is_default
returns-then-record_at-eq0 c =
    let i = c.loop-i.i in
    let e : suc (i - 1) ≡ i = omega arith in
    e ∙ sym (c.loop-i.invariant ∙ last_hit (passes c.args.records.now) i (omega arith) (ap is_default (sym c.record_at.ensures) ∙ eq-eqb _ _ c.if-record_at-eq0.true))

pub loop-i-preserved : goal.loop-i-preserved
unfolding is_default
loop-i-preserved c =
    c.loop-i.invariant ∙ last_miss (passes c.args.records.now) c.loop-i.i (omega arith) (ap is_default (sym c.record_at.ensures) ∙ ne_eqb _ _ c.if-record_at-eq0.false)

pub returns : goal.returns
returns c = sym (c.loop-i.invariant ∙ last_none (passes c.args.records.now) c.loop-i.i (omega arith))
