-- `scope_change::kept` meets its contract: what is kept of n records is what is kept of the first i.
use mathlib.Core.Path.{◌∙◌}
use native.Mathlib.Omega.{arith}
use Rattle.scope_table.specs.Records.{record_at}
use Rattle.scope_change.proofs.Change.{keep_hit, keep_miss, keep_within}
use Rattle.scope_change.proofs.kept.Goals as goal

pub returns-then-record_at-level : goal.returns-then-record_at-level
returns-then-record_at-level c =
    let l = c.loop-i in
    let a = c.args in
    omega (arith, l.invariant, keep_hit (record_at a.records.now) a.level l.i _ (omega arith) c.record_at.ensures c.if-record_at-level.true)

pub loop-i-preserved : goal.loop-i-preserved
loop-i-preserved c =
    let l = c.loop-i in
    let a = c.args in
    l.invariant ∙ keep_miss (record_at a.records.now) a.level l.i _ (omega arith) c.record_at.ensures c.if-record_at-level.false

pub returns : goal.returns
returns c =
    let l = c.loop-i in
    let a = c.args in
    omega (arith, l.invariant, keep_within (record_at a.records.now) a.level l.i, c.requires.bound)
