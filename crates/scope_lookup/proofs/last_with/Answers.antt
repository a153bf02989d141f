-- `scope_lookup::last_with` meets its contract: the last of all records is the last of the first i.
use Prim.Native.Nat.{suc, ◌-◌, ◌≤◌}
use mathlib.Core.Path.{◌≡◌, sym, ap, ◌∙◌}
use mathlib.Core.Bool.{false}
use native.Mathlib.Omega.{arith}
use lib.ListN.{length, take}
use Rattle.scope_table.specs.Records.{value_end}
use Rattle.scope_lookup.specs.Lookup.{has_prefix}
use Rattle.scope_table.proofs.Last.{last_hit, last_miss, last_none}
use Rattle.scope_lookup.proofs.Laws.{record_ends, unlike_length, like_length, unlike_last}
use Rattle.scope_lookup.proofs.last_with.Invariants.{passes}
use Rattle.scope_lookup.proofs.last_with.Goals as goal
use Rattle.scope_lookup.proofs.last_with.Goals.{else-b-len-via-then-b-len+then-text-b+else-same_start, else-b-len-via-then-b-len+else-text-b, else-b-len-via-else-b-len}

pub returns-then-same_start : goal.returns-then-same_start
returns-then-same_start c =
    let a = c.args in
    let i = c.loop-i.i in
    let b = c.record_at-b in
    let e : suc (i - 1) ≡ i = omega arith in
    let ends : value_end b.result ≤ length a.text.now = record_ends a.records.now a.count (length a.text.now) (i - 1) c.requires.0 (omega arith) b.result b.ensures in
    let hit = ap (has_prefix a.text.now (take a.len a.name.now)) (sym b.ensures) ∙ like_length a.text.now a.name.now a.len b.result c.requires.2 ends c.if-b-len.true ∙ sym c.same_start.ensures ∙ c.if-same_start.true in
    e ∙ sym (c.loop-i.invariant ∙ last_hit (passes a.text.now a.records.now a.name.now a.len) i (omega arith) hit)

pub loop-i-preserved : goal.loop-i-preserved
loop-i-preserved c =
    let a = c.args in
    let i = c.loop-i.i in
    let b = c.record_at-b in
    let ends : value_end b.result ≤ length a.text.now = record_ends a.records.now a.count (length a.text.now) (i - 1) c.requires.0 (omega arith) b.result b.ensures in
    let other : has_prefix a.text.now (take a.len a.name.now) b.result ≡ false = elim c.else-b-len.branch [
      | else-b-len-via-then-b-len+then-text-b+else-same_start w ↦ like_length a.text.now a.name.now a.len b.result c.requires.2 ends w.if-b-len.true ∙ sym w.same_start.ensures ∙ w.if-same_start.false
      | else-b-len-via-then-b-len+else-text-b w ↦ unlike_last a.text.now a.name.now a.len b.result c.requires.2 ends w.if-b-len.true c.requires.1 w.if-text-b.false
      | else-b-len-via-else-b-len w ↦ unlike_length a.text.now a.name.now a.len b.result c.requires.2 ends w.if-b-len.false
    ] in
    c.loop-i.invariant ∙ last_miss (passes a.text.now a.records.now a.name.now a.len) i (omega arith) (ap (has_prefix a.text.now (take a.len a.name.now)) (sym b.ensures) ∙ other)

pub returns : goal.returns
returns c =
    let a = c.args in
    sym (c.loop-i.invariant ∙ last_none (passes a.text.now a.records.now a.name.now a.len) c.loop-i.i (omega arith))
