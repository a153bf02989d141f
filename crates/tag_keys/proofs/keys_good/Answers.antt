-- `tag_keys::keys_good` meets its contract: no key before i is bad, so the search for a bad one goes on from i.
use Rattle.std.proofs.Common.{sym, ◌∙◌}
use Rattle.scan.proofs.Laws.{to_miss}
use Rattle.tag_keys.specs.Keys.{name_at}
use Rattle.tag_keys.proofs.Laws.{bad_order, bad_end, bad_hash, fine, table_many, table_short, table_bad, table_all}
use Rattle.tag_keys.proofs.keys_good.Goals as goal
use Rattle.tag_keys.proofs.keys_good.Goals.{then-count-gt-CAPACITY-via-then-count-gt-CAPACITY, then-count-gt-CAPACITY-via-else-count-gt-CAPACITY+then-not-holds, then-start-end-via-then-start-end, then-start-end-via-else-start-end+then-end-tag, then-start-end-via-else-start-end+else-end-tag+then-hash_of-hashes}

pub returns-then-count-gt-CAPACITY : goal.returns-then-count-gt-CAPACITY
returns-then-count-gt-CAPACITY c =
    elim c.then-count-gt-CAPACITY.branch [
      | then-count-gt-CAPACITY-via-then-count-gt-CAPACITY w ↦ table_many _ _ _ _ _ w.if-count-gt-CAPACITY.true
      | then-count-gt-CAPACITY-via-else-count-gt-CAPACITY+then-not-holds w ↦ table_short _ _ _ _ _ w.if-count-gt-CAPACITY.false (sym w.holds.ensures ∙ w.if-not-holds.true)
    ]

pub returns-then-start-end : goal.returns-then-start-end
unfolding name_at
returns-then-start-end c =
    let bad = table_bad _ _ _ _ _ c.if-count-gt-CAPACITY.false (sym c.holds.ensures ∙ c.if-not-holds.false) _ c.loop-i.invariant c.loop-i-test.true in
    elim c.then-start-end.branch [
      | then-start-end-via-then-start-end w ↦ bad (bad_order _ _ _ _ _ w.if-start-end.true)
      | then-start-end-via-else-start-end+then-end-tag w ↦ bad (bad_end _ _ _ _ _ w.if-start-end.false w.if-end-tag.true)
      | then-start-end-via-else-start-end+else-end-tag+then-hash_of-hashes w ↦ bad (bad_hash _ _ _ _ _ w.if-start-end.false w.if-end-tag.false (λ e. w.if-hash_of-hashes.true (w.hash_of.ensures ∙ sym e)))
    ]

pub loop-i-preserved : goal.loop-i-preserved
unfolding name_at
loop-i-preserved c =
    c.loop-i.invariant ∙ to_miss _ _ _ c.loop-i-test.true (fine _ _ _ _ _ c.if-start-end.false c.if-end-tag.false (sym c.if-hash_of-hashes.false ∙ c.hash_of.ensures))

pub returns : goal.returns
returns c = table_all _ _ _ _ _ c.if-count-gt-CAPACITY.false (sym c.holds.ensures ∙ c.if-not-holds.false) _ c.loop-i.invariant c.loop-i-test.false
