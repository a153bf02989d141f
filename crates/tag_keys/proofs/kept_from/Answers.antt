-- `tag_keys::kept_from` meets its contract: in both loops the answer from `k` is the answer from where the loop stands.
use mathlib.Core.Path.{◌≡◌, refl, sym, ◌∙◌}
use native.Mathlib.Omega.{arith}
use Rattle.scan.proofs.Laws.{to_hit, to_miss, to_past, to_skip}
use Rattle.tag_keys.proofs.Laws.{hash_same, hash_other}
use Rattle.tag_keys.proofs.kept_from.Goals as goal

pub skip-init : goal.skip-init
skip-init c = (c.requires.0, refl)

pub overflow_sub-count : goal.overflow_sub-count
overflow_sub-count c = omega (arith, c.skip.invariant.0)

pub block_has-requires : goal.block_has-requires
block_has-requires c = omega (arith, c.requires, c.skip.invariant.0)

pub skip-preserved : goal.skip-preserved
skip-preserved c = (
  omega arith,
  c.skip.invariant.1 ∙ to_skip _ _ _ _ (omega arith) (omega arith) (c.block_has.ensures c.if-block_has.false),
)

pub loop-j-init : goal.loop-j-init
loop-j-init c = c.skip.invariant.1

pub bounds-hashes-j : goal.bounds-hashes-j
bounds-hashes-j c = omega (arith, c.requires)

pub returns-then-hashes-j : goal.returns-then-hashes-j
returns-then-hashes-j c = sym (c.loop-j.invariant ∙ to_hit _ _ _ (omega arith) (hash_same _ _ _ c.if-hashes-j.true))

pub loop-j-preserved : goal.loop-j-preserved
loop-j-preserved c = c.loop-j.invariant ∙ to_miss _ _ _ (omega arith) (hash_other _ _ _ c.if-hashes-j.false)

pub returns : goal.returns
returns c =
    let all : c.loop-j.j ≡ c.args.count = omega (arith, c.skip.invariant.0) in
    sym (c.loop-j.invariant ∙ to_past _ _ _ (omega arith) ∙ all)
