-- `tag_keys::block_has` meets its contract: while nothing was found, none of the hashes passed is the one looked for.
use Rattle.std.proofs.Common.{◌+◌, ◌-◌, ◌<◌, sym, ◌∙◌, true≢false, arith}
use Rattle.scan.specs.Bytes.{part}
use Rattle.scan.proofs.Laws.{span_more}
use Rattle.scan.proofs.Lists.{part_at}
use Rattle.tag_keys.specs.Keys.{block, hash_is}
use Rattle.tag_keys.proofs.Laws.{hash_other}
use Rattle.tag_keys.proofs.block_has.Goals.{then-kept-hash, else-kept-hash}
use Rattle.tag_keys.proofs.block_has.Goals as goal

pub loop-kept-preserved : goal.loop-kept-preserved
unfolding part
loop-kept-preserved c =
    let a = c.args in
    let here : c.loop-kept.kept-index < a.i + block - a.i = omega arith in
    λ e. elim c.if-kept-hash.branch [
      | then-kept-hash w ↦ absurd (true≢false (sym w.any-is ∙ e))
      | else-kept-hash w ↦
          span_more (hash_is a.hashes.now a.hash) _ _ (c.loop-kept.invariant (sym w.any-is ∙ e))
          (hash_other _ _ _ (λ same. w.if-kept-hash.false (part_at a.hashes.now a.i (a.i + block) c.loop-kept.kept-index here ∙ same)))
    ]
