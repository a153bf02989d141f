-- `tag_batch::read_good` meets its contract: the whole batch is what is written so far and the batch of what is left.
use mathlib.Core.Path.{refl, ap, ◌∙◌}
use native.Mathlib.Omega.{arith}
use Rattle.std.specs.Prelude.{Result}
use Rattle.tag_step.specs.Next.{keys_lent, lent_state, stands_at, state_good}
use Rattle.tag_step.proofs.Whole.{good_inside}
use Rattle.tag_batch.specs.declared.BatchRead.{BatchRead}
use Rattle.tag_batch.specs.declared.WrongTables.{WrongTables}
use Rattle.tag_batch.specs.declared.Why.TheVariants.{OutFull}
use Rattle.tag_batch.specs.Batch.{batched}
use Rattle.tag_batch.proofs.Turns.{runs, turn_first, goes_full, goes_short, goes_end, goes_on, goes_sieve, code_end, code_other, left_is}
use Rattle.tag_batch.proofs.read_good.Goals as goal

pub loop-n-init : goal.loop-n-init
loop-n-init c =
    let a = c.args in
    (refl, refl, turn_first a.tag.now (runs a.tag.now) (stands_at a.at a.starts.now a.ends.now a.hashes.now) a.out.now c.requires.ripe, c.requires.sieve_of)

pub step_in-step-requires-clause-keys_in : goal.step_in-step-requires-clause-keys_in
unfolding state_good
step_in-step-requires-clause-keys_in c =
    let l = c.loop-n in
    good_inside c.args.tag.now (keys_lent l.starts l.ends l.hashes l.left.count) l.left.place l.invariant.2.ripe.good

pub returns-in_default : goal.returns-in_default
returns-in_default c =
    let a = c.args in
    let l = c.loop-n in
    rw l.invariant.0 (goes_short a.tag.now (stands_at a.at a.starts.now a.ends.now a.hashes.now) a.out.now l.n l.left.place a.at.html a.at.checks l.starts l.ends l.hashes l.left.count l.out l.invariant.2 (omega (arith, c.loop-n-test.true, l.invariant.2.size)) c.step_in-step.result _ _ _ c.step_in-step.ensures.0 c.in_default.is)

pub returns-then-x-eq0 : goal.returns-then-x-eq0
returns-then-x-eq0 c =
    let a = c.args in
    let l = c.loop-n in
    rw l.invariant.0 (goes_end a.tag.now (stands_at a.at a.starts.now a.ends.now a.hashes.now) a.out.now l.n l.left.place a.at.html a.at.checks l.starts l.ends l.hashes l.left.count l.out l.invariant.2 (omega (arith, c.loop-n-test.true, l.invariant.2.size)) c.step_in-step.result _ _ _ c.step_in-step.ensures.0 _ c.in-Some.is (code_end _ c.numbers-x.result c.numbers-x.ensures c.if-x-eq0.true))

pub loop-n-preserved : goal.loop-n-preserved
loop-n-preserved c =
    let a = c.args in
    let l = c.loop-n in (
      refl,
      l.invariant.1,
      rw (c.put.ensures, c.numbers-x.ensures) (goes_on a.tag.now (stands_at a.at a.starts.now a.ends.now a.hashes.now) a.out.now l.n l.left.place a.at.html a.at.checks l.starts l.ends l.hashes l.left.count l.out l.invariant.2 (omega (arith, c.loop-n-test.true, l.invariant.2.size)) c.step_in-step.result _ _ _ c.step_in-step.ensures.0 _ c.in-Some.is (code_other _ c.numbers-x.result c.numbers-x.ensures c.if-x-eq0.false)),
      goes_sieve _ _ _ _ _ _ c.step_in-step.ensures.1 _ c.in-Some.is,
    )

pub returns : goal.returns
returns c =
    let a = c.args in
    let l = c.loop-n in
    ap (λ (x : Result BatchRead WrongTables). batched x l.starts l.ends l.hashes l.out) (left_is l.left l.n OutFull l.invariant.0 l.invariant.1)
    ∙ goes_full a.tag.now (stands_at a.at a.starts.now a.ends.now a.hashes.now) a.out.now l.n (lent_state l.left.place a.at.html a.at.checks l.starts l.ends l.hashes l.left.count) l.out l.invariant.2 (omega (arith, c.loop-n-test.false, l.invariant.2.size))
