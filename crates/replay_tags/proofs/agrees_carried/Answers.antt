-- `replay_tags::agrees_carried` meets its contract: what is left of the run and of the record decides. The measure is how many
-- recorded answers are left.
use Prim.Native.Nat.{◌-◌, ◌*◌}
use mathlib.Core.Path.{◌≡◌, sym, ap, ◌∙◌}
use native.Mathlib.Omega.{arith}
use lib.ListN.{drop}
use Rattle.tag_step.specs.Next.{next_of}
use Rattle.tag_step.specs.declared.Step.{Step}
use Rattle.tag_step.proofs.Good.{next_sized, opened_sized}
use Rattle.tag_batch.specs.Batch.{five_of}
use Rattle.tag_batch.proofs.Turns.{code_end, code_other}
use Rattle.replay_tags.proofs.Turns.{count_none, left_some, one_there, same_as, ends_at, one_too_many, one_differs, one_on, rest_on}
use Rattle.replay_tags.proofs.agrees_carried.Goals as goal

pub loop-step-init : goal.loop-step-init
loop-step-init c =
    let a = c.args in
    let e : a.answers - 0 ≡ a.answers = omega arith in
    (omega arith, rw c.opened_as-state.ensures (opened_sized a.opening a.html a.checks), rw (c.opened_as-state.ensures, e))

pub returns-then-x-eq0 : goal.returns-then-x-eq0
returns-then-x-eq0 c =
    let a = c.args in
    let l = c.loop-step in
    let five = c.numbers-x.ensures ∙ ap (λ (y : Step). five_of y.answer) c.next-step.ensures in
    count_none l.total a.answers l.invariant.0
    ∙ ends_at a.tag.now l.state l.invariant.1 (a.answers - l.total) (drop (10 * l.total) a.recorded.now) (code_end _ _ five c.if-x-eq0.true)
    ∙ sym l.invariant.2

pub returns-then-total-answers : goal.returns-then-total-answers
returns-then-total-answers c =
    let a = c.args in
    let l = c.loop-step in
    let five = c.numbers-x.ensures ∙ ap (λ (y : Step). five_of y.answer) c.next-step.ensures in
    one_too_many a.tag.now l.state l.invariant.1 (a.answers - l.total) (drop (10 * l.total) a.recorded.now) (code_other _ _ five c.if-x-eq0.false) (omega (arith, c.if-total-answers.true))
    ∙ sym l.invariant.2

pub same_answer-requires : goal.same_answer-requires
same_answer-requires c =
    let a = c.args in
    let l = c.loop-step in
    let some = left_some l.total a.answers l.invariant.0 c.if-total-answers.false in
    one_there a.recorded.now l.total a.answers some c.requires

pub returns-then-not-same_answer : goal.returns-then-not-same_answer
returns-then-not-same_answer c =
    let a = c.args in
    let l = c.loop-step in
    let five = c.numbers-x.ensures ∙ ap (λ (y : Step). five_of y.answer) c.next-step.ensures in
    let same = same_as _ a.recorded.now l.total five c.same_answer.ensures in
    one_differs a.tag.now l.state l.invariant.1 (a.answers - l.total) (drop (10 * l.total) a.recorded.now) (code_other _ _ five c.if-x-eq0.false) (left_some l.total a.answers l.invariant.0 c.if-total-answers.false) same c.if-not-same_answer.true
    ∙ sym l.invariant.2

pub loop-step-smaller : goal.loop-step-smaller
loop-step-smaller c =
    let a = c.args in
    let l = c.loop-step in
    omega (arith, left_some l.total a.answers l.invariant.0 c.if-total-answers.false)

pub loop-step-preserved : goal.loop-step-preserved
loop-step-preserved c =
    let a = c.args in
    let l = c.loop-step in
    let five = c.numbers-x.ensures ∙ ap (λ (y : Step). five_of y.answer) c.next-step.ensures in
    let same = same_as _ a.recorded.now l.total five c.same_answer.ensures in
    let some = left_some l.total a.answers l.invariant.0 c.if-total-answers.false in
    let on = one_on a.tag.now l.state l.invariant.1 (a.answers - l.total) (drop (10 * l.total) a.recorded.now) (code_other _ _ five c.if-x-eq0.false) some same c.if-not-same_answer.false in
    (omega (arith, some), rw c.next-step.ensures (next_sized a.tag.now l.state l.invariant.1), l.invariant.2 ∙ on ∙ rw c.next-step.ensures (rest_on a.tag.now (next_of a.tag.now l.state).state a.answers l.total 1 a.recorded.now))
