-- `replay_tags::record_of` meets its contract: the lengths decide, then the answers.
use Prim.Native.Nat.{ℕ}
use mathlib.Core.Path.{refl, sym, ap, ◌∙◌}
use lib.Dec.{eqb}
use Rattle.replay_tags.proofs.Laws.{too_few, tag_cut, answers_cut, whole}
use Rattle.replay_tags.proofs.record_of.Goals as goal

pub returns-then-rest-lt8 : goal.returns-then-rest-lt8
returns-then-rest-lt8 c = too_few c.args.rest.now c.if-rest-lt8.true

pub returns-then-rest-n : goal.returns-then-rest-n
returns-then-rest-n c = tag_cut c.args.rest.now c.if-rest-lt8.false c.number_at-n.ensures c.if-rest-n.true

pub returns-then-tail-answers : goal.returns-then-tail-answers
returns-then-tail-answers c = answers_cut c.args.rest.now c.if-rest-lt8.false c.number_at-n.ensures c.if-rest-n.false refl c.number_at-answers.ensures c.if-tail-answers.true

pub returns-then-agrees_by : goal.returns-then-agrees_by
returns-then-agrees_by c = whole c.args.rest.now c.if-rest-lt8.false c.number_at-n.ensures c.if-rest-n.false refl c.number_at-answers.ensures c.if-tail-answers.false (ap (λ (x : ℕ). eqb x 1) c.wide.ensures) (ap (λ (x : ℕ). eqb x 1) c.wide-2.ensures) c.number_at.ensures refl (sym c.if-agrees_by.true ∙ c.agrees_by.ensures)

pub returns : goal.returns
returns c = whole c.args.rest.now c.if-rest-lt8.false c.number_at-n.ensures c.if-rest-n.false refl c.number_at-answers.ensures c.if-tail-answers.false (ap (λ (x : ℕ). eqb x 1) c.wide.ensures) (ap (λ (x : ℕ). eqb x 1) c.wide-2.ensures) c.number_at.ensures refl (sym c.if-agrees_by.false ∙ c.agrees_by.ensures)
