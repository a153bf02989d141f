-- `replay_names::record_of` meets its contract: the lengths decide, then the answers.
use mathlib.Core.Path.{sym, ◌∙◌}
use Rattle.replay_names.proofs.Laws.{too_few, name_cut, whole}
use Rattle.replay_names.proofs.record_of.Goals as goal

pub returns-then-rest-lt9 : goal.returns-then-rest-lt9
returns-then-rest-lt9 c = too_few c.args.rest.now c.if-rest-lt9.true

pub returns-then-rest-n : goal.returns-then-rest-n
returns-then-rest-n c = name_cut c.args.rest.now c.if-rest-lt9.false c.number_at-n.ensures c.if-rest-n.true

pub returns-then-agrees : goal.returns-then-agrees
returns-then-agrees c = whole c.args.rest.now c.if-rest-lt9.false c.number_at-n.ensures c.if-rest-n.false (sym c.if-agrees.true ∙ c.agrees.ensures)

pub returns : goal.returns
returns c = whole c.args.rest.now c.if-rest-lt9.false c.number_at-n.ensures c.if-rest-n.false (sym c.if-agrees.false ∙ c.agrees.ensures)
