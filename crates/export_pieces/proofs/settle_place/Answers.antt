-- `export_pieces::settle_place` meets its contract: the two ways of leaving the place.
use mathlib.Core.Path.{sym, ◌∙◌}
use Rattle.export_cursor.proofs.Three.{settled_same, settled_other}
use Rattle.export_pieces.proofs.settle_place.Goals as goal

pub returns-then-same_place : goal.returns-then-same_place
returns-then-same_place c = settled_same _ _ _ _ (sym c.same_place.ensures ∙ c.if-same_place.true)

pub returns : goal.returns
returns c = settled_other _ _ _ _ _ _ (sym c.same_place.ensures ∙ c.if-same_place.false) c.kind_of.ensures c.position_of.ensures
