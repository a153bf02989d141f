-- `export_cursor::settle` meets its contract: the two ways of leaving the place.
use mathlib.Core.Path.{sym, ◌∙◌}
use Rattle.export_cursor.proofs.Three.{settled_same, settled_other}
use Rattle.export_cursor.proofs.settle.Goals as goal

pub returns-else-not-same_place : goal.returns-else-not-same_place
returns-else-not-same_place c = settled_same _ _ _ _ (sym c.same_place.ensures ∙ c.if-not-same_place.false)

pub returns-then-not-same_place : goal.returns-then-not-same_place
returns-then-not-same_place c = settled_other _ _ _ _ _ _ (sym c.same_place.ensures ∙ c.if-not-same_place.true) c.kind_of-kind.ensures c.position_of-position.ensures
