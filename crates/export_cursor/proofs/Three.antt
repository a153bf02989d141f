-- The numbers of an iterator in lent memory, written one after another.
use Prim.Native.Nat.{ℕ}
use mathlib.Core.Path.{◌≡◌}
use mathlib.Core.Bool.{true, false}
use mathlib.Core.List.{List}
use lib.ListN.{set}
use Rattle.tag_step.specs.declared.Place.{Place}
use Rattle.export_cursor.specs.Cursor.{kind_of, position_of, same_place, settled_of}

-- the numbers that are left: the place stays, or is another
module _ (state : List ℕ) (before after : Place) (recorded : ℕ) where
  pub settled_same : same_place before after ≡ true → set state 2 recorded ≡ settled_of state before after recorded
  unfolding settled_of
  settled_same h = rw h

  pub settled_other : (kind position : ℕ) → same_place before after ≡ false → kind ≡ kind_of after → position ≡ position_of after → set (set (set state 2 recorded) 0 kind) 1 position ≡ settled_of state before after recorded
  unfolding settled_of
  settled_other kind position h k p = rw (h, k, p)
