-- The numbers of the verdict on a key tell all cases apart: each can be read back from them.
use Prim.Native.Nat.{ℕ}
use mathlib.Core.Path.{◌≡◌, refl, sym, ap, ◌∙◌}
use mathlib.Core.List.{List}
use lib.ListN.{get_or}
use lib.Dec.{eqb}
use Rattle.std.proofs.Common.{Result, Ok, Err}
use Rattle.scan.specs.First.{pick}
use Rattle.tag_keys.specs.Keys.{checked_numbers}
use Rattle.tag_keys.specs.declared.KeyRefusal.{KeyRefusal}
use Rattle.tag_keys.specs.declared.KeyRefusal.TheVariants.{Same, Full}

verdict_by : List ℕ → Result ℕ KeyRefusal
verdict_by l = pick (eqb (get_or l 0 0) 5) (Err (Same (get_or l 1 0))) (pick (eqb (get_or l 0 0) 6) (Err Full) (Ok (get_or l 1 0)))

verdict_back : (v : Result ℕ KeyRefusal) → verdict_by (checked_numbers v) ≡ v
unfolding checked_numbers verdict_by
verdict_back (Ok n) = refl
verdict_back (Err (Same p)) = refl
verdict_back (Err Full) = refl

pub checked_apart : (v w : Result ℕ KeyRefusal) → checked_numbers v ≡ checked_numbers w → v ≡ w
checked_apart v w e = sym (verdict_back v) ∙ ap verdict_by e ∙ verdict_back w
