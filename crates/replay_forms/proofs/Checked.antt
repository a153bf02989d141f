-- An iterator that is opened with checks on, and then has them set, is the one that is opened so.
use Prim.Native.Nat.{ℕ}
use mathlib.Core.Path.{◌≡◌, refl}
use mathlib.Core.Bool.{Bool, true}
use Rattle.tag_step.specs.Next.{opened, with_checks}

pub checked_opened : (o : ℕ) (html checks : Bool) → with_checks checks (opened o html true) ≡ opened o html checks
unfolding opened with_checks
checked_opened o html checks = refl
