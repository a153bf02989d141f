-- When a phase is true of what is held: nothing is known, or the scan from the place has come as far as it says.
use Rattle.std.specs.Prelude.{ℕ, ◌≡◌, List}
use Rattle.tag_step.specs.declared.Place.{Place}
use Rattle.tag_phase.specs.declared.Phase.{Phase}
use Rattle.tag_phase.specs.declared.Phase.TheVariants.{Begin}
use Rattle.tag_phase.specs.Phase.{begin_at}

pub data True (s : List ℕ) (place : Place) (phase : Phase) : Type 0 where
  unknown : phase ≡ Begin → True s place phase
  known : phase ≡ begin_at s place → True s place phase
