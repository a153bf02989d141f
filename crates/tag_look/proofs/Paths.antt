-- One law for each way out of the look of a step.
use Prim.Native.Nat.{ℕ}
use mathlib.Core.Path.{◌≡◌}
use mathlib.Core.Bool.{Bool}
use mathlib.Core.List.{List}
use lib.ListN.{length}
use Rattle.std.proofs.Common.{Result, Some, None}
use Rattle.tag_keys.specs.declared.KeyRefusal.{KeyRefusal}
use Rattle.tag_step.specs.declared.Span.{Span}
use Rattle.tag_step.specs.declared.Place.{Place}
use Rattle.tag_step.specs.declared.KeyRead.TheVariants.{Bare, Valued}
use Rattle.tag_step.specs.Read.{recover_of, key_at}
use Rattle.tag_step.specs.Next.{Keys, check_of}
use Rattle.tag_step.specs.Look.{look_by, look_key, look_at, look_start, look_of}

module _ (s : List ℕ) (html checks : Bool) (keys : Keys) (place : Place) where
  pub look_ended : recover_of s place ≡ None → length s ≡ look_of s html checks keys place
  unfolding look_of look_start
  look_ended e = rw e

  module _ (o : ℕ) (from : recover_of s place ≡ Some o) where
    pub look_no_key : key_at s o ≡ None → length s ≡ look_of s html checks keys place
    unfolding look_of look_start look_at look_key
    look_no_key e = rw (from, e)

    pub look_bare : (key : Span) (at : ℕ) → key_at s o ≡ Some (Bare key at) → at ≡ look_of s html checks keys place
    unfolding look_of look_start look_at look_key
    look_bare key at e = rw (from, e)

    pub look_valued : (key : Span) (eq : ℕ) → key_at s o ≡ Some (Valued key eq) → (c : Result ℕ KeyRefusal) → c ≡ check_of s checks keys key → look_by s html eq c ≡ look_of s html checks keys place
    unfolding look_of look_start look_at look_key
    look_valued key eq e c v = rw (from, e, v)
