-- What becomes of a piece, one law for each way.
use Prim.Native.Nat.{ℕ, ◌+◌, ◌≤◌}
use mathlib.Core.Path.{◌≡◌, refl, sym, ap, ◌∙◌}
use mathlib.Core.Bool.{Bool, true, false, false≢true, true≢false}
use mathlib.Core.List.{List}
use lib.ListN.{length, take}
use lib.Dec.{ltb}
use Rattle.std.specs.Prelude.{Result, Ok, Err}
use borrow.Author.Tests.{ltb-false}
use Rattle.scan.specs.First.{pick}
use Rattle.scan.specs.Lists.{over}
use Rattle.tag_step.specs.declared.Place.{Place}
use Rattle.tag_phase.specs.declared.Phase.{Phase}
use Rattle.tag_phase.specs.Phase.{carried_of}
use Rattle.tag_pieces.specs.declared.FeedError.{FeedError}
use Rattle.tag_pieces.specs.declared.FeedError.TheVariants.{Finished, TooLong, LendMore}
use Rattle.tag_pieces.specs.Reader.{hold, fed_of, is_accepted, grown, grown_by, piece_in}

-- what an accepted piece has room for
pub record Fits (room held n : ℕ) : Type 0 where
  pub held_in : held + n ≤ hold
  pub room_in : held + n ≤ room

fed_fits : (finished : Bool) (room held n : ℕ) → is_accepted (fed_of finished room held n) ≡ true → Fits room held n
unfolding fed_of is_accepted
fed_fits finished room held n = by finished refl (ltb hold (held + n)) refl (ltb room (held + n)) refl where
  by : (f : Bool) → finished ≡ f → (a : Bool) → ltb hold (held + n) ≡ a → (b : Bool) → ltb room (held + n) ≡ b → is_accepted (pick f (Err Finished) (pick a (Err TooLong) (pick b (Err LendMore) (Ok tt)))) ≡ true → Fits room held n
  by true e a p b q h = absurd (false≢true h)
  by false e true p b q h = absurd (false≢true h)
  by false e false p true q h = absurd (false≢true h)
  by false e false p false q h = record { held_in = ltb-false _ _ p; room_in = ltb-false _ _ q }

-- a piece that is not accepted changes nothing
grown_none : (fed : Result (Unit {0}) FeedError) (text : List ℕ) (held : ℕ) (place : Place) (phase : Phase) (p : List ℕ) → is_accepted fed ≡ false → grown fed text held phase ≡ grown_by fed text held place phase p
unfolding grown_by is_accepted
grown_none (Ok u) text held place phase p h = absurd (true≢false h)
grown_none (Err e) text held place phase p h = refl

grown_more : (fed : Result (Unit {0}) FeedError) (text : List ℕ) (held : ℕ) (place : Place) (phase : Phase) (p : List ℕ) → is_accepted fed ≡ true
    → grown fed (over text held p) (held + length p) (carried_of (take (held + length p) (over text held p)) held place phase) ≡ grown_by fed text held place phase p
unfolding grown_by is_accepted
grown_more (Ok u) text held place phase p h = refl
grown_more (Err e) text held place phase p h = absurd (false≢true h)

-- the same of what the code has found out
module _ (text : List ℕ) (held : ℕ) (finished : Bool) (place : Place) (phase : Phase) (p : List ℕ) (fed : Result (Unit {0}) FeedError) (is : fed ≡ fed_of finished (length text) held (length p)) where
  pub feed_fits : is_accepted fed ≡ true → Fits (length text) held (length p)
  feed_fits h = fed_fits finished (length text) held (length p) (ap is_accepted (sym is) ∙ h)

  pub feed_none : is_accepted fed ≡ false → grown fed text held phase ≡ piece_in text held finished place phase p
  unfolding piece_in
  feed_none h = grown_none fed text held place phase p h ∙ rw is

  pub feed_more : is_accepted fed ≡ true → (t : List ℕ) → t ≡ over text held p → (x : Phase) → x ≡ carried_of (take (held + length p) t) held place phase
      → grown fed t (held + length p) x ≡ piece_in text held finished place phase p
  unfolding piece_in
  feed_more h t e x f = rw (f, e) (grown_more fed text held place phase p h ∙ rw is)
