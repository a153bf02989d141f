-- What a take gives, one law for each way; and what the code knows of a reader of its own: its tables have full size.
use Prim.Native.Nat.{◌≤◌}
use mathlib.Core.Path.{◌≡◌, refl, sym, ap, ◌∙◌}
use mathlib.Core.Bool.{Bool, true, false, not, ◌&&◌, ◌||◌}
use lib.ListN.{length, replicate, take}
use lib.Dec.{leb}
use borrow.Author.Tests.{leb-true}
use Rattle.std.specs.Prelude.{Some, Err, None, Ok}
use Rattle.scan.proofs.Bytes.{both}
use Rattle.tag_keys.specs.Keys.{capacity, KeysIn}
use Rattle.tag_step.specs.declared.AttrError.TheVariants.{BadState}
use Rattle.tag_step.specs.declared.Place.TheVariants.{Done}
use Rattle.tag_step.specs.declared.Step.{Step}
use Rattle.tag_step.specs.Next.{keys_of, keys_lent, good_of, state_good, next_of, lent_state}
use Rattle.tag_step.specs.Look.{look_of}
use Rattle.tag_step.specs.Numbers.{numbered_step}
use Rattle.tag_step.proofs.Whole.{good_inside}
use Rattle.tag_step.proofs.Good.{Sized}
use Rattle.tag_step.proofs.Lent.{full_next, full_held, full_leaves}
use Rattle.tag_step.proofs.Numbers.{step_apart}
use Rattle.tag_phase.specs.declared.Phase.{Phase}
use Rattle.tag_phase.specs.declared.Phase.TheVariants.{Begin}
use Rattle.tag_phase.specs.Phase.{waits_on}
use Rattle.tag_pieces.specs.declared.Reader.{Reader}
use Rattle.tag_pieces.specs.Reader.{held_of, iterator_of, reader_good, moved, emptied, waits_for, took, phase_after, answered_of, take_of}

-- a reader of the code: its key tables have as many places as the capacity
abbrev pub Full : Reader → Type 0
Full r = Sized (iterator_of r)

pub full : (r : Reader) → length r.starts ≡ capacity → length r.ends ≡ capacity → length r.hashes ≡ capacity → Full r
full r s e h = record { starts = s; ends = e; hashes = h }

module _ (r : Reader) where
  -- whether it is good, and whether it waits, as the code finds out
  abbrev pub good_in : Bool
  good_in = leb r.held (length r.text) && good_of (take r.held r.text) (keys_lent r.starts r.ends r.hashes r.count) r.place

  abbrev pub waits_in : Bool
  waits_in =
      not r.finished
      && (waits_on (take r.held r.text) r.html r.check_duplicates (keys_lent r.starts r.ends r.hashes r.count) r.phase
      || leb (length (take r.held r.text)) (look_of (take r.held r.text) r.html r.check_duplicates (keys_lent r.starts r.ends r.hashes r.count) r.place))

  is_good : good_in ≡ reader_good r
  unfolding reader_good state_good held_of
  is_good = refl

  waits_so : waits_in ≡ waits_for r
  unfolding waits_for held_of keys_of
  waits_so = refl

  pub take_bad : good_in ≡ false → took (Ok (Some (Some (Err BadState)))) (emptied r) ≡ take_of r
  unfolding take_of
  take_bad g = rw (sym is_good ∙ g)

  -- what is held lies in the text, and the recorded keys in what is held
  module _ (g : good_in ≡ true) where
    pub good_held : r.held ≤ length r.text
    good_held = leb-true r.held (length r.text) (both (leb r.held (length r.text)) _ g).0

    pub good_keys : KeysIn r.starts r.ends r.hashes r.count (take r.held r.text)
    good_keys = good_inside (take r.held r.text) (keys_lent r.starts r.ends r.hashes r.count) r.place (both (leb r.held (length r.text)) _ g).1

    pub take_more : waits_in ≡ true → took (Ok None) r ≡ take_of r
    unfolding take_of
    take_more w = rw (sym is_good ∙ g, sym waits_so ∙ w)

    pub take_answers : waits_in ≡ false → answered_of (held_of r) (iterator_of r) r ≡ take_of r
    unfolding take_of
    take_answers w = rw (sym is_good ∙ g, sym waits_so ∙ w)

  -- 7 leaves key tables of full size
  module _ (z : Full r) where
    pub full_emptied : moved r (lent_state Done r.html r.check_duplicates (replicate capacity 0) (replicate capacity 0) (replicate capacity 0) 0) 0 Begin ≡ emptied r
    unfolding emptied
    full_emptied = rw (z.starts, z.ends, z.hashes)

    -- no key lacks a place there: an answer is that of the iterator's own `next`
    pub full_answers : (x : Step) → numbered_step x ≡ numbered_step (next_of (held_of r) (iterator_of r)) → (p : Phase) → p ≡ phase_after x.answer r.phase → (y : Reader) → y ≡ moved r x.state r.held p
        → took (Ok (Some x.answer)) y ≡ answered_of (held_of r) (iterator_of r) r
    unfolding answered_of
    full_answers x e p f y g =
        rw (g, f, full_held (held_of r) (iterator_of r) z, full_next (held_of r) (iterator_of r) z, full_leaves (held_of r) (iterator_of r) z)
        (ap (λ (w : Step). took (Ok (Some w.answer)) (moved r w.state r.held (phase_after w.answer r.phase))) (step_apart x (next_of (held_of r) (iterator_of r)) e))
