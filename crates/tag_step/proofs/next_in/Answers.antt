-- `tag_step::next_in` meets its contract: 7 first; then a step, for which tables of full size have room.
use Prim.Native.Nat.{ℕ}
use mathlib.Core.List.{List}
use lib.ListN.{length}
use Rattle.tag_keys.specs.Keys.{capacity}
use Rattle.tag_step.specs.declared.Standing.{Standing}
use mathlib.Core.Path.{◌≡◌, refl, sym, ◌∙◌}
use Rattle.tag_keys.specs.Sieve.{empty_sieve}
use Rattle.tag_step.specs.Next.{state_good, stands_at, leaves}
use Rattle.tag_step.proofs.Good.{Sized, sized_inside, sized_next, sized_never, sized_cleared}
use Rattle.tag_step.proofs.next_in.Goals as goal

-- the tables as those of a state
sized : (at : Standing) (starts ends hashes : List ℕ) → (length starts ≡ capacity) × (length ends ≡ capacity) × (length hashes ≡ capacity) → Sized (stands_at at starts ends hashes)
sized at starts ends hashes full = record { starts = full.0; ends = full.1; hashes = full.2 }

pub returns-then-not-good_in : goal.returns-then-not-good_in
unfolding state_good
returns-then-not-good_in c =
    sized_cleared c.args.tag.now _ (sized c.args.at c.args.starts.now c.args.ends.now c.args.hashes.now c.requires) (sym c.good_in.ensures ∙ c.if-not-good_in.true) _ _ _ c.clear_keys.ensures.0 c.clear_keys.ensures.1 c.clear_keys.ensures.2

pub sieve_kept-requires : goal.sieve_kept-requires
unfolding state_good empty_sieve
sieve_kept-requires c =
    record { sieve_value = refl; count_in_bounds = (sized_inside c.args.tag.now _ (sized c.args.at c.args.starts.now c.args.ends.now c.args.hashes.now c.requires) (sym c.good_in.ensures ∙ c.if-not-good_in.false)).placed.2 }

pub step_in-requires : goal.step_in-requires
unfolding state_good
step_in-requires c =
    record { keys_in = sized_inside c.args.tag.now _ (sized c.args.at c.args.starts.now c.args.ends.now c.args.hashes.now c.requires) (sym c.good_in.ensures ∙ c.if-not-good_in.false); sieve_of = record { all = λ _. c.sieve_kept.ensures } }

pub returns-in-Some : goal.returns-in-Some
unfolding state_good leaves
returns-in-Some c =
    sized_next c.args.tag.now _ (sized c.args.at c.args.starts.now c.args.ends.now c.args.hashes.now c.requires) (sym c.good_in.ensures ∙ c.if-not-good_in.false) _ _ _ _ c.in-Some.ensures.0 _ refl

pub returns-in-None : goal.returns-in-None
unfolding state_good
returns-in-None c =
    absurd (sized_never c.args.tag.now _ (sized c.args.at c.args.starts.now c.args.ends.now c.args.hashes.now c.requires) (sym c.good_in.ensures ∙ c.if-not-good_in.false) _ _ _ _ c.in-None.ensures.0 refl)
