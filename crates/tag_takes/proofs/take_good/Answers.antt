-- `tag_takes::take_good` meets its contract.
use mathlib.Core.Path.{refl}
use Rattle.tag_keys.specs.Sieve.{empty_sieve}
use Rattle.tag_step.specs.Next.{keys_lent, state_good}
use Rattle.tag_step.proofs.Whole.{good_inside}
use Rattle.tag_takes.proofs.take_good.Goals as goal

pub sieve_kept-requires : goal.sieve_kept-requires
unfolding empty_sieve state_good
sieve_kept-requires c =
    let a = c.args in
    record { sieve_value = refl; count_in_bounds = (good_inside a.tag.now (keys_lent a.starts.now a.ends.now a.hashes.now a.at.count) a.at.place c.requires.good).placed.2 }
