-- `tag_keys::sieve_kept` meets its contract: the sieve is that of the hashes passed.
use Rattle.std.proofs.Common.{◌<◌, length, ap, ◌∙◌, arith}
use Rattle.std.proofs.lemmas.List.{get_or-take, length-take-le}
use Rattle.tag_keys.specs.Sieve.{sieved, sieve_of}
use Rattle.tag_keys.proofs.Sieve.{sieve_length, sieve_next}
use Rattle.tag_keys.proofs.sieve_kept.Goals as goal

pub loop-hash-init : goal.loop-hash-init
unfolding sieve_of
loop-hash-init c = c.requires.sieve_value

pub add_to_sieve-requires : goal.add_to_sieve-requires
add_to_sieve-requires c = ap length c.loop-hash.invariant ∙ sieve_length _ _

pub loop-hash-preserved : goal.loop-hash-preserved
loop-hash-preserved c =
    let here : c.loop-hash.hash-index < c.args.count = omega (arith, length-take-le _ _ c.requires.count_in_bounds) in
    sieve_next _ _ _ _ c.loop-hash.invariant (c.add_to_sieve.ensures ∙ ap (sieved _) (get_or-take _ _ _ _ here))
