-- `tag_keys::add_to_sieve` meets its contract: the word that the definition writes, with its bit.
use native.Mathlib.Omega.{arith}
use Rattle.tag_keys.proofs.Sieve.{at_inside, sieved_word}
use Rattle.tag_keys.proofs.add_to_sieve.Goals as goal

pub offset_bounds-sieve-at : goal.offset_bounds-sieve-at
offset_bounds-sieve-at c = omega (arith, at_inside c.args.sieve.now c.args.hash c.requires _ c.sieve_word-at.ensures)

pub bounds-sieve-at : goal.bounds-sieve-at
bounds-sieve-at c = omega (arith, at_inside c.args.sieve.now c.args.hash c.requires _ c.sieve_word-at.ensures)

pub bounds-sieve-at-2 : goal.bounds-sieve-at-2
bounds-sieve-at-2 c = omega (arith, at_inside c.args.sieve.now c.args.hash c.requires _ c.sieve_word-at.ensures)

pub returns : goal.returns
returns c = sieved_word _ _ _ c.sieve_word-at.ensures
