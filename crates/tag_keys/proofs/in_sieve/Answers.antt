-- `tag_keys::in_sieve` meets its contract: the word that the definition reads, and its bit.
use native.Mathlib.Omega.{arith}
use Rattle.tag_keys.proofs.Sieve.{at_inside, in_word}
use Rattle.tag_keys.proofs.in_sieve.Goals as goal

pub offset_bounds-sieve-sieve_word : goal.offset_bounds-sieve-sieve_word
offset_bounds-sieve-sieve_word c = omega (arith, at_inside c.args.sieve.now c.args.hash c.requires _ c.sieve_word.ensures)

pub bounds-sieve-sieve_word : goal.bounds-sieve-sieve_word
bounds-sieve-sieve_word c = omega (arith, at_inside c.args.sieve.now c.args.hash c.requires _ c.sieve_word.ensures)

pub returns : goal.returns
returns c = in_word _ _ _ c.sieve_word.ensures
