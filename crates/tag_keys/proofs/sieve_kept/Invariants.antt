-- `tag_keys::sieve_kept` meets its contract: the sieve is that of the hashes passed.
use Rattle.std.proofs.Common.{◌≡◌}
use Rattle.tag_keys.specs.Sieve.{sieve_of}
use Rattle.tag_keys.proofs.sieve_kept.Given as goal

abbrev pub invariant-loop-hash : goal.invariant-loop-hash
invariant-loop-hash l = l.sieve ≡ sieve_of l.hashes l.hash-index
