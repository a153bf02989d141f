-- `tag_keys::hash_of` meets its contract: the hash goes on from `hash` over the bytes that are left.
use Rattle.std.proofs.Common.{refl, sym, ◌∙◌}
use Rattle.scan.specs.Bytes.{part}
use Rattle.tag_keys.specs.Hash.{times_prime, hash_of}
use Rattle.tag_keys.proofs.Hash.{hash_more, hash_none}
use Rattle.tag_keys.proofs.hash_of.Goals as goal

pub loop-b-init : goal.loop-b-init
unfolding hash_of part
loop-b-init c = refl

pub loop-b-preserved : goal.loop-b-preserved
unfolding times_prime
loop-b-preserved c = hash_more _ _ _ _ c.loop-b-test.true c.from.ensures ∙ c.loop-b.invariant

pub returns : goal.returns
returns c = sym (hash_none _ _ _ c.loop-b-test.false) ∙ c.loop-b.invariant
