-- `tag_keys::keys_good` meets its contract: no key before i is bad, so the search for a bad one goes on from i.
use Rattle.std.proofs.Common.{◌≡◌}
use Rattle.scan.specs.First.{first_to}
use Rattle.tag_keys.specs.Keys.{key_bad}
use Rattle.tag_keys.proofs.keys_good.Given as goal

abbrev pub invariant-loop-i : goal.invariant-loop-i
invariant-loop-i l = first_to (key_bad l.tag l.starts l.ends l.hashes) 0 l.count ≡ first_to (key_bad l.tag l.starts l.ends l.hashes) l.i l.count
