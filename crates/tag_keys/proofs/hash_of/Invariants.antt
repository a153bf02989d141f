-- `tag_keys::hash_of` meets its contract: the hash goes on from `hash` over the bytes that are left.
use Rattle.std.proofs.Common.{◌≡◌, drop}
use Rattle.scan.specs.Bytes.{part}
use Rattle.tag_keys.specs.Hash.{hash_from, hash_of}
use Rattle.tag_keys.proofs.hash_of.Given as goal

abbrev pub invariant-loop-b : goal.invariant-loop-b
invariant-loop-b l = hash_from l.hash (drop l.b-index l.b-items) ≡ hash_of (part l.tag l.from l.to)
