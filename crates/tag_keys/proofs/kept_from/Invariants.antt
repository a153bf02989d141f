-- `tag_keys::kept_from` meets its contract: in both loops the answer from `k` is the answer from where the loop stands.
use Prim.Native.Nat.{◌-◌, ◌≤◌}
use mathlib.Core.Path.{◌≡◌}
use Rattle.scan.specs.First.{first_to}
use Rattle.tag_keys.specs.Keys.{hash_is}
use Rattle.tag_keys.proofs.kept_from.Given as goal

abbrev pub invariant-skip : goal.invariant-skip
invariant-skip l = (l.i ≤ l.count) × (first_to (hash_is l.hashes l.hash) l.k l.count ≡ first_to (hash_is l.hashes l.hash) l.i l.count)

abbrev pub decreases-skip : goal.decreases-skip
decreases-skip l = l.count - l.i

abbrev pub invariant-loop-j : goal.invariant-loop-j
invariant-loop-j l = first_to (hash_is l.hashes l.hash) l.k l.count ≡ first_to (hash_is l.hashes l.hash) l.j l.count
