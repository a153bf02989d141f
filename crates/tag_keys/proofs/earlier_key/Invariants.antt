-- `tag_keys::earlier_key` meets its contract. Outer loop: the search behind the filter stops at no key before k, so it goes on from
-- k. Inner loop: the bytes from j on are the same. What is found is what the plain search finds, by `filtered_agrees`.
use Prim.Native.Nat.{ℕ, ◌+◌, ◌-◌, ◌≤◌, ◌<◌}
use mathlib.Core.Path.{◌≡◌}
use lib.ListN.{get_or}
use Rattle.std.specs.Prelude.{None}
use Rattle.scan.specs.First.{first_to}
use Rattle.tag_keys.specs.Hash.{hash_of}
use Rattle.tag_keys.proofs.Filter.{stops}
use Rattle.tag_keys.proofs.earlier_key.Given as goal

abbrev pub invariant-loop-j : goal.invariant-loop-j
invariant-loop-j l = (n : ℕ) → l.j ≤ n → n < l.len → get_or l.tag (l.start + n) 0 ≡ get_or l.tag (l.from + n) 0

abbrev pub invariant-keys : goal.invariant-keys
invariant-keys l = (l.found ≡ None) × (l.k ≤ l.count) × (first_to (stops hash_of l.tag l.starts l.ends l.from l.to) 0 l.count ≡ first_to (stops hash_of l.tag l.starts l.ends l.from l.to) l.k l.count)

abbrev pub decreases-keys : goal.decreases-keys
decreases-keys l = l.count - l.k
