-- `tag_keys::block_has` meets its contract: while nothing was found, none of the hashes passed is the one looked for.
use Rattle.std.proofs.Common.{ℕ, ◌+◌, ◌≤◌, ◌<◌, ◌≡◌, false}
use Rattle.tag_keys.specs.Keys.{hash_is}
use Rattle.tag_keys.proofs.block_has.Given as goal

abbrev pub invariant-loop-kept : goal.invariant-loop-kept
invariant-loop-kept l = l.any ≡ false → (j : ℕ) → l.i ≤ j → j < l.i + l.kept-index → hash_is l.hashes l.hash j ≡ false
