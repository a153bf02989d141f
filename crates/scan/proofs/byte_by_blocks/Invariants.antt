-- `scan::byte_by_blocks` meets its contract: the answer from `from` is the answer from i. A block that has not the byte is
-- skipped, and one that may have it is looked at by words.
use Rattle.scan.specs.First.{first_from}
use Rattle.scan.specs.Bytes.{is_byte}
use lib.ListN.{length}
use mathlib.Core.Path.{◌≡◌}
use Prim.Native.Nat.{◌-◌}
use Rattle.scan.proofs.byte_by_blocks.Given as goal

abbrev pub invariant-loop-i : goal.invariant-loop-i
invariant-loop-i l = first_from (is_byte l.b) l.tag l.from ≡ first_from (is_byte l.b) l.tag l.i

abbrev pub decreases-loop-i : goal.decreases-loop-i
decreases-loop-i l = length l.tag - l.i
