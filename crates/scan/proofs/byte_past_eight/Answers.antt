-- `scan::byte_past_eight` meets its contract: there are no other bytes, none of them is marked in the last word, or they are searched.
use native.Mathlib.Omega.{arith}
use Rattle.scan.proofs.Second.{eight_past, far_past}
use Rattle.scan.proofs.byte_past_eight.Goals as goal

pub returns-then-tag-eq8 : goal.returns-then-tag-eq8
returns-then-tag-eq8 c =
    eight_past c.args.tag.now c.args.b c.requires c.if-tag-eq8.true

pub returns-then-marks_of-tag-eq0 : goal.returns-then-marks_of-tag-eq0
returns-then-marks_of-tag-eq0 c =
    far_past c.args.tag.now c.args.b c.requires _ _ (omega arith) c.if-tag-le16.true c.marks_of.ensures c.if-marks_of-tag-eq0.true
