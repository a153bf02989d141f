-- `scan::twice_near` meets its contract: the marks of the first word say where the byte stands first, and whether it is there again.
use Rattle.std.proofs.Common.{arith}
use Rattle.scan.proofs.Second.{none_near, some_near, twice_again, twice_alone}
use Rattle.scan.proofs.twice_near.Goals as goal

pub twice_by_bytes-requires-then-first-ge8 : goal.twice_by_bytes-requires-then-first-ge8
twice_by_bytes-requires-then-first-ge8 c =
    none_near c.args.tag.now c.args.b c.type_inv.tag (omega arith) c.if-tag-lt8.false _ _ c.marks_of-near.ensures c.eighth-first.ensures.0 c.if-first-ge8.true

pub overflow_sub-near : goal.overflow_sub-near
overflow_sub-near c =
    some_near c.args.tag.now c.args.b c.type_inv.tag (omega arith) c.if-tag-lt8.false _ _ c.marks_of-near.ensures c.eighth-first.ensures.0 c.if-first-ge8.false

pub returns-then-near-ne0 : goal.returns-then-near-ne0
returns-then-near-ne0 c =
    twice_again c.args.tag.now c.args.b c.type_inv.tag (omega arith) c.if-tag-lt8.false _ _ c.marks_of-near.ensures c.eighth-first.ensures.0 _
    c.if-first-ge8.false c.byte_by_words.ensures

pub returns : goal.returns
returns c =
    twice_alone c.args.tag.now c.args.b c.type_inv.tag (omega arith) c.if-tag-lt8.false _ _ c.marks_of-near.ensures c.eighth-first.ensures.0 _
    c.if-first-ge8.false c.if-near-ne0.false c.byte_past_eight.ensures
