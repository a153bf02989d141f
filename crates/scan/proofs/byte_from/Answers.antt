-- `scan::byte_from` meets its contract: two words, then the blocks; each word that has not the byte is skipped.
use Prim.Native.Nat.{◌+◌}
use mathlib.Core.Path.{◌≡◌, sym, ◌∙◌}
use native.Mathlib.Omega.{arith}
use Rattle.scan.proofs.Laws.{past}
use Rattle.scan.proofs.Marks.{word_hit, word_miss}
use Rattle.scan.proofs.byte_from.Goals as goal

pub returns-then-tag-from : goal.returns-then-tag-from
returns-then-tag-from c = sym (past _ _ _ c.if-tag-from.true)

pub returns-then-k-lt8 : goal.returns-then-k-lt8
returns-then-k-lt8 c =
    let a = c.args in
    c.before_byte-k.ensures.0 ∙ sym (word_hit a.tag.now a.b a.from (omega arith) (omega arith))

pub returns-then-m-lt8 : goal.returns-then-m-lt8
returns-then-m-lt8 c =
    let a = c.args in
    c.before_byte-m.ensures.0 ∙ sym (word_miss a.tag.now a.b a.from (omega arith) (omega arith) ∙ word_hit a.tag.now a.b (a.from + 8) (omega arith) (omega arith))

pub returns : goal.returns
returns c =
    let a = c.args in
    let e : a.from + 8 + 8 ≡ a.from + 16 = omega arith in
    let m = rw e at (word_miss a.tag.now a.b (a.from + 8) (omega arith) (omega arith)) in
    c.byte_by_blocks.ensures ∙ sym (word_miss a.tag.now a.b a.from (omega arith) (omega arith) ∙ m)
