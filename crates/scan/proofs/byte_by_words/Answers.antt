-- `scan::byte_by_words` meets its contract: the answer from `from` is the answer from i. A word that has the byte gives the
-- place, and one that has not is skipped.
use mathlib.Core.Path.{sym, ◌∙◌}
use native.Mathlib.Omega.{arith}
use Rattle.scan.proofs.Laws.{past}
use Rattle.scan.proofs.Marks.{word_hit, word_miss}
use Rattle.scan.proofs.byte_by_words.Goals as goal

pub returns-then-tag-i-lt8 : goal.returns-then-tag-i-lt8
returns-then-tag-i-lt8 c = c.byte_by_bytes.ensures ∙ sym c.loop-i.invariant

pub returns-then-k-lt8 : goal.returns-then-k-lt8
returns-then-k-lt8 c = c.before_byte-k.ensures.0 ∙ sym (c.loop-i.invariant ∙ word_hit _ _ _ (omega arith) (omega arith))

pub loop-i-preserved : goal.loop-i-preserved
loop-i-preserved c = c.loop-i.invariant ∙ word_miss _ _ _ (omega arith) (omega arith)

pub returns : goal.returns
returns c = sym (c.loop-i.invariant ∙ past _ _ _ c.loop-i-test.false)
