-- `reader::good_in` meets its contract: what is held first, then the iterator.
use mathlib.Core.Path.{sym, ◌∙◌}
use lib.Seq.{length-take-le}
use borrow.Author.Tests.{le-leb, lt-leb}
use Rattle.reader.proofs.good_in.Goals as goal

pub slice_bounds-good_in-end : goal.slice_bounds-good_in-end
slice_bounds-good_in-end c = sym (length-take-le _ _ c.if-held-text.true)

pub returns-then-held-text : goal.returns-then-held-text
returns-then-held-text c = c.good_in.ensures ∙ rw (le-leb _ _ c.if-held-text.true)

pub returns-else-held-text : goal.returns-else-held-text
returns-else-held-text c = rw (lt-leb _ _ c.if-held-text.false)
