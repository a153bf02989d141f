-- `reader::answered` meets its contract: the iterator by value, over what is held.
use mathlib.Core.Path.{sym}
use native.Mathlib.Omega.{arith}
use lib.Seq.{length-take-le}
use Rattle.tag_pieces.specs.Reader.{held_of}
use borrow.Author.Rules.{rules}
use Rattle.reader.proofs.Ways.{Full, full, full_answers}
use Rattle.reader.proofs.answered.Goals as goal

pub slice_bounds-next-end : goal.slice_bounds-next-end
slice_bounds-next-end c = sym (length-take-le _ _ (omega arith))

pub returns : goal.returns
unfolding held_of
returns c =
    let r = c.args.r in
    let sized : Full r = full r (search rules) (search rules) (search rules) in
    full_answers r sized c.next-step.result c.next-step.ensures _ c.phase_after.ensures _ c.moved.ensures
