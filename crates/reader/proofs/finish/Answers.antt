-- `reader::finish` meets its contract.
use Rattle.tag_pieces.specs.Reader.{finish_of, finished_as}
use Rattle.reader.proofs.finish.Goals as goal

pub returns-then-r : goal.returns-then-r
unfolding finish_of
returns-then-r c = rw c.if-r.true

pub returns : goal.returns
unfolding finish_of finished_as
returns c = rw c.if-r.false
