-- `mz_finish` meets its contract.
use Rattle.export_pieces.proofs.Laws.{finish_again, finish_first}
use Rattle.export_pieces.proofs.mz_finish.Goals as goal

pub returns-then-reader-ne0 : goal.returns-then-reader-ne0
returns-then-reader-ne0 c = finish_again _ c.if-reader-ne0.true

pub returns : goal.returns
returns c = finish_first _ c.if-reader-ne0.false
