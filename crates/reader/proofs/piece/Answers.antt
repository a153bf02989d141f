-- `reader::piece` meets its contract: `piece_in` on its own text.
use mathlib.Core.Path.{ap}
use Rattle.tag_pieces.specs.Reader.{Grown, fed_with, piece_of}
use Rattle.reader.specs.Numbers.{numbered_feeding}
use Rattle.reader.proofs.piece.Goals as goal

pub returns : goal.returns
unfolding piece_of
returns c = ap (λ (x : Grown). numbered_feeding (fed_with c.args.r x)) c.piece_in-fed.ensures
