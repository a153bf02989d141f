-- `export_pieces::cursor_in` meets its contract.
use Rattle.export_pieces.specs.Pieces.{cursor_in}
use Rattle.export_pieces.proofs.cursor_in.Goals as goal

pub returns : goal.returns
unfolding cursor_in
returns c = rw (c.place_from-place.ensures, c.phase_from-phase.ensures)
