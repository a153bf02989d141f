-- `export_pieces::put_phase` meets its contract.
use Rattle.export_pieces.proofs.put_phase.Goals as goal

pub returns : goal.returns
returns c = rw (c.phase_kind.ensures, c.phase_start.ensures, c.phase_end.ensures)
