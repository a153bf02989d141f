-- `mz_piece` meets its contract: a wrong length, a refusal, a piece that is accepted.
use mathlib.Core.Path.{sym, ◌∙◌}
use Rattle.export_pieces.proofs.Laws.{piece_long, piece_refused, piece_taken}
use Rattle.export_pieces.proofs.mz_piece.Goals as goal

pub returns-then-text-gt-HOLD : goal.returns-then-text-gt-HOLD
returns-then-text-gt-HOLD c = piece_long _ _ _ c.if-text-gt-HOLD.true

pub returns-then-not-accepted : goal.returns-then-not-accepted
returns-then-not-accepted c = piece_refused _ _ _ c.if-text-gt-HOLD.false _ c.cursor_in-at.ensures _ _ _ _ c.piece_in-grown.ensures (sym c.accepted.ensures ∙ c.if-not-accepted.true) _ c.fed_number.ensures

pub returns : goal.returns
returns c = piece_taken _ _ _ c.if-text-gt-HOLD.false _ c.cursor_in-at.ensures _ _ _ _ c.piece_in-grown.ensures (sym c.accepted.ensures ∙ c.if-not-accepted.false) _ c.put_phase.ensures
