-- `export_pieces::settle` meets its contract.
use native.Mathlib.Omega.{arith}
use Rattle.export_pieces.proofs.Laws.{left_none, left_some}
use Rattle.export_pieces.proofs.settle.Goals as goal

pub returns-then-n-gt0 : goal.returns-then-n-gt0
returns-then-n-gt0 c = left_some _ c.args.before c.args.left.place c.args.left.count _ _ c.args.why _ c.settle_place.ensures _ c.number.ensures (λ e. omega arith) _ c.put_phase.ensures

pub returns-else-n-gt0 : goal.returns-else-n-gt0
returns-else-n-gt0 c = left_none _ c.args.before c.args.left.place c.args.left.count _ _ c.args.why _ c.settle_place.ensures _ c.number.ensures (omega arith)
