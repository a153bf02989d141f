-- `scan::same_start` meets its contract: by a word where both have one, else by bytes.
use native.Mathlib.Omega.{arith}
use Rattle.scan.specs.Bytes.{part}
use Rattle.scan.proofs.Words.{start_same}
use Rattle.scan.proofs.same_start.Goals as goal

pub returns-then-x-i-ge8 : goal.returns-then-x-i-ge8
returns-then-x-i-ge8 c =
    let a = c.args in
    rw c.alike.ensures (start_same a.x.now a.y.now a.i a.n c.requires.0 c.requires.1 (omega arith))

pub returns : goal.returns
unfolding part
returns c = c.same.ensures
