-- `tag_batch::put` meets its contract: five stores, each next to the one before.
use native.Mathlib.Omega.{arith}
use lib.ListN.{length-set}
use Rattle.tag_batch.proofs.Over.{five_stores}
use Rattle.tag_batch.proofs.put.Goals as goal

pub bounds-out-at-2 : goal.bounds-out-at-2
bounds-out-at-2 c = simp length-set (omega arith)

pub bounds-out-at-3 : goal.bounds-out-at-3
bounds-out-at-3 c = simp length-set (omega arith)

pub bounds-out-at-4 : goal.bounds-out-at-4
bounds-out-at-4 c = simp length-set (omega arith)

pub bounds-out-at-5 : goal.bounds-out-at-5
bounds-out-at-5 c = simp length-set (omega arith)

pub returns : goal.returns
returns c = five_stores _ _ _ _ _ _ _ c.requires
