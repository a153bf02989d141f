-- `name::prefix` meets its contract: the code goes by where the first colon is.
use mathlib.Core.Path.{refl, sym}
use native.Mathlib.Omega.{arith}
use lib.Seq.{length-take-le}
use Rattle.name.proofs.Split.{prefix_at, prefix_none, colon_there, colon_missing}
use Rattle.name.proofs.prefix.Goals as goal

pub slice_bounds-result-end : goal.slice_bounds-result-end
slice_bounds-result-end c =
    let t = colon_there _ _ c.in-Some.ensures in
    sym (length-take-le _ c.args.name.now (omega arith))

pub returns-in-Some : goal.returns-in-Some
returns-in-Some c =
    let t = colon_there _ _ c.in-Some.ensures in
    prefix_at _ _ t.0 t.1

pub returns-in-None : goal.returns-in-None
returns-in-None c = prefix_none _ _ refl (colon_missing _ c.in-None.ensures)
