-- `name::local_name` meets its contract: the code goes by where the first colon is.
use mathlib.Core.Path.{refl, ◌∙◌}
use native.Mathlib.Omega.{arith}
use Rattle.scan.proofs.Lists.{to_end}
use Rattle.name.proofs.Split.{local_at_lem, local_none, colon_there, colon_missing}
use Rattle.name.proofs.local_name.Goals as goal

pub overflow_add-result : goal.overflow_add-result
overflow_add-result c =
    let t = colon_there _ _ c.in-Some.ensures in
    omega arith

pub slice_bounds-result-count : goal.slice_bounds-result-count
slice_bounds-result-count c =
    let t = colon_there _ _ c.in-Some.ensures in
    omega arith

pub slice_bounds-result-start : goal.slice_bounds-result-start
slice_bounds-result-start c =
    let t = colon_there _ _ c.in-Some.ensures in
    omega arith

pub returns-in-Some : goal.returns-in-Some
returns-in-Some c =
    let t = colon_there _ _ c.in-Some.ensures in
    to_end _ c.args.name.now ∙ local_at_lem _ _ t.0 t.1

pub returns-in-None : goal.returns-in-None
returns-in-None c = local_none _ _ refl (colon_missing _ c.in-None.ensures)
