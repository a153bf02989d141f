-- `tag_takes::empty` meets its contract.
use mathlib.Core.Path.{refl, ap, ◌∙◌}
use native.Mathlib.Omega.{arith}
use lib.ListN.{length}
use Rattle.scan.specs.Lists.{over}
use Rattle.scan.proofs.Lists.{over_length}
use Rattle.tag_batch.specs.Batch.{listed}
use Rattle.tag_takes.specs.Takes.{emptied_at}
use Rattle.tag_takes.proofs.empty.Goals as goal

pub returns : goal.returns
unfolding emptied_at
returns c =
    let a = c.args in
    let l = ap length c.put.ensures ∙ over_length a.out.now 0 (listed c.numbers.result) (omega (arith, c.requires)) in
    (rw (c.after_seven.ensures, l) refl, c.clear_keys.ensures.0, c.clear_keys.ensures.1, c.clear_keys.ensures.2, c.put.ensures ∙ ap (over a.out.now 0) c.numbers.ensures)
