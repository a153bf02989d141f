-- `lines::put_number` meets its contract: what `io::decimal` writes is the definition's digits, and they are copied.
use mathlib.Core.Path.{ap, ◌∙◌}
use native.Mathlib.Omega.{arith}
use lib.ListN.{length}
use Rattle.scan.specs.Lists.{over}
use Rattle.lines.proofs.Text.{digits_are}
use Rattle.lines.proofs.put_number.Goals as goal

pub returns : goal.returns
returns c =
    let d = c.decimal-k.ensures in
    let e = d.digits ∙ digits_are c.args.n c.decimal-k.result d.len (omega arith) in
    (omega (arith, ap length e, d.in_bounds, c.decimal-k.array_long), c.put.ensures ∙ ap (over c.args.out.now c.args.at) e)
