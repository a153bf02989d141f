-- `scope_nil::has_nil` meets its contract: it lends the tables of both, which have full size, and puts the iterator together
-- again.
use Rattle.std.proofs.Common.{rules}
use mathlib.Core.Path.{ap, ◌∙◌}
use Rattle.scope_nil.specs.Nil.{numbered_nil}
use Rattle.scope_nil.proofs.Lent.{full_in}
use Rattle.scope_nil.proofs.has_nil.Goals as goal

pub returns : goal.returns
returns c =
    let a = c.args in
    ap numbered_nil (c.has_nil_in-out.ensures ∙ full_in a.tag.now a.state a.resolver (search rules) (search rules) (search rules) (search rules) (search rules))
