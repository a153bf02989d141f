-- `name::declared_prefix` meets its contract: a named declaration has six bytes before its prefix, and no other name has
-- one.
use mathlib.Core.Path.{sym, ◌∙◌}
use native.Mathlib.Omega.{arith}
use Rattle.scan.proofs.Lists.{to_end}
use Rattle.name.proofs.Declared.{named_long, named_part, unnamed_part, default_unnamed, default_tests, named_tests, nothing_tests}
use Rattle.name.proofs.declared_prefix.Goals as goal

pub slice_bounds-result-count : goal.slice_bounds-result-count
slice_bounds-result-count c = omega (arith, named_long c.args.name.now (named_tests _ (sym (rw c.in-Some-Named.field-0-is at c.in-Some-Named.ensures))))

pub slice_bounds-result-start : goal.slice_bounds-result-start
slice_bounds-result-start c = omega (arith, named_long c.args.name.now (named_tests _ (sym (rw c.in-Some-Named.field-0-is at c.in-Some-Named.ensures))))

pub returns-in-Some-Named : goal.returns-in-Some-Named
returns-in-Some-Named c = to_end 6 c.args.name.now ∙ named_part _ (named_tests _ (sym (rw c.in-Some-Named.field-0-is at c.in-Some-Named.ensures)))

pub returns-in-None : goal.returns-in-None
returns-in-None c = unnamed_part _ (nothing_tests _ (sym c.in-None.ensures)).1

pub returns-in-Some-Default : goal.returns-in-Some-Default
returns-in-Some-Default c = unnamed_part _ (default_unnamed _ (default_tests _ (sym (rw c.in-Some-Default.field-0-is at c.in-Some-Default.ensures))))
