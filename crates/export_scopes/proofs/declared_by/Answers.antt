-- `export_scopes::declared_by` meets its contract.
use Rattle.export_scopes.specs.OneDeclaration.{declared_by}
use Rattle.export_scopes.proofs.declared_by.Goals as goal

pub returns-then-named : goal.returns-then-named
unfolding declared_by
returns-then-named c = rw c.if-named.true

pub returns : goal.returns
unfolding declared_by
returns c = rw c.if-named.false
