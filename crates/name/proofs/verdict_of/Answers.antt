-- `name::verdict_of` meets its contract: what the name declares decides, of a default declaration then the value, and of a named
-- one the prefix and the value.
use mathlib.Core.Path.{sym}
use Rattle.name.proofs.Verdicts.{nothing_verdict, default_verdict_lem, named_verdict}
use Rattle.name.proofs.verdict_of.Goals as goal

pub returns-in-None : goal.returns-in-None
returns-in-None c = nothing_verdict _ _ (sym c.in-None.ensures)

pub returns-in-Some-Default : goal.returns-in-Some-Default
returns-in-Some-Default c = default_verdict_lem _ _ (sym (rw c.in-Some-Default.field-0-is at c.in-Some-Default.ensures)) (sym c.verdict_default.ensures)

pub returns-in-Some-Named : goal.returns-in-Some-Named
returns-in-Some-Named c = named_verdict _ _ _ (sym (rw c.in-Some-Named.field-0-is at c.in-Some-Named.ensures)) c.declared_prefix.ensures (sym c.verdict_named.ensures)
