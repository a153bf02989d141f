-- `name::as_namespace_binding` meets its contract: each test decides one answer.
use mathlib.Core.Path.{sym, ◌∙◌}
use native.Mathlib.Omega.{arith}
use Rattle.name.proofs.Declared.{too_short, other_head, nothing_after, byte_after}
use Rattle.name.proofs.as_namespace_binding.Goals as goal
use Rattle.name.proofs.as_namespace_binding.Goals.{then-name-lt5-via-then-name-lt5, then-name-lt5-via-else-name-lt5+then-not-is_xmlns}

pub returns-then-name-lt5 : goal.returns-then-name-lt5
returns-then-name-lt5 c =
    elim c.then-name-lt5.branch [
      | then-name-lt5-via-then-name-lt5 w ↦ too_short _ w.if-name-lt5.true
      | then-name-lt5-via-else-name-lt5+then-not-is_xmlns w ↦ other_head _ (sym w.is_xmlns.ensures ∙ w.if-not-is_xmlns.true)
    ]

pub returns-then-name-eq5 : goal.returns-then-name-eq5
returns-then-name-eq5 c = nothing_after _ c.if-name-eq5.true (sym c.is_xmlns.ensures ∙ c.if-not-is_xmlns.false)

pub returns : goal.returns
returns c = c.then_some.ensures ∙ byte_after _ (omega arith) (sym c.is_xmlns.ensures ∙ c.if-not-is_xmlns.false)
