-- `name::verdict_named` meets its contract: what is refused for a reserved text has the verdict no, and of the rest the
-- lengths and the colon decide.
use mathlib.Core.Path.{◌≡◌, sym, ap, ◌∙◌}
use mathlib.Core.Bool.{false}
use mathlib.Core.Logic.{inl, inr}
use native.Mathlib.Omega.{arith}
use lib.ListN.{length}
use borrow.Author.Tests.{eq-eqb}
use Rattle.name.specs.Verdict.{verdict_named}
use Rattle.name.proofs.Verdicts.{is_refusal, refusal_no, err_refused, own_yes, named_apart, fine_empty_value, fine_empty_prefix, fine_colon}
use Rattle.name.proofs.verdict_named.Goals as goal
use Rattle.name.proofs.verdict_named.Goals.{then-value-ne0, else-value-ne0}

pub returns-in-Ok-false : goal.returns-in-Ok-false
returns-in-Ok-false c = own_yes _ _ (sym (named_apart _ _ (rw c.in-Ok-false.field-0-test at c.in-Ok-false.ensures)))

pub returns-in-Err : goal.returns-in-Err
returns-in-Err c = refusal_no _ _ (sym (ap is_refusal (named_apart _ _ c.in-Err.ensures)) ∙ err_refused c.in-Err.field-0)

pub returns-then-prefix-ne0 : goal.returns-then-prefix-ne0
returns-then-prefix-ne0 c =
    let f = sym (named_apart _ _ (rw c.in-Ok-true.field-0-test at c.in-Ok-true.ensures)) in
    fine_colon _ _ f c.if-prefix-ne0.true.0 c.if-prefix-ne0.true.1 c.index.result c.is_none.result c.index.ensures c.is_none.ensures

pub returns-else-prefix-ne0 : goal.returns-else-prefix-ne0
returns-else-prefix-ne0 c =
    let f = sym (named_apart _ _ (rw c.in-Ok-true.field-0-test at c.in-Ok-true.ensures)) in
    let n : false ≡ verdict_named c.args.prefix.now c.args.value.now = elim c.if-prefix-ne0.either [ inl e ↦ fine_empty_prefix _ _ f e.0 e.1 | inr e ↦ fine_empty_value _ _ f e ] in
    elim c.if-value-ne0.branch [
      | then-value-ne0 w ↦
          let e : length c.args.prefix.now ≡ 0 = omega arith in
          rw (w.t-7-is, eq-eqb (length c.args.prefix.now) 0 e) n
      | else-value-ne0 w ↦ rw (w.t-7-is, eq-eqb (length c.args.value.now) 0 w.if-value-ne0.false) n
    ]
