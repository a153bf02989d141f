-- `tag_look::look_in` meets its contract: where reading goes on, then the key that stands there, which lies inside the tag.
use mathlib.Core.Path.{sym, ◌∙◌}
use native.Mathlib.Omega.{arith}
use Rattle.tag_step.proofs.Whole.{starts_in, valued_by_lem, at_in}
use Rattle.tag_look.proofs.Paths.{look_ended, look_no_key, look_bare, look_valued}
use Rattle.tag_look.proofs.look_in.Goals as goal

pub returns-in_default : goal.returns-in_default
returns-in_default c = look_ended _ _ _ _ _ (sym c.recover.ensures ∙ c.in_default.is)

pub check_in-verdict-requires : goal.check_in-verdict-requires
check_in-verdict-requires c =
    let from = sym c.in-Some.ensures in
    let k = valued_by_lem _ _ (starts_in _ _ _ from) _ _ (sym (rw c.in-Some-Valued.field-0-is at c.in-Some-Valued.ensures)) in
    record { keys_in = c.requires; start_lt_end = (omega arith, omega arith) }

pub look_by-requires : goal.look_by-requires
look_by-requires c =
    let from = sym c.in-Some.ensures in
    let k = valued_by_lem _ _ (starts_in _ _ _ from) _ _ (sym (rw c.in-Some-Valued.field-0-is at c.in-Some-Valued.ensures)) in
    at_in _ _ _ k.1

pub returns-in-None : goal.returns-in-None
returns-in-None c = look_no_key _ _ _ _ _ _ (sym c.in-Some.ensures) (sym c.in-None.ensures)

pub returns-in-Some-Bare : goal.returns-in-Some-Bare
returns-in-Some-Bare c = look_bare _ _ _ _ _ _ (sym c.in-Some.ensures) _ _ (sym (rw c.in-Some-Bare.field-0-is at c.in-Some-Bare.ensures))

pub returns-in-Some-Valued : goal.returns-in-Some-Valued
returns-in-Some-Valued c = c.look_by.ensures ∙ look_valued _ _ _ _ _ _ (sym c.in-Some.ensures) _ _ (sym (rw c.in-Some-Valued.field-0-is at c.in-Some-Valued.ensures)) _ c.check_in-verdict.ensures
