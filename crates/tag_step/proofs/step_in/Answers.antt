-- `tag_step::step_in` meets its contract: where reading goes on, then the key that stands there; what was read of a key lies inside the tag.
use mathlib.Core.Path.{refl, sym, ap, ◌∙◌}
use native.Mathlib.Omega.{arith}
use Rattle.tag_keys.proofs.Sieve.{sieve_stays}
use Rattle.tag_step.specs.Lent.{taken_on}
use Rattle.tag_step.proofs.Whole.{step_ended, step_none, step_bare, step_valued, starts_in, bare_by_lem, valued_by_lem, at_in}
use Rattle.tag_step.proofs.Taken.{took_same}
use Rattle.tag_step.proofs.step_in.Goals as goal

pub returns-in_default : goal.returns-in_default
returns-in_default c = (took_same _ _ c.requires.keys_in _ _ (step_ended _ _ _ _ _ (sym c.in_default.ensures)) refl, sieve_stays _ _ _ _ c.requires.sieve_of)

pub key_only-requires : goal.key_only-requires
key_only-requires c =
    let from = sym c.in-Some.ensures in
    let k = bare_by_lem _ _ (starts_in _ _ _ from) _ _ (sym (rw c.in-Some-Bare.field-0-is at c.in-Some-Bare.ensures)) in
    record { keys_in = c.requires.keys_in; start_lt_end = (omega arith, omega arith); sieve_of = c.requires.sieve_of }

pub key_valued-requires : goal.key_valued-requires
key_valued-requires c =
    let from = sym c.in-Some.ensures in
    let k = valued_by_lem _ _ (starts_in _ _ _ from) _ _ (sym (rw c.in-Some-Valued.field-0-is at c.in-Some-Valued.ensures)) in
    record { keys_in = c.requires.keys_in; start_lt_end = (omega arith, omega arith); eq_in_bounds = at_in _ _ _ k.1; sieve_of = c.requires.sieve_of }

pub returns-in-None : goal.returns-in-None
returns-in-None c =
    let from = sym c.in-Some.ensures in
    (took_same _ _ c.requires.keys_in _ _ (step_none _ _ _ _ _ _ from (sym c.in-None.ensures)) refl, sieve_stays _ _ _ _ c.requires.sieve_of)

pub returns-in-Some-Bare : goal.returns-in-Some-Bare
returns-in-Some-Bare c =
    let from = sym c.in-Some.ensures in
    (c.key_only.ensures.0 ∙ ap (taken_on _) (step_bare _ _ _ _ _ _ from _ _ (sym (rw c.in-Some-Bare.field-0-is at c.in-Some-Bare.ensures))), c.key_only.ensures.1)

pub returns-in-Some-Valued : goal.returns-in-Some-Valued
returns-in-Some-Valued c =
    let from = sym c.in-Some.ensures in
    (c.key_valued.ensures.0 ∙ ap (taken_on _) (step_valued _ _ _ _ _ _ from _ _ (sym (rw c.in-Some-Valued.field-0-is at c.in-Some-Valued.ensures))), c.key_valued.ensures.1)
