-- `scope_push::take_all` meets its contract: what all declarations of the tag leave is what those from the place leave of the
-- memory as it is. The measure is what is left to read.
use mathlib.Core.Path.{refl, sym, ◌∙◌}
use native.Mathlib.Omega.{arith}
use Rattle.tag_step.proofs.Unchecked.{opened_stands}
use Rattle.tag_parts.specs.Parts.{key_part, value_part}
use Rattle.scope_table.proofs.Answers.{refused, accepted}
use Rattle.scope_change.specs.Change.{whole}
use Rattle.scope_push.specs.Push.{declaration_of}
use Rattle.scope_push.proofs.Run.{turn_kept}
use Rattle.scope_push.proofs.Turns.{quoted_is, run_begins, turn_stands, turn_less, turn_stops, turn_goes_on, turn_refused}
use Rattle.scope_push.proofs.take_all.Goals as goal

pub loop-found-init : goal.loop-found-init
loop-found-init c =
    let a = c.args in
    (record { bytes = refl; numbers = refl; fits = c.requires.fit }, opened_stands a.tag.now a.from, run_begins a.tag.now a.from whole a.text.now a.records.now a.head)

pub step_unchecked-step-requires : goal.step_unchecked-step-requires
step_unchecked-step-requires c = c.loop-found.invariant.1

pub shape_of-text-in_default : goal.shape_of-text-in_default
shape_of-text-in_default c = c.loop-found.invariant.0.bytes

pub shape_of-records-in_default : goal.shape_of-records-in_default
shape_of-records-in_default c = c.loop-found.invariant.0.numbers

pub returns-in_default : goal.returns-in_default
returns-in_default c =
    let l = c.loop-found in
    turn_stops c.args.tag.now l.place l.invariant.1 c.step_unchecked-step.result c.step_unchecked-step.ensures whole l.text l.records l.left (sym c.in_default.ensures) ∙ sym l.invariant.2

pub attribute-added-requires : goal.attribute-added-requires
attribute-added-requires c = record { fit = c.loop-found.invariant.0.fits; few_records = omega arith; few_bytes = omega arith }

pub returns-then-is_err : goal.returns-then-is_err
returns-then-is_err c =
    let l = c.loop-found in
    let q = quoted_is _ _ (sym c.in-Some.ensures) in
    turn_refused c.args.tag.now l.place l.invariant.1 c.step_unchecked-step.result c.step_unchecked-step.ensures whole l.text l.records l.left _ _ _ refl q c.attribute-added.result.answer c.attribute-added.new.text c.attribute-added.new.records c.attribute-added.result.head (c.attribute-added.ensures ∙ rw (c.key_part.ensures, c.value_part.ensures)) (refused c.attribute-added.result.answer (sym c.is_err.ensures.value ∙ c.if-is_err.true)) ∙ sym l.invariant.2

pub loop-found-smaller : goal.loop-found-smaller
loop-found-smaller c =
    let l = c.loop-found in
    let q = quoted_is _ _ (sym c.in-Some.ensures) in
    turn_less c.args.tag.now l.place l.invariant.1 c.step_unchecked-step.result c.step_unchecked-step.ensures _ _ q

pub loop-found-preserved : goal.loop-found-preserved
loop-found-preserved c =
    let l = c.loop-found in
    let s = c.args.tag.now in
    let q = quoted_is _ _ (sym c.in-Some.ensures) in (
      turn_kept whole (omega arith) (omega arith) (declaration_of (key_part s c.step_unchecked-step.result.answer) (value_part s c.step_unchecked-step.result.answer) c.in-Some.found.key c.in-Some.found.value) c.args.text.now c.args.records.now l.text l.records l.left l.invariant.0 c.attribute-added.result.answer c.attribute-added.new.text c.attribute-added.new.records c.attribute-added.result.head (c.attribute-added.ensures ∙ rw (c.key_part.ensures, c.value_part.ensures)),
      turn_stands s l.place l.invariant.1 c.step_unchecked-step.result c.step_unchecked-step.ensures,
      l.invariant.2 ∙ turn_goes_on s l.place l.invariant.1 c.step_unchecked-step.result c.step_unchecked-step.ensures whole l.text l.records l.left _ _ _ refl q c.attribute-added.result.answer c.attribute-added.new.text c.attribute-added.new.records c.attribute-added.result.head (c.attribute-added.ensures ∙ rw (c.key_part.ensures, c.value_part.ensures)) (accepted _ (sym c.is_err.ensures.value ∙ c.if-is_err.false)),
    )
