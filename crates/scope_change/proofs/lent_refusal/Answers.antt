-- `scope_change::lent_refusal` meets its contract: a refusal of the rules comes first; then what is lent decides.
use Prim.Native.Nat.{ℕ, ◌+◌, ◌≤◌, ◌<◌}
use mathlib.Core.Path.{◌≡◌, refl, sym, ap, ◌∙◌}
use native.Mathlib.Omega.{arith}
use Rattle.std.specs.Prelude.{Ok, Err}
use Rattle.std.proofs.lemmas.Result.{err_from_is_err_and}
use Rattle.scope_table.specs.Answer.{is_done, NamespaceResult}
use Rattle.scope_table.specs.declared.Head.{Head}
use Rattle.scope_change.specs.Change.{refusal_of}
use Rattle.scope_change.specs.declared.Room.{Room}
use Rattle.scope_change.proofs.Change.{room_has, lent_refused, lent_yes, lent_no}
use Rattle.scope_change.proofs.lent_refusal.Goals as goal

-- where nothing is refused, a record is free, and the bytes are there
there : (room : Room) (head : Head) (size : ℕ) (a : NamespaceResult) → a ≡ refusal_of room head size → a ≡ Ok tt → (head.count < room.records) × (head.used + size ≤ room.bytes)
there room head size a e d = room_has room head size (ap is_done (sym e ∙ d))

pub returns-in_err-refusal : goal.returns-in_err-refusal
returns-in_err-refusal c =
    let a = c.args in
    let p = err_from_is_err_and c.from_residual.result c.from_residual.ensures.1 in
    rw (p.1, p.2)
    (lent_refused a.bytes a.numbers a.room a.head (a.prefix_len + a.value_len) (Err c.in_err-refusal.field-0.0) (sym c.in_err-refusal.was ∙ c.refusal.ensures) refl)

pub overflow_add-size : goal.overflow_add-size
overflow_add-size c = omega (arith, (there c.args.room c.args.head (c.args.prefix_len + c.args.value_len) c.refusal.result c.refusal.ensures c.in_ok-refusal.was).1)

pub overflow_add-end : goal.overflow_add-end
overflow_add-end c = omega (arith, (there c.args.room c.args.head (c.args.prefix_len + c.args.value_len) c.refusal.result c.refusal.ensures c.in_ok-refusal.was).1)

pub overflow_add-next : goal.overflow_add-next
overflow_add-next c = omega (arith, (there c.args.room c.args.head (c.args.prefix_len + c.args.value_len) c.refusal.result c.refusal.ensures c.in_ok-refusal.was).0)

pub returns-then-fits : goal.returns-then-fits
returns-then-fits c =
    let a = c.args in
    lent_yes a.bytes a.numbers a.room a.head (a.prefix_len + a.value_len) c.refusal.result c.refusal.ensures c.in_ok-refusal.was (sym c.fits.ensures ∙ c.if-fits.true)

pub returns : goal.returns
returns c =
    let a = c.args in
    lent_no a.bytes a.numbers a.room a.head (a.prefix_len + a.value_len) c.refusal.result c.refusal.ensures c.in_ok-refusal.was (sym c.fits.ensures ∙ c.if-fits.false)
