-- `replay_names::start_number` meets its contract: what the name declares decides.
use Prim.Native.Nat.{◌-◌}
use mathlib.Core.Path.{sym, ap, ◌∙◌}
use native.Mathlib.Omega.{arith}
use lib.ListN.{length}
use Rattle.name.specs.Declares.{declares_number}
use Rattle.name.proofs.Declared.{declared_shorter}
use Rattle.replay_names.proofs.Laws.{start_none, start_at_lem}
use Rattle.replay_names.proofs.start_number.Goals as goal

pub returns-then-declares_number-ne2 : goal.returns-then-declares_number-ne2
returns-then-declares_number-ne2 c = start_none c.args.name.now (c.declares_number.ensures ∙ ap declares_number c.as_namespace_binding.ensures) c.if-declares_number-ne2.true

pub overflow_sub-result : goal.overflow_sub-result
overflow_sub-result c = omega (arith, ap length c.declared_prefix-declared.ensures, declared_shorter c.args.name.now)

pub returns : goal.returns
returns c = sym (ap (λ p. length c.args.name.now - length p) (sym c.declared_prefix-declared.ensures)) ∙ start_at_lem c.args.name.now (c.declares_number.ensures ∙ ap declares_number c.as_namespace_binding.ensures) c.if-declares_number-ne2.false
