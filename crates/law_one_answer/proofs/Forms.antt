-- The forms that the replays run: each public contract of crate `replay_forms` leaves one answer.
use mathlib.Core.Path.{refl}
use seplogic.Ra.Ura.{Ura}
use base.Logic.{SProp}
use prog.Memory.{Memory}
use prog.Routine.{Routine}
use types.Logic.{Logic}
use contract.Monad.{Fun}
use Rattle.law_one_answer.specs.Settled.{Settled}
use Rattle.law_one_answer.proofs.Ends.{alone}
use Rattle.replay_forms.specs.contracts.set_level as replay-forms·set-level
use Rattle.replay_forms.specs.contracts.pop as replay-forms·pop
use Rattle.replay_forms.specs.contracts.push as replay-forms·push
use Rattle.replay_forms.specs.contracts.add as replay-forms·add
use Rattle.replay_forms.specs.contracts.set_max_namespace_bindings as replay-forms·set-max-namespace-bindings
use Rattle.replay_forms.specs.contracts.opened as replay-forms·opened
use Rattle.replay_forms.specs.contracts.opened_html as replay-forms·opened-html
use Rattle.replay_forms.specs.contracts.next as replay-forms·next
use Rattle.replay_forms.specs.contracts.has_nil as replay-forms·has-nil
use Rattle.replay_forms.specs.contracts.bindings as replay-forms·bindings
use Rattle.replay_forms.specs.contracts.bindings_of as replay-forms·bindings-of

module _ {M : Type 1} {𝓤 : Ura M} (𝓛 : Logic 𝓤) (mem : Memory → SProp 𝓤) (run : Routine → Fun 𝓤) where
  pub replay_forms_set_level : Settled 𝓤 replay-forms·set-level.ended (replay-forms·set-level.clauses 𝓛 mem run)
  replay_forms_set_level κs a g y z = alone 𝓤 _ y z refl

  pub replay_forms_pop : Settled 𝓤 replay-forms·pop.ended (replay-forms·pop.clauses 𝓛 mem run)
  replay_forms_pop κs a g y z = alone 𝓤 _ y z refl

  pub replay_forms_push : Settled 𝓤 replay-forms·push.ended (replay-forms·push.clauses 𝓛 mem run)
  replay_forms_push κs a g y z = alone 𝓤 _ y z refl

  pub replay_forms_add : Settled 𝓤 replay-forms·add.ended (replay-forms·add.clauses 𝓛 mem run)
  replay_forms_add κs a g y z = alone 𝓤 _ y z refl

  pub replay_forms_set_max_namespace_bindings : Settled 𝓤 replay-forms·set-max-namespace-bindings.ended (replay-forms·set-max-namespace-bindings.clauses 𝓛 mem run)
  replay_forms_set_max_namespace_bindings κs a g y z = alone 𝓤 _ y z refl

  pub replay_forms_opened : Settled 𝓤 replay-forms·opened.ended (replay-forms·opened.clauses 𝓛 mem run)
  replay_forms_opened κs a g y z = alone 𝓤 _ y z refl

  pub replay_forms_opened_html : Settled 𝓤 replay-forms·opened-html.ended (replay-forms·opened-html.clauses 𝓛 mem run)
  replay_forms_opened_html κs a g y z = alone 𝓤 _ y z refl

  pub replay_forms_next : Settled 𝓤 replay-forms·next.ended (replay-forms·next.clauses 𝓛 mem run)
  replay_forms_next κs a g y z = alone 𝓤 _ y z refl

  pub replay_forms_has_nil : Settled 𝓤 replay-forms·has-nil.ended (replay-forms·has-nil.clauses 𝓛 mem run)
  replay_forms_has_nil κs a g y z = alone 𝓤 _ y z refl

  pub replay_forms_bindings : Settled 𝓤 replay-forms·bindings.ended (replay-forms·bindings.clauses 𝓛 mem run)
  replay_forms_bindings κs a g y z = alone 𝓤 _ y z refl

  pub replay_forms_bindings_of : Settled 𝓤 replay-forms·bindings-of.ended (replay-forms·bindings-of.clauses 𝓛 mem run)
  replay_forms_bindings_of κs a g y z = alone 𝓤 _ y z refl
