-- Memory of full size holds whatever a head says, so that every answer is that of the resolver itself.
use mathlib.Core.Path.{◌≡◌, refl, subst}
use lib.ListN.{length, take}
use Rattle.std.specs.Prelude.{Err}
use Rattle.scope_table.specs.Lent.{stands_for, Given}
use Rattle.scope_table.specs.declared.NamespaceError.TheVariants.{LendMore, WrongLength}
use Rattle.scope_table.proofs.Full.{fits_full, full_asks}
use Rattle.scope_table.proofs.Calls.{changes}
use Rattle.law_scopes.specs.Calls.{call_of}
use Rattle.law_scopes.specs.Promises.{NeverLends}
use Rattle.law_scopes.proofs.Twenty.{never_lends}
use Rattle.law_lent.specs.Follows.{FullNeverLends, FullNeverWrong}

pub full_never_lends : FullNeverLends
unfolding FullNeverLends NeverLends
full_never_lends text records head t r c =
    let x = stands_for text records head in
    let y = (call_of c x).resolver in
    let g = changes text records head (fits_full (length text) (length records) head.used head.count t r) (call_of c) (call_of c x).answer y
    (take (length text) y.text) (take (length records) y.records) refl
    (fits_full (length text) (length records) y.head.used y.head.count t r) refl refl in
    subst (λ (h : Given). (h.answer ≡ Err LendMore → ⊥) × (h.answer ≡ Err WrongLength → ⊥)) g (never_lends x c)

pub full_never_wrong : FullNeverWrong
unfolding FullNeverWrong
full_never_wrong text records head t r A wrong f = full_asks text records head t r wrong f
