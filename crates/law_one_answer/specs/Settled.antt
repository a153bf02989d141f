-- Document 01, "Strength of the contracts": for every input, refusals included, a public contract leaves one possible answer
-- and one possible content of lent memory after the call.
use seplogic.Ra.Ura.{Ura}
use Rattle.std.specs.Prelude.{◌≡◌}
use base.Logic.{SProp, ent}
use contract.Lifetimes.{Lfts}
use contract.Monad.{conj, fact}
use denote.Triple.Clauses.{Ended, Clauses, Lasts, at_exit}
use denote.Triple.Entry.{Args, Res}

-- how a call ends: its result, and what each part of lent memory holds then
abbrev pub End : (T : Ended) (κs : Lfts T.signature.lifetimes) → Args T.signature κs → Type 0
End T κs a = Res T.signature κs × Lasts T κs a

-- a call with these arguments may end so: what stands under `ensures`, word for word
abbrev pub Allows : {M : Type 1} (𝓤 : Ura M) (T : Ended) (c : Clauses 𝓤 T) (κs : Lfts T.signature.lifetimes) (a : Args T.signature κs) → (c κs a).ghost → End T κs a → SProp 𝓤
Allows 𝓤 T c κs a g y = (c κs a).ensures g y.0 (at_exit T κs a y.1)

-- two ends that a contract allows are equal
abbrev pub Settled : {M : Type 1} (𝓤 : Ura M) (T : Ended) → Clauses 𝓤 T → Type 1
Settled 𝓤 T c = (κs : Lfts T.signature.lifetimes) (a : Args T.signature κs) (g : (c κs a).ghost) (y z : End T κs a)
    → ent 𝓤 (conj 𝓤 (Allows 𝓤 T c κs a g y) (Allows 𝓤 T c κs a g z)) (fact 𝓤 (y ≡ z))

-- the same where of the result only a part is meant: of a slice that is handed back, its bytes
abbrev pub SettledAs : {M : Type 1} (𝓤 : Ura M) (T : Ended) (Part : Type 0) → ((κs : Lfts T.signature.lifetimes) → Res T.signature κs → Part) → Clauses 𝓤 T → Type 1
SettledAs 𝓤 T Part part c = (κs : Lfts T.signature.lifetimes) (a : Args T.signature κs) (g : (c κs a).ghost) (y z : End T κs a)
    → ent 𝓤 (conj 𝓤 (Allows 𝓤 T c κs a g y) (Allows 𝓤 T c κs a g z)) (fact 𝓤 (◌≡◌ {A = Part × Lasts T κs a} (part κs y.0, y.1) (part κs z.0, z.1)))
