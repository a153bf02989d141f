-- What a caller has of a call, of whose contract it uses a fact: the tokens, and a value of which that holds, with what the value owns.
-- Assumes nothing.
use mathlib.Core.Path.{◌≡◌, refl}
use mathlib.Core.List.{[], ◌∷◌}
use seplogic.Ra.Ura.{Ura}
use mir.Val.{Val}
use base.Logic.{SProp, ent, sep, ex, via, ex_e, snd∗, id⊢}
use types.Logic.{Logic, sem}
use contract.Monad.{fact}
use types.Kit.{raw, ◌⊛◌, some, later, ◌$◌, ◌∵◌, !, qed, move, use1, split, pick, rewrite, await, updating, now as at_once, show, done}
use denote.Signature.{type_at}
use denote.Steps.{heard}
use denote.Triple.Clauses.{Ended, Clauses, AtExit, at_exit, lasts, ensured, closing}
use denote.Triple.Entry.{Res, alive}
use denote.Triple.Spec.{triple_of}
use denote.Triple.Statement.{Contract}

module _ {M : Type 1} {𝓤 : Ura M} (𝓛 : Logic 𝓤) (T : Ended) (c : Clauses 𝓤 T) where
  open 𝓛 use {H}

  abbrev G : Contract 𝓤
  G = triple_of 𝓛 T.signature (closing 𝓛 T c)

  module _ (y : G.Ghost) where
    abbrev Toks : SProp 𝓤
    Toks = alive 𝓛 T.signature y.0.0 y.0.1

    -- the tokens, and a result with what it owns
    abbrev Had : Val → Res T.signature y.0.0 → SProp 𝓤
    Had u r = sep 𝓤 Toks (sem 𝓛 ((type_at T.signature.result y.0.0).own_val r (u ∷ [])))

    module _ (P : Res T.signature y.0.0 → Type 0) (says-P : (r : Res T.signature y.0.0) (e : AtExit T y.0.0) → ent 𝓤 ((c y.0.0 y.0.3).ensures y.1 r e) (fact 𝓤 (P r))) where
      said : (r : Res T.signature y.0.0) → ent 𝓤 (ensured 𝓛 T c y.0.0 y.0.3 y.1 r) (fact 𝓤 (P r))
      said r = ex_e 𝓤 _ (λ ws.
          let C = (c y.0.0 y.0.3).ensures y.1 r (at_exit T y.0.0 y.0.3 ws) in
          via 𝓤 C (snd∗ 𝓤 (sem 𝓛 (lasts T y.0.0 y.0.3 ws)) C) (says-P r (at_exit T y.0.0 y.0.3 ws)))

      -- some result, of which the fact holds
      pub returned_some : (u : Val) → ent 𝓤 (G.post y u) (H.⇛ (ex 𝓤 (λ r. sep 𝓤 (Had u r) (fact 𝓤 (P r)))))
      returned_some u =
          qed 𝓛 (raw (G.post y u) ∷ []) ∵ updating ! $
          use1 𝓛 (later (some (λ (r : Res T.signature y.0.0). raw (Had u r) ⊛ raw (ensured 𝓛 T c y.0.0 y.0.3 y.1 r)))) (id⊢ 𝓤 _) $ await ! tt $ pick ! (λ r.
          split ! $ move ! (1 ∷ []) $ use1 𝓛 (raw (fact 𝓤 (P r))) (said r) $ at_once ! $ show ! (λ r. sep 𝓤 (Had u r) (fact 𝓤 (P r))) r $ move ! (1 ∷ 0 ∷ []) $ done !)

    -- the one result that the contract leaves
    pub returned : (x : Res T.signature y.0.0) → ((r : Res T.signature y.0.0) (e : AtExit T y.0.0) → ent 𝓤 ((c y.0.0 y.0.3).ensures y.1 r e) (fact 𝓤 (r ≡ x)))
        → (u : Val) → ent 𝓤 (G.post y u) (H.⇛ (Had u x))
    returned x says-x u =
        qed 𝓛 (raw (G.post y u) ∷ []) ∵ updating ! $
        use1 𝓛 (later (some (λ (r : Res T.signature y.0.0). raw (Had u r) ⊛ raw (fact 𝓤 (r ≡ x))))) (returned_some (λ r. r ≡ x) says-x u) $ await ! tt $ pick ! (λ r.
        split ! $ move ! (1 ∷ []) $ heard ! (r ≡ x) (λ e. rewrite ! 0 (λ (z : Res T.signature y.0.0). raw (Had u z)) e refl $ at_once ! $ done !))
