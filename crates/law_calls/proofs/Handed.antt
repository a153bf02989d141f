-- What a caller has of a call whose contract says which value is returned, and what is left behind a `&mut` that it was lent: the tokens, that value with what it owns, and what the reference says last.
-- Assumes nothing.
use mathlib.Core.Path.{◌≡◌, refl}
use mathlib.Core.List.{[], ◌∷◌}
use seplogic.Ra.Ura.{Ura}
use mir.Val.{Val}
use base.Logic.{SProp, ent, sep, id⊢}
use base.Fml.{GName, fres}
use types.Logic.{Logic, sem}
use contract.Monad.{fact}
use types.Kit.{‵, raw, ◌⊛◌, some, later, ◌$◌, ◌∵◌, !, qed, move, use1, split, pick, rewrite, await, updating, now as at_once, done}
use denote.RattleType.{RattleType}
use denote.Signature.{type_at}
use denote.Steps.{heard}
use denote.Triple.Clauses.{Ended, Clauses, Lasts, at_exit, lasts, ensured, closing}
use denote.Triple.Entry.{Res, alive}
use denote.Triple.Spec.{triple_of}
use denote.Triple.Statement.{Contract}

module _ {M : Type 1} {𝓤 : Ura M} (𝓛 : Logic 𝓤) (T : Ended) (c : Clauses 𝓤 T) where
  open 𝓛 use {H, A}

  abbrev G : Contract 𝓤
  G = triple_of 𝓛 T.signature (closing 𝓛 T c)

  -- the value x is returned, and z left under the name γ
  module _ (y : G.Ghost) (R : RattleType) (γ : GName) (x : Res T.signature y.0.0) (z : R.Denot) (last : Lasts T y.0.0 y.0.3 → R.Denot)
      (front : (ws : Lasts T y.0.0 y.0.3) → ent 𝓤 (sem 𝓛 (lasts T y.0.0 y.0.3 ws)) (A.res γ (R.coded.code (last ws))))
      (clause : (r : Res T.signature y.0.0) (ws : Lasts T y.0.0 y.0.3) → ent 𝓤 ((c y.0.0 y.0.3).ensures y.1 r (at_exit T y.0.0 y.0.3 ws)) (fact 𝓤 ((r ≡ x) × (last ws ≡ z)))) where
    abbrev Toks : SProp 𝓤
    Toks = alive 𝓛 T.signature y.0.0 y.0.1

    pub handed : (u : Val) → ent 𝓤 (G.post y u) (H.⇛ (sep 𝓤 Toks (sep 𝓤 (sem 𝓛 ((type_at T.signature.result y.0.0).own_val x (u ∷ []))) (A.res γ (R.coded.code z)))))
    handed u =
        qed 𝓛 (raw (G.post y u) ∷ []) ∵ updating ! $
        use1 𝓛 (later (some (λ (r : Res T.signature y.0.0). (raw Toks ⊛ ‵ ((type_at T.signature.result y.0.0).own_val r (u ∷ []))) ⊛ raw (ensured 𝓛 T c y.0.0 y.0.3 y.1 r)))) (id⊢ 𝓤 _) $ await ! tt $ pick ! (λ r.
        split ! $ move ! (1 ∷ []) $
        use1 𝓛 (some (λ (ws : Lasts T y.0.0 y.0.3). ‵ (lasts T y.0.0 y.0.3 ws) ⊛ raw ((c y.0.0 y.0.3).ensures y.1 r (at_exit T y.0.0 y.0.3 ws)))) (id⊢ 𝓤 _) $ pick ! (λ ws.
        split ! $ move ! (1 ∷ []) $ use1 𝓛 (raw (fact 𝓤 ((r ≡ x) × (last ws ≡ z)))) (clause r ws) $ heard ! ((r ≡ x) × (last ws ≡ z)) (λ e.
        use1 𝓛 (‵ (fres γ (R.coded.code (last ws)))) (front ws) $ rewrite ! 0 (λ (w : R.Denot). ‵ (fres γ (R.coded.code w))) e.1 refl $
        move ! (1 ∷ []) $ split ! $ rewrite ! 1 (λ (w : Res T.signature y.0.0). ‵ ((type_at T.signature.result y.0.0).own_val w (u ∷ []))) e.0 refl $ at_once ! $ done !)))
