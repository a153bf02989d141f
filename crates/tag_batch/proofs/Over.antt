-- The stores of an answer's numbers as one write.
use Prim.Native.Nat.{ℕ, ◌+◌, ◌≤◌}
use mathlib.Core.Path.{◌≡◌, refl, sym, ap, ◌∙◌}
use mathlib.Core.List.{List, [], ◌∷◌}
use native.Mathlib.Omega.{arith}
use lib.ListN.{length, set}
use lib.Seq.{paste, paste-zero, paste-suc}
use Rattle.scan.specs.Lists.{over}
use Rattle.scan.proofs.Lists.{paste_all}

-- five stores are one write
pub five_stores : (out : List ℕ) (n v w x y z : ℕ) → n + 5 ≤ length out → set (set (set (set (set out n v) (n + 1) w) (n + 2) x) (n + 3) y) (n + 4) z ≡ over out n (v ∷ w ∷ x ∷ y ∷ z ∷ [])
five_stores out n v w x y z h =
    let s : List ℕ = v ∷ w ∷ x ∷ y ∷ z ∷ [] in
    let zero_th : n + 0 ≡ n = omega arith in
    let a = paste-suc out n s 0 0 (omega arith) (omega arith) in
    let b = paste-suc out n s 1 0 (omega arith) (omega arith) in
    let c = paste-suc out n s 2 0 (omega arith) (omega arith) in
    let d = paste-suc out n s 3 0 (omega arith) (omega arith) in
    let e = paste-suc out n s 4 0 (omega arith) (omega arith) in
    let first : set out n v ≡ paste out n s 1 =
    ap (λ (l : List ℕ). set l n v) (paste-zero out n s) ∙ ap (λ (k : ℕ). set (paste out n s 0) k v) (sym zero_th) ∙ a in
    rw (first, b, c, d) (e ∙ paste_all out n s 5 refl)
