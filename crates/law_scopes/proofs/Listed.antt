-- Laws of the sum over a list of bindings, and of those up to a level.
use Prim.Native.Nat.{ℕ, zero, suc, ◌+◌, ◌≤◌, ◌<◌}
use mathlib.Core.Path.{◌≡◌, refl, ap, ◌∙◌}
use mathlib.Core.Bool.{Bool, true, false}
use mathlib.Core.List.{List, [], ◌∷◌, ◌++◌, append-nil}
use mathlib.Core.Logic.{⊎_elim}
use native.Mathlib.Nat.{eq-or-lt_of_le}
use native.Mathlib.Omega.{arith}
use borrow.Author.Tests.{le-leb, lt-leb}
use Rattle.scan.specs.First.{pick}
use Rattle.scan.specs.Lists.{list_to}
use Rattle.law_scopes.specs.Scopes.{Made, size_of, keeps, up_to}

pub size_append : (l m : List Made) → size_of (l ++ m) ≡ size_of l + size_of m
unfolding size_of
size_append [] m = omega arith
size_append (b ∷ l) m = omega (arith, size_append l m)

module _ (to : ℕ) where
  kept : (b : Made) → b.level ≤ to → keeps to b ≡ true
  unfolding keeps
  kept b h = le-leb b.level to h

  pub not_kept : (b : Made) → to < b.level → keeps to b ≡ false
  unfolding keeps
  not_kept b h = lt-leb b.level to h

  pub up_append : (l m : List Made) → up_to to (l ++ m) ≡ up_to to l ++ up_to to m
  unfolding up_to
  up_append [] m = refl
  up_append (b ∷ l) m = by (keeps to b) (up_append l m) where
    by : (t : Bool) → up_to to (l ++ m) ≡ up_to to l ++ up_to to m → pick t (b ∷ up_to to (l ++ m)) (up_to to (l ++ m)) ≡ pick t (b ∷ up_to to l) (up_to to l) ++ up_to to m
    by true e = ap (λ (r : List Made). b ∷ r) e
    by false e = e

  -- of a list that rises past the level at m, the first m
  pub up_list : (f : ℕ → Made) (n m : ℕ) → m ≤ n → ((i : ℕ) → i < m → (f i).level ≤ to) → ((i : ℕ) → m ≤ i → i < n → to < (f i).level) →
      up_to to (list_to f n) ≡ list_to f m
  unfolding up_to list_to
  up_list f zero m h below above =
      let z : m ≡ 0 = omega arith in
      rw z
  up_list f (suc n) m h below above =
      up_append (list_to f n) (f n ∷ [])
      ∙ ⊎_elim
      (λ (q : m ≡ suc n). rw (q, kept (f n) (below n (omega arith)), up_list f n n (omega arith) (λ i l. below i (omega arith)) (λ i lo hi. absurd (omega arith))))
      (λ (l : m < suc n). rw (not_kept (f n) (above n (omega arith) (omega arith)), up_list f n m (omega arith) below (λ i lo hi. above i lo (omega arith))) (append-nil _))
      (eq-or-lt_of_le h)
