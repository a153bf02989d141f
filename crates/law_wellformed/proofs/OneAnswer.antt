-- A contract that is an equation leaves one answer, and so does a chain of them, each over what those before it gave:
-- a result, then the content of each lent array.
use mathlib.Core.Path.{◌≡◌, sym, ap, subst, ◌∙◌}
use Rattle.law_wellformed.specs.OneAnswer.{OneAnswer, Is, IsLeaving, IsLeavingTwo}

pub one_answer : {A B : Type 0} (d : A → B) (x : A) → OneAnswer (Is d x)
unfolding OneAnswer Is
one_answer d x r r' e e' = e ∙ sym e'

-- a contract on a result, and one on what is lent, which may cite the result: the same law again serves a second array
module _ {A B : Type 0} (First : A → Type 0) (Second : A → B → Type 0) where
  pub one_answer_and : OneAnswer First → ((r : A) → OneAnswer (Second r)) → OneAnswer (λ (y : A × B). First y.0 × Second y.0 y.1)
  unfolding OneAnswer
  one_answer_and one two (r, m) (r', m') c c' = by r' (one r r' c.0 c'.0) m' c'.1 where
    by : (r' : A) → r ≡ r' → (m' : B) → Second r' m' → ◌≡◌ {A = A × B} (r, m) (r', m')
    by r' e = subst (λ (z : A). (m' : B) → Second z m' → ◌≡◌ {A = A × B} (r, m) (z, m')) e (λ m' d. ap (λ (n : B). (r, n)) (two r m m' c.1 d))

pub one_answer_lent : {A B C : Type 0} (d : A → B) (e : A → B → C) (x : A) → OneAnswer (IsLeaving d e x)
unfolding IsLeaving Is
one_answer_lent {A} {B} {C} d e x = one_answer_and (Is d x) (λ (r : B). Is (λ (a : A). e a r) x) (one_answer d x) (λ r. one_answer (λ (a : A). e a r) x)

pub one_answer_two : {A B C D : Type 0} (d : A → B) (e : A → B → C) (f : A → B → D) (x : A) → OneAnswer (IsLeavingTwo d e f x)
unfolding OneAnswer IsLeavingTwo
one_answer_two d e f x (r, m, n) (r', m', n') c c' = cc
