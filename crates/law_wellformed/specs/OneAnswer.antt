-- What it is for a contract to leave one answer: document 01, "Strength of the contracts".
use Rattle.std.specs.Prelude.{◌≡◌}

-- two answers that meet a contract are equal
unfoldable pub OneAnswer : {A : Type 0} → (A → Type 0) → Type 0
OneAnswer {A} Contract = (r r' : A) → Contract r → Contract r' → r ≡ r'

-- the contract `r ≡ d x`
unfoldable pub Is : {A B : Type 0} → (A → B) → A → B → Type 0
Is d x r = r ≡ d x

-- the contract `(r ≡ d x) × (m ≡ e x r)`: a result, and the content of lent memory after the call
unfoldable pub IsLeaving : {A B C : Type 0} → (A → B) → (A → B → C) → A → B × C → Type 0
IsLeaving d e x y = (y.0 ≡ d x) × (y.1 ≡ e x y.0)

-- the same with two lent arrays
unfoldable pub IsLeavingTwo : {A B C D : Type 0} → (A → B) → (A → B → C) → (A → B → D) → A → B × C × D → Type 0
IsLeavingTwo d e f x y = (y.0 ≡ d x) × (y.1 ≡ e x y.0) × (y.2 ≡ f x y.0)
