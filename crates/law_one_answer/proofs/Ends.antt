-- What the theorems of this crate share: two ends of a call that its contract allows, and what follows of the two.
use mathlib.Core.Path.{◌≡◌, sym, ap, ◌∙◌}
use seplogic.Ra.Ura.{Ura}
use base.Logic.{ent}
use contract.Monad.{conj, conj_l, conj_r, fact, fact_i, fact_use}

-- what follows of two facts
pub follows : {M : Type 1} (𝓤 : Ura M) {P Q R : Type 0} → (P → Q → R) → ent 𝓤 (conj 𝓤 (fact 𝓤 P) (fact 𝓤 Q)) (fact 𝓤 R)
follows 𝓤 {P} {Q} {R} f = fact_use 𝓤 P (conj_l 𝓤 (fact 𝓤 P) (fact 𝓤 Q)) (λ p. fact_use 𝓤 Q (conj_r 𝓤 (fact 𝓤 P) (fact 𝓤 Q)) (λ q. fact_i 𝓤 R _ (f p q)))

-- two pairs whose parts are equal
pub together : {B C : Type 0} (y z : B × C) → y.0 ≡ z.0 → y.1 ≡ z.1 → y ≡ z
together y z e f = ap (λ b. (b, y.1)) e ∙ ap (λ c. (z.0, c)) f

-- an equation for the result, where nothing is lent to write to
pub alone : {M : Type 1} (𝓤 : Ura M) {B C : Type 0} (d : B) (y z : B × C) → y.1 ≡ z.1 → ent 𝓤 (conj 𝓤 (fact 𝓤 (y.0 ≡ d)) (fact 𝓤 (z.0 ≡ d))) (fact 𝓤 (y ≡ z))
alone 𝓤 d y z same = follows 𝓤 (λ p q. together y z (p ∙ sym q) same)

-- an equation for one value of all that a call leaves, from which result and lent memory can be read off
pub read_off : {M : Type 1} (𝓤 : Ura M) {B C : Type 0} (f : B → C) {x y d : B} → ent 𝓤 (conj 𝓤 (fact 𝓤 (x ≡ d)) (fact 𝓤 (y ≡ d))) (fact 𝓤 (f x ≡ f y))
read_off 𝓤 f = follows 𝓤 (λ p q. ap f (p ∙ sym q))

-- an equation for the numbers of what a call leaves, which tell all of it apart
pub by_numbers : {M : Type 1} (𝓤 : Ura M) {B C N : Type 0} (numbers : B → N) → ((x y : B) → numbers x ≡ numbers y → x ≡ y) → (f : B → C) (x y : B) {d : N} → ent 𝓤 (conj 𝓤 (fact 𝓤 (numbers x ≡ d)) (fact 𝓤 (numbers y ≡ d))) (fact 𝓤 (f x ≡ f y))
by_numbers 𝓤 numbers apart f x y = follows 𝓤 (λ p q. ap f (apart x y (p ∙ sym q)))
