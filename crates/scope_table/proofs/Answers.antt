-- Answers: an error is a refusal, and the numbers of document 01 tell all cases apart; and so do those of the test
-- of the form.
use Prim.Native.Nat.{ℕ}
use mathlib.Core.Path.{◌≡◌, refl, sym, ap, ◌∙◌}
use mathlib.Core.Bool.{true, false}
use mathlib.Core.List.{List, [], ◌∷◌}
use lib.Dec.{eqb}
use Rattle.std.specs.Prelude.{Result, Ok, Err}
use Rattle.std.specs.Result.{is_err}
use Rattle.scan.specs.First.{pick}
use Rattle.scope_table.specs.Answer.{change_numbers, is_done, changed, numbered_change, form_number, NamespaceResult}
use Rattle.scope_table.specs.declared.Changed.{Changed}
use Rattle.scope_table.specs.declared.NamespaceResolver.{NamespaceResolver}
use Rattle.scope_table.specs.declared.FormError.{FormError}
use Rattle.scope_table.specs.declared.FormError.TheVariants as Is
use Rattle.scope_table.specs.declared.NamespaceError.TheVariants.{InvalidXmlPrefixBind, InvalidXmlnsPrefixBind, InvalidPrefixForXml, InvalidPrefixForXmlns, TooManyBindings, TooDeeplyNested, BindingTableFull, TextFull, BadResolver, LendMore, WrongLength}

pub refused : (a : NamespaceResult) → is_err a ≡ true → is_done a ≡ false
refused (Ok tt) e = sym e
refused (Err x) e = refl

pub accepted : (a : NamespaceResult) → is_err a ≡ false → a ≡ Ok tt
accepted (Ok tt) e = refl
accepted (Err x) e = cc

-- An answer read back from its numbers.

abbrev three : ℕ → ℕ → ℕ → NamespaceResult
three n a e =
    pick (eqb n 12) (Err (InvalidXmlPrefixBind a e))
    (pick (eqb n 13) (Err (InvalidXmlnsPrefixBind a e))
    (pick (eqb n 14) (Err (InvalidPrefixForXml a e))
    (Err (InvalidPrefixForXmlns a e))))

abbrev two : ℕ → ℕ → NamespaceResult
two n a = pick (eqb n 16) (Err (TooManyBindings a)) (Err (TooDeeplyNested a))

abbrev one : ℕ → NamespaceResult
one n =
    pick (eqb n 18) (Err BindingTableFull)
    (pick (eqb n 19) (Err TextFull)
    (pick (eqb n 20) (Err BadResolver)
    (pick (eqb n 98) (Err LendMore)
    (pick (eqb n 99) (Err WrongLength)
    (Ok tt)))))

abbrev read : List ℕ → NamespaceResult
read [] = Ok tt
read (n ∷ []) = one n
read (n ∷ a ∷ []) = two n a
read (n ∷ a ∷ e ∷ rest) = three n a e

back : (a : NamespaceResult) → read (change_numbers a) ≡ a
unfolding change_numbers
back (Ok tt) = refl
back (Err (InvalidXmlPrefixBind a e)) = refl
back (Err (InvalidXmlnsPrefixBind a e)) = refl
back (Err (InvalidPrefixForXml a e)) = refl
back (Err (InvalidPrefixForXmlns a e)) = refl
back (Err (TooManyBindings limit)) = refl
back (Err (TooDeeplyNested depth)) = refl
back (Err BindingTableFull) = refl
back (Err TextFull) = refl
back (Err BadResolver) = refl
back (Err LendMore) = refl
back (Err WrongLength) = refl

-- answers with the same numbers are the same
pub numbers_tell : (a b : NamespaceResult) → change_numbers a ≡ change_numbers b → a ≡ b
numbers_tell a b e = sym (back a) ∙ ap read e ∙ back b

-- and so are calls with the same numbers and the same resolver
pub change_apart : (c d : Changed) → numbered_change c ≡ numbered_change d → c ≡ d
change_apart c d e =
    ap (λ (a : NamespaceResult). changed a c.resolver) (numbers_tell c.answer d.answer (ap (λ (x : List ℕ × NamespaceResolver). x.0) e))
    ∙ ap (changed d.answer) (ap (λ (x : List ℕ × NamespaceResolver). x.1) e)

-- The same of the test of the form.

form_by : ℕ → Result (Unit {0}) FormError
form_by n = pick (eqb n 20) (Err Is.BadResolver) (pick (eqb n 99) (Err Is.WrongLength) (Ok tt))

form_back : (f : Result (Unit {0}) FormError) → form_by (form_number f) ≡ f
unfolding form_by
form_back (Ok tt) = refl
form_back (Err Is.BadResolver) = refl
form_back (Err Is.WrongLength) = refl

pub form_apart : (f g : Result (Unit {0}) FormError) → form_number f ≡ form_number g → f ≡ g
form_apart f g e = sym (form_back f) ∙ ap form_by e ∙ form_back g
