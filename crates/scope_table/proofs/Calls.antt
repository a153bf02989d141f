-- What a call gives on lent memory, for each way in which its answer is found: by what is lent, by the form, or by what the
-- call makes of the resolver that the memory stands for.
use Prim.Native.Nat.{ℕ}
use mathlib.Core.Path.{◌≡◌, sym, ◌∙◌}
use mathlib.Core.Bool.{true, false}
use mathlib.Core.List.{List}
use lib.ListN.{length, take}
use Rattle.std.specs.Prelude.{Ok, Err}
use Rattle.scan.specs.First.{pick}
use Rattle.scan.proofs.Lists.{pad_take}
use Rattle.scope_table.specs.Table.{TEXT, NUMBERS, valid_of}
use Rattle.scope_table.specs.Answer.{changed, refused_form, NamespaceResult}
use Rattle.scope_table.specs.Lent.{stands_for, fits_of, lent, given, held_of, lent_of, form_of}
use Rattle.scope_table.specs.declared.Head.{Head}
use Rattle.scope_table.specs.declared.NamespaceResolver.{NamespaceResolver}
use Rattle.scope_table.specs.declared.Changed.{Changed}
use Rattle.scope_table.specs.declared.NamespaceError.TheVariants.{BadResolver, LendMore, WrongLength}
use Rattle.scope_table.specs.declared.FormError.{FormError}
use Rattle.scope_table.specs.declared.FormError.TheVariants as Is
use Rattle.scope_table.proofs.Good.{Fits, is_wrong, is_bad, ready}

module _ (text records : List ℕ) (head : Head) where
  -- Calls that ask.

  pub asks_not : {A : Type 0} (wrong : A) (f : NamespaceResolver → A) → Fits text records head false → lent wrong f text records head ≡ wrong
  unfolding lent
  asks_not wrong f e = rw e

  pub asks : {A : Type 0} (wrong : A) (f : NamespaceResolver → A) → Fits text records head true → lent wrong f text records head ≡ f (stands_for text records head)
  unfolding lent
  asks wrong f e = rw e

  -- by the form that was found
  pub asks_wrong : {A : Type 0} (wrong : A) (f : NamespaceResolver → A) → form_of text records head ≡ Err Is.WrongLength → lent wrong f text records head ≡ wrong
  asks_wrong wrong f e = asks_not wrong f (is_wrong text records head e)

  pub asks_bad : {A : Type 0} (wrong : A) (f g : NamespaceResolver → A) → form_of text records head ≡ Err Is.BadResolver → lent wrong (λ x. pick (valid_of x) (f x) (g x)) text records head ≡ g (stands_for text records head)
  asks_bad wrong f g e =
      let b = is_bad text records head e in
      asks wrong (λ x. pick (valid_of x) (f x) (g x)) b.0 ∙ rw b.1

  pub asks_good : {A : Type 0} (wrong : A) (f g : NamespaceResolver → A) → form_of text records head ≡ Ok tt → lent wrong (λ x. pick (valid_of x) (f x) (g x)) text records head ≡ f (stands_for text records head)
  asks_good wrong f g e =
      let b = ready text records head e in
      asks wrong (λ x. pick (valid_of x) (f x) (g x)) b.fit ∙ rw b.valid

  -- Calls that change.

  pub wrong_length : (f : NamespaceResolver → Changed) → Fits text records head false → given (Err WrongLength) text records head ≡ lent_of f text records head
  unfolding lent_of
  wrong_length f e = sym (asks_not (given (Err WrongLength) text records head) (λ x. held_of text records head (f x)) e)

  -- a call is what it is on the resolver that the memory stands for
  pub same_call : (f g : NamespaceResolver → Changed) → f (stands_for text records head) ≡ g (stands_for text records head) → lent_of f text records head ≡ lent_of g text records head
  unfolding lent_of lent
  same_call f g e = rw e

  module _ (fit : Fits text records head true) where
    lent_held : (f : NamespaceResolver → Changed) → lent_of f text records head ≡ held_of text records head (f (stands_for text records head))
    unfolding lent_of
    lent_held f = asks (given (Err WrongLength) text records head) (λ x. held_of text records head (f x)) fit

    -- a refusal that leaves the resolver leaves what is lent
    pub unchanged : (f : NamespaceResolver → Changed) (a : NamespaceResult) → f (stands_for text records head) ≡ changed a (stands_for text records head) → given a text records head ≡ lent_of f text records head
    unfolding held_of
    unchanged f a e = sym (lent_held f ∙ rw (e, fit, pad_take TEXT text, pad_take NUMBERS records))

    -- a change that what is lent holds
    pub changes : (f : NamespaceResolver → Changed) (a : NamespaceResult) (y : NamespaceResolver) (t r : List ℕ) → f (stands_for text records head) ≡ changed a y → fits_of (length text) (length records) y.head.used y.head.count ≡ true → take (length text) y.text ≡ t → take (length records) y.records ≡ r → given a t r y.head ≡ lent_of f text records head
    unfolding held_of
    changes f a y t r e h p q = sym (lent_held f ∙ rw (e, h, p, q))

    -- one that it does not hold
    pub lends_more : (f : NamespaceResolver → Changed) (a : NamespaceResult) (y : NamespaceResolver) → f (stands_for text records head) ≡ changed a y → fits_of (length text) (length records) y.head.used y.head.count ≡ false → given (Err LendMore) text records head ≡ lent_of f text records head
    unfolding held_of
    lends_more f a y e h = sym (lent_held f ∙ rw (e, h))

  -- by the form that was found: 99, 20, and a good one
  pub changes_wrong : (f : NamespaceResolver → Changed) → form_of text records head ≡ Err Is.WrongLength → given (Err WrongLength) text records head ≡ lent_of f text records head
  changes_wrong f e = wrong_length f (is_wrong text records head e)

  pub changes_bad : (f : NamespaceResolver → Changed) → form_of text records head ≡ Err Is.BadResolver → given (Err BadResolver) text records head ≡ lent_of (λ x. pick (valid_of x) (f x) (changed (Err BadResolver) x)) text records head
  changes_bad f e =
      let b = is_bad text records head e in
      unchanged b.0 (λ x. pick (valid_of x) (f x) (changed (Err BadResolver) x)) (Err BadResolver) (rw b.1)

  pub changes_refused : (f : NamespaceResolver → Changed) (e : FormError) → form_of text records head ≡ Err e → given (Err (refused_form e)) text records head ≡ lent_of (λ x. pick (valid_of x) (f x) (changed (Err BadResolver) x)) text records head
  changes_refused f Is.BadResolver e = changes_bad f e
  changes_refused f Is.WrongLength e = changes_wrong (λ x. pick (valid_of x) (f x) (changed (Err BadResolver) x)) e

  pub changes_good : (f : NamespaceResolver → Changed) → form_of text records head ≡ Ok tt → lent_of (λ x. pick (valid_of x) (f x) (changed (Err BadResolver) x)) text records head ≡ lent_of f text records head
  changes_good f e = same_call (λ x. pick (valid_of x) (f x) (changed (Err BadResolver) x)) f (rw (ready text records head e).valid)
