-- The laws of declarations: which equation on the name each answer stands for, and what each test of the code decides.
use Prim.Native.Nat.{ℕ, ◌≤◌, ◌<◌}
use mathlib.Core.Path.{◌≡◌, refl, sym, ap, ◌∙◌}
use mathlib.Core.Bool.{Bool, true, false, true≢false, false≢true}
use mathlib.Core.List.{List, [], ◌∷◌, ◌++◌}
use native.Mathlib.Omega.{arith}
use lib.ListN.{length, take, drop, get_or, length-take, length-drop, take-append-drop}
use lib.Seq.{take_all, get_or-take, take-suc, take-take, take-append_seam, drop-append_seam}
use lib.Dec.{eqb}
use borrow.Author.Tests.{eqb-true, eqb-false}
use Rattle.std.specs.Prelude.{Option, Some, None}
use Rattle.std.specs.Bool.{then_some}
use Rattle.scan.specs.First.{pick}
use Rattle.scan.specs.Bytes.{bytes, bytes_from, same_bytes}
use Rattle.name.specs.Reserved.{xml_prefix, xmlns_prefix, xml_uri, xmlns_uri, is_xml, is_xmlns, is_xml_uri, is_xmlns_uri}
use Rattle.name.specs.Declares.{opening, is_named, declares_of, declares_number, declared_prefix}
use Rattle.name.specs.declared.PrefixDeclaration.{PrefixDeclaration}
use Rattle.name.specs.declared.PrefixDeclaration.TheVariants.{Default, Named}
use Rattle.scan.proofs.Laws.{picks}
use Rattle.scan.proofs.Bytes.{same_refl, same_eq, same_ne}

-- the lengths of the reserved texts
pub xml_length : length xml_prefix ≡ 3
unfolding xml_prefix bytes bytes_from
xml_length = refl

pub xmlns_length : length xmlns_prefix ≡ 5
unfolding xmlns_prefix bytes bytes_from
xmlns_length = refl

pub xml_uri_length : length xml_uri ≡ 36
unfolding xml_uri bytes bytes_from
xml_uri_length = refl

pub xmlns_uri_length : length xmlns_uri ≡ 29
unfolding xmlns_uri bytes bytes_from
xmlns_uri_length = refl

pub opening_length : length opening ≡ 6
unfolding opening bytes bytes_from
opening_length = refl

-- `xmlns:` is `xmlns` and a colon
opening_take : take 5 opening ≡ xmlns_prefix
unfolding opening xmlns_prefix bytes bytes_from
opening_take = refl

opening_is : xmlns_prefix ++ 58 ∷ [] ≡ opening
unfolding opening xmlns_prefix bytes bytes_from
opening_is = refl

opening_last : get_or opening 5 0 ≡ 58
unfolding opening bytes bytes_from
opening_last = refl

xmlns_take : take 5 xmlns_prefix ≡ xmlns_prefix
unfolding xmlns_prefix bytes bytes_from
xmlns_take = refl

-- a test that says yes is an equation
pub xmlns_eq : (name : List ℕ) → is_xmlns name ≡ true → name ≡ xmlns_prefix
unfolding is_xmlns
xmlns_eq name = same_eq name xmlns_prefix

pub xml_eq : (name : List ℕ) → is_xml name ≡ true → name ≡ xml_prefix
unfolding is_xml
xml_eq name = same_eq name xml_prefix

pub xml_uri_eq : (value : List ℕ) → is_xml_uri value ≡ true → value ≡ xml_uri
unfolding is_xml_uri
xml_uri_eq value = same_eq value xml_uri

pub xmlns_uri_eq : (value : List ℕ) → is_xmlns_uri value ≡ true → value ≡ xmlns_uri
unfolding is_xmlns_uri
xmlns_uri_eq value = same_eq value xmlns_uri

not_xmlns : (name : List ℕ) → (name ≡ xmlns_prefix → ⊥) → is_xmlns name ≡ false
unfolding is_xmlns
not_xmlns name = same_ne name xmlns_prefix

module _ (name : List ℕ) where
  head_eq : is_named name ≡ true → take 6 name ≡ opening
  unfolding is_named
  head_eq h = rw opening_length at (same_eq (take (length opening) name) opening h)

  not_named : (take 6 name ≡ opening → ⊥) → is_named name ≡ false
  unfolding is_named
  not_named n = same_ne (take (length opening) name) opening (λ e. n (rw opening_length at e))

  is_named_lem : take 6 name ≡ opening → is_named name ≡ true
  unfolding is_named
  is_named_lem e = rw (opening_length, e) (same_refl opening)

  -- A name that begins with `xmlns:` is `xmlns:` and the declared prefix.
  pub named_splits : is_named name ≡ true → name ≡ opening ++ declared_prefix name
  unfolding declared_prefix
  named_splits h = rw (h, opening_length, ← head_eq h) (sym (take-append-drop 6 name))

  pub named_long : is_named name ≡ true → 6 ≤ length name
  named_long h = omega (arith, ap length (head_eq h), length-take 6 name, opening_length)

  pub named_part : is_named name ≡ true → drop 6 name ≡ declared_prefix name
  unfolding declared_prefix
  named_part h = rw (h, opening_length)

  pub unnamed_part : is_named name ≡ false → [] ≡ declared_prefix name
  unfolding declared_prefix
  unnamed_part h = rw h

  pub declared_shorter : length (declared_prefix name) ≤ length name
  unfolding declared_prefix
  declared_shorter =
      picks (λ (p : List ℕ). length p ≤ length name) (is_named name)
      (λ h. omega (arith, length-drop (length opening) name))
      (λ h. omega arith)

  -- no name is both `xmlns` and begins with `xmlns:`
  pub default_unnamed : is_xmlns name ≡ true → is_named name ≡ false
  unfolding is_named same_bytes opening xmlns_prefix bytes bytes_from
  default_unnamed h = rw (xmlns_eq name h)

  pub declares_default : is_xmlns name ≡ true → declares_of name ≡ Some Default
  unfolding declares_of
  declares_default h = rw h

  pub named_undefault : is_named name ≡ true → is_xmlns name ≡ false
  named_undefault h = by (is_xmlns name) refl where
    by : (t : Bool) → is_xmlns name ≡ t → is_xmlns name ≡ false
    by true e = absurd (true≢false (sym h ∙ default_unnamed e))
    by false e = e

  pub declares_named : is_named name ≡ true → declares_of name ≡ Some Named
  unfolding declares_of
  declares_named h = rw (named_undefault h, h)

  pub declares_nothing : is_xmlns name ≡ false → is_named name ≡ false → declares_of name ≡ None
  unfolding declares_of
  declares_nothing x n = rw (x, n)

-- a name is one of three: the default, a named one, or neither
pub declares_cases :
    (name : List ℕ) {C : Type 0}
    → (is_xmlns name ≡ true → declares_of name ≡ Some Default → C)
    → (is_named name ≡ true → declares_of name ≡ Some Named → C)
    → (is_xmlns name ≡ false → is_named name ≡ false → declares_of name ≡ None → C)
    → C
declares_cases name {C} f g h = by (is_xmlns name) (is_named name) refl refl where
  by : (t u : Bool) → is_xmlns name ≡ t → is_named name ≡ u → C
  by true u x n = f x (declares_default name x)
  by false true x n = g n (declares_named name n)
  by false false x n = h x n (declares_nothing name x n)

module _ (name : List ℕ) where
  pub default_tests : declares_of name ≡ Some Default → is_xmlns name ≡ true
  default_tests e =
      declares_cases name (λ x d. x)
      (λ n d. cc)
      (λ x n d. cc)

  pub named_tests : declares_of name ≡ Some Named → is_named name ≡ true
  named_tests e =
      declares_cases name (λ x d. cc)
      (λ n d. n)
      (λ x n d. cc)

  pub nothing_tests : declares_of name ≡ None → (is_xmlns name ≡ false) × (is_named name ≡ false)
  nothing_tests e =
      declares_cases name (λ x d. cc)
      (λ n d. cc)
      (λ x n d. (x, n))

-- The default is declared by `xmlns` and by no other name.
pub default_of_lem : declares_of xmlns_prefix ≡ Some Default
unfolding is_xmlns
default_of_lem = declares_default xmlns_prefix (same_refl xmlns_prefix)

pub default_exactly : (name : List ℕ) → declares_of name ≡ Some Default → name ≡ xmlns_prefix
default_exactly name e = xmlns_eq name (default_tests name e)

-- A prefix p is declared by `xmlns:` and p, and by no other name.
module _ (p : List ℕ) where
  joined_named : is_named (opening ++ p) ≡ true
  unfolding is_named
  joined_named = rw (take-append_seam opening p) (same_refl opening)

  pub named_of_lem : declares_of (opening ++ p) ≡ Some Named
  named_of_lem = declares_named (opening ++ p) joined_named

  pub prefix_of_named : declared_prefix (opening ++ p) ≡ p
  unfolding declared_prefix
  prefix_of_named = rw (joined_named, drop-append_seam opening p)

pub named_exactly : (name : List ℕ) → declares_of name ≡ Some Named → name ≡ opening ++ declared_prefix name
named_exactly name e = named_splits name (named_tests name e)

-- Any other name declares nothing, and only such a name.
pub nothing_exactly : (name : List ℕ) → declares_of name ≡ None → (name ≡ xmlns_prefix → ⊥) × ((p : List ℕ) → name ≡ opening ++ p → ⊥)
nothing_exactly name e = (
  λ d. let f = ap declares_of d ∙ default_of_lem in cc,
  λ p d. let f = ap declares_of d ∙ named_of_lem p in cc,
)

pub nothing_of : (name : List ℕ) → (name ≡ xmlns_prefix → ⊥) → ((p : List ℕ) → name ≡ opening ++ p → ⊥) → declares_of name ≡ None
nothing_of name d n = declares_cases name (λ x e. absurd (d (xmlns_eq name x))) (λ x e. absurd (n (declared_prefix name) (named_splits name x))) (λ x y e. e)

-- The number tells what a name declares apart.
abbrev declares_at : ℕ → Option PrefixDeclaration
declares_at n = pick (eqb n 0) None (pick (eqb n 1) (Some Default) (Some Named))

declares_from : (d : Option PrefixDeclaration) → d ≡ declares_at (declares_number d)
declares_from None = refl
declares_from (Some Default) = refl
declares_from (Some Named) = refl

pub declares_apart : (a b : Option PrefixDeclaration) → declares_number a ≡ declares_number b → a ≡ b
declares_apart a b e = declares_from a ∙ ap declares_at e ∙ sym (declares_from b)

-- What each test of the code decides.
module _ (name : List ℕ) where
  pub too_short : length name < 5 → None ≡ declares_of name
  too_short h =
      sym
      (declares_nothing name (not_xmlns name (λ e. omega (arith, ap length e, xmlns_length)))
      (not_named name (λ e. omega (arith, ap length e, length-take 6 name, opening_length))))

  head_of_named : take 6 name ≡ opening → take 5 name ≡ xmlns_prefix
  head_of_named e = sym (take-take 5 6 name (omega arith)) ∙ ap (take 5) e ∙ opening_take

  pub other_head : is_xmlns (take 5 name) ≡ false → None ≡ declares_of name
  unfolding is_xmlns
  other_head h =
      let n : take 5 name ≡ xmlns_prefix → ⊥ = λ e. false≢true (sym h ∙ ap is_xmlns e ∙ same_refl xmlns_prefix) in
      sym (declares_nothing name (not_xmlns name (λ e. n (ap (take 5) e ∙ xmlns_take))) (not_named name (λ e. n (head_of_named e))))

  pub nothing_after : length name ≡ 5 → is_xmlns (take 5 name) ≡ true → Some Default ≡ declares_of name
  nothing_after l h = sym (declares_default name (sym (ap is_xmlns (take_all 5 name (omega arith))) ∙ h))

  pub colon_after : 5 < length name → is_xmlns (take 5 name) ≡ true → get_or name 5 0 ≡ 58 → Some Named ≡ declares_of name
  colon_after l h c = sym (declares_named name (is_named_lem name (take-suc name 5 0 l ∙ rw (xmlns_eq (take 5 name) h, c) opening_is)))

  pub other_after : 5 < length name → (get_or name 5 0 ≡ 58 → ⊥) → None ≡ declares_of name
  other_after l n =
      sym
      (declares_nothing name (not_xmlns name (λ e. omega (arith, ap length e, xmlns_length)))
      (not_named name (λ e. n (sym (get_or-take 6 name 5 0 (omega arith)) ∙ ap (λ (s : List ℕ). get_or s 5 0) e ∙ opening_last))))

  pub byte_after : 5 < length name → is_xmlns (take 5 name) ≡ true → then_some (eqb (get_or name 5 0) 58) Named ≡ declares_of name
  byte_after l h = by (eqb (get_or name 5 0) 58) refl where
    by : (t : Bool) → eqb (get_or name 5 0) 58 ≡ t → then_some t Named ≡ declares_of name
    by true e = colon_after l h (eqb-true (get_or name 5 0) 58 e)
    by false e = other_after l (eqb-false (get_or name 5 0) 58 e)
