-- The laws of binding a named prefix and of the verdict, by cases on the tests; what a yes means, clause by clause; and that
-- none of the refusals 12 to 15 comes then.
use Prim.Native.Nat.{ℕ}
use mathlib.Core.Path.{◌≡◌, refl, sym, ap, ◌∙◌}
use mathlib.Core.Bool.{Bool, true, false, not, ◌&&◌, ◌||◌, false≢true}
use mathlib.Core.List.{List}
use lib.ListN.{length, get_or}
use lib.Dec.{eqb, ltb}
use borrow.Author.Tests.{eq-eqb, ne_eqb, not-true, not-false}
use Rattle.std.proofs.Math.Bool.{not-not}
use Rattle.std.specs.Prelude.{Option, Some, None, is_some, Result, Ok, Err}
use Rattle.scan.specs.First.{pick, first_from, first_to, first_of}
use Rattle.scan.specs.Bytes.{bytes, bytes_from, same_bytes, is_byte}
use Rattle.scan.proofs.Bytes.{both_false}
use Rattle.name.specs.Split.{has_colon, colon_at, colon_of}
use Rattle.name.specs.Reserved.{xml_prefix, xmlns_prefix, xml_uri, xmlns_uri, is_xml, is_xmlns, is_xml_uri, is_xmlns_uri}
use Rattle.name.specs.Bind.{reserved_bind, named_numbers, number_of}
use Rattle.name.specs.Declares.{declares_of, declared_prefix}
use Rattle.name.specs.Verdict.{is_empty, is_other, is_refused, verdict_named, verdict_default, verdict_on, verdict_of, verdict_number}
use Rattle.name.specs.declared.ReservedBinding.{ReservedBinding}
use Rattle.name.specs.declared.ReservedBinding.TheVariants.{InvalidXmlPrefixBind, InvalidXmlnsPrefixBind, InvalidPrefixForXml, InvalidPrefixForXmlns}
use Rattle.name.specs.declared.PrefixDeclaration.{PrefixDeclaration}
use Rattle.name.specs.declared.PrefixDeclaration.TheVariants.{Default, Named}
use Rattle.name.proofs.Declared.{xml_eq, xml_uri_eq}

-- the answer of each test, or chain of tests
module _ (prefix value : List ℕ) where
  pub bind_own : is_xml prefix ≡ true → is_xml_uri value ≡ true → Ok false ≡ reserved_bind prefix value
  unfolding reserved_bind
  bind_own x u = rw (x, u)

  pub bind_xml : is_xml prefix ≡ true → is_xml_uri value ≡ false → Err InvalidXmlPrefixBind ≡ reserved_bind prefix value
  unfolding reserved_bind
  bind_xml x u = rw (x, u)

  pub bind_xmlns : is_xml prefix ≡ false → is_xmlns prefix ≡ true → Err InvalidXmlnsPrefixBind ≡ reserved_bind prefix value
  unfolding reserved_bind
  bind_xmlns x n = rw (x, n)

  pub bind_to_xml : is_xml prefix ≡ false → is_xmlns prefix ≡ false → is_xml_uri value ≡ true → Err InvalidPrefixForXml ≡ reserved_bind prefix value
  unfolding reserved_bind
  bind_to_xml x n u = rw (x, n, u)

  pub bind_to_xmlns : is_xml prefix ≡ false → is_xmlns prefix ≡ false → is_xml_uri value ≡ false → is_xmlns_uri value ≡ true → Err InvalidPrefixForXmlns ≡ reserved_bind prefix value
  unfolding reserved_bind
  bind_to_xmlns x n u w = rw (x, n, u, w)

  pub bind_fine : is_xml prefix ≡ false → is_xmlns prefix ≡ false → is_xml_uri value ≡ false → is_xmlns_uri value ≡ false → Ok true ≡ reserved_bind prefix value
  unfolding reserved_bind
  bind_fine x n u w = rw (x, n, u, w)

-- `reserved_bind` and the first three clauses of `is_refused`, as functions of their four tests
abbrev bind_by : (x n u w : Bool) → Result Bool ReservedBinding
bind_by x n u w = pick x (pick u (Ok false) (Err InvalidXmlPrefixBind)) (pick n (Err InvalidXmlnsPrefixBind) (pick u (Err InvalidPrefixForXml) (pick w (Err InvalidPrefixForXmlns) (Ok true))))

abbrev refused_by : (x n u w rest : Bool) → Bool
refused_by x n u w rest = n || ((x && not u) || (((not x && not n) && (u || w)) || rest))

-- a check that is one of the four refusals
unfoldable pub is_refusal : Result Bool ReservedBinding → Bool
is_refusal c = ltb 0 (number_of c)

refusal_refused : (x n u w rest : Bool) → is_refusal (bind_by x n u w) ≡ true → refused_by x n u w rest ≡ true
unfolding is_refusal named_numbers
refusal_refused true n true w rest h = absurd (false≢true h)
refusal_refused true true false w rest h = refl
refusal_refused true false false w rest h = refl
refusal_refused false true u w rest h = refl
refusal_refused false false true w rest h = refl
refusal_refused false false false true rest h = refl
refusal_refused false false false false rest h = absurd (false≢true h)

-- a check that finds nothing reserved leaves the verdict to the rest
fine_rest : (x n u w rest : Bool) → bind_by x n u w ≡ Ok true → refused_by x n u w rest ≡ rest
fine_rest true n true w rest h = cc
fine_rest true n false w rest h = cc
fine_rest false true u w rest h = cc
fine_rest false false true w rest h = cc
fine_rest false false false true rest h = cc
fine_rest false false false false rest h = refl

own_tests : (x n u w : Bool) → bind_by x n u w ≡ Ok false → (x ≡ true) × (u ≡ true)
own_tests true n true w h = (refl, refl)
own_tests true n false w h = cc
own_tests false true u w h = cc
own_tests false false true w h = cc
own_tests false false false true h = cc
own_tests false false false false h = cc

-- `xml` to its own URI is allowed
own_allowed : verdict_named xml_prefix xml_uri ≡ true
unfolding verdict_named is_refused is_xml is_xmlns is_xml_uri is_xmlns_uri is_other is_empty has_colon colon_at first_from first_to first_of is_byte same_bytes xml_prefix xmlns_prefix xml_uri xmlns_uri bytes bytes_from
own_allowed = refl

some_colon : (name : List ℕ) → has_colon name ≡ is_some (colon_of name)
unfolding colon_of
some_colon name = by (has_colon name) where
  by : (t : Bool) → t ≡ is_some (pick t (Some (colon_at name)) None)
  by true = refl
  by false = refl

module _ (prefix value : List ℕ) where
  -- A refused binding has the verdict no.
  pub refusal_no : is_refusal (reserved_bind prefix value) ≡ true → false ≡ verdict_named prefix value
  unfolding reserved_bind verdict_named is_refused is_other
  refusal_no h = sym (ap not (refusal_refused (is_xml prefix) (is_xmlns prefix) (is_xml_uri value) (is_xmlns_uri value) (is_empty value || (is_empty prefix || has_colon prefix)) h))

  -- `xml` bound to its own URI has the verdict yes.
  pub own_yes : reserved_bind prefix value ≡ Ok false → true ≡ verdict_named prefix value
  unfolding reserved_bind
  own_yes h =
      let t = own_tests (is_xml prefix) (is_xmlns prefix) (is_xml_uri value) (is_xmlns_uri value) h in
      sym (rw (xml_eq prefix t.0, xml_uri_eq value t.1) own_allowed)

  -- Of any other binding that nothing reserved refuses, the value and the prefix themselves decide.
  pub fine_decides : reserved_bind prefix value ≡ Ok true → verdict_named prefix value ≡ not (is_empty value || (is_empty prefix || has_colon prefix))
  unfolding reserved_bind verdict_named is_refused is_other
  fine_decides h = ap not (fine_rest (is_xml prefix) (is_xmlns prefix) (is_xml_uri value) (is_xmlns_uri value) (is_empty value || (is_empty prefix || has_colon prefix)) h)

  pub fine_empty_value : reserved_bind prefix value ≡ Ok true → length value ≡ 0 → false ≡ verdict_named prefix value
  unfolding is_empty
  fine_empty_value f h = sym (fine_decides f ∙ rw (eq-eqb (length value) 0 h))

  pub fine_empty_prefix : reserved_bind prefix value ≡ Ok true → (length value ≡ 0 → ⊥) → length prefix ≡ 0 → false ≡ verdict_named prefix value
  unfolding is_empty
  fine_empty_prefix f v h = sym (fine_decides f ∙ rw (ne_eqb (length value) 0 v, eq-eqb (length prefix) 0 h))

  -- here the code asks the first colon of the prefix whether it is there
  pub fine_colon : reserved_bind prefix value ≡ Ok true → (length value ≡ 0 → ⊥) → (length prefix ≡ 0 → ⊥) → (colon : Option ℕ) (free : Bool) → colon ≡ colon_of prefix → is_some colon ≡ not free → free ≡ verdict_named prefix value
  unfolding is_empty
  fine_colon f v p colon free e h =
      let c : has_colon prefix ≡ not free = some_colon prefix ∙ ap is_some (sym e) ∙ h in
      sym (fine_decides f ∙ rw (ne_eqb (length value) 0 v, ne_eqb (length prefix) 0 p, c) (not-not free))

-- each refusal is one
pub err_refused : (e : ReservedBinding) → is_refusal (Err e) ≡ true
unfolding is_refusal named_numbers
err_refused InvalidXmlPrefixBind = refl
err_refused InvalidXmlnsPrefixBind = refl
err_refused InvalidPrefixForXml = refl
err_refused InvalidPrefixForXmlns = refl

-- Of a default declaration the two URIs decide.
pub default_xml : (value : List ℕ) → is_xml_uri value ≡ true → false ≡ verdict_default value
unfolding verdict_default
default_xml value u = rw u

pub default_xmlns : (value : List ℕ) → is_xml_uri value ≡ false → {t : Bool} → is_xmlns_uri value ≡ t → not t ≡ verdict_default value
unfolding verdict_default
default_xmlns value u w = rw (u, w)

-- a name that declares nothing has no verdict
pub nothing_verdict : (name value : List ℕ) → declares_of name ≡ None → None ≡ verdict_of name value
unfolding verdict_of verdict_on
nothing_verdict name value d = rw d

-- the verdict on a default declaration is that on its value
pub default_verdict_lem : (name value : List ℕ) → declares_of name ≡ Some Default → {t : Bool} → verdict_default value ≡ t → Some t ≡ verdict_of name value
unfolding verdict_of verdict_on
default_verdict_lem name value d v = rw (d, v)

-- the verdict on a named declaration is that on its prefix and value
pub named_verdict : (name value prefix : List ℕ) → declares_of name ≡ Some Named → prefix ≡ declared_prefix name → {t : Bool} → verdict_named prefix value ≡ t → Some t ≡ verdict_of name value
unfolding verdict_of verdict_on
named_verdict name value prefix d e v = rw (d, ← e, v)

-- The numbers tell all cases apart: each can be read back from them.

named_by : List ℕ → Result Bool ReservedBinding
named_by l =
    pick (eqb (get_or l 0 0) 12) (Err InvalidXmlPrefixBind)
    (pick (eqb (get_or l 0 0) 13) (Err InvalidXmlnsPrefixBind)
    (pick (eqb (get_or l 0 0) 14) (Err InvalidPrefixForXml)
    (pick (eqb (get_or l 0 0) 15) (Err InvalidPrefixForXmlns)
    (pick (eqb (get_or l 1 0) 1) (Ok true) (Ok false)))))

named_back : (c : Result Bool ReservedBinding) → named_by (named_numbers c) ≡ c
unfolding named_numbers named_by
named_back (Ok true) = refl
named_back (Ok false) = refl
named_back (Err InvalidXmlPrefixBind) = refl
named_back (Err InvalidXmlnsPrefixBind) = refl
named_back (Err InvalidPrefixForXml) = refl
named_back (Err InvalidPrefixForXmlns) = refl

pub named_apart : (a b : Result Bool ReservedBinding) → named_numbers a ≡ named_numbers b → a ≡ b
named_apart a b e = sym (named_back a) ∙ ap named_by e ∙ named_back b

-- Each clause of the verdict on a named declaration, where it is a yes.
pub record Allowed (prefix value : List ℕ) : Type 0 where
  pub not_xmlns : is_xmlns prefix ≡ false
  pub own_uri : is_xml prefix ≡ true → is_xml_uri value ≡ true
  pub other_uri : is_other prefix ≡ true → (is_xml_uri value ≡ false) × (is_xmlns_uri value ≡ false)
  pub value_there : is_empty value ≡ false
  pub prefix_there : is_empty prefix ≡ false
  pub colon_free : has_colon prefix ≡ false

-- And on an attribute, by what its name declares. It declares something; as a default it is neither reserved URI; as a named
-- declaration it passes the clauses above.
pub record AllowedDeclaration (name value : List ℕ) : Type 0 where
  pub declares : declares_of name ≡ None → ⊥
  pub default_uri : declares_of name ≡ Some Default → (is_xml_uri value ≡ false) × (is_xmlns_uri value ≡ false)
  pub named : declares_of name ≡ Some Named → Allowed (declared_prefix name) value

neither : (a b : Bool) → not (a || b) ≡ true → (a ≡ false) × (not b ≡ true)
neither true b h = absurd (false≢true h)
neither false b h = (refl, h)

not_both : (a b : Bool) → (a && b) ≡ false → a ≡ true → b ≡ false
not_both true b h e = h
not_both false b h e = absurd (false≢true e)

-- A yes says that every clause passes, of a named declaration
pub named_means : (prefix value : List ℕ) → verdict_named prefix value ≡ true → Allowed prefix value
unfolding verdict_named is_refused
named_means prefix value h =
    let a = neither (is_xmlns prefix) _ h in
    let b = neither (is_xml prefix && not (is_xml_uri value)) _ a.1 in
    let c = neither (is_other prefix && (is_xml_uri value || is_xmlns_uri value)) _ b.1 in
    let d = neither (is_empty value) _ c.1 in
    let e = neither (is_empty prefix) _ d.1 in
    record {
      not_xmlns = a.0;
      own_uri = λ x. not-false (is_xml_uri value) (not_both (is_xml prefix) (not (is_xml_uri value)) b.0 x);
      other_uri = λ o. both_false (is_xml_uri value) (is_xmlns_uri value) (not_both (is_other prefix) (is_xml_uri value || is_xmlns_uri value) c.0 o);
      value_there = d.0;
      prefix_there = e.0;
      colon_free = not-true (has_colon prefix) e.1;
    }

told_yes : {t : Bool} → Some t ≡ Some true → t ≡ true
told_yes h = cc

-- and of any attribute.
pub yes_means : (name value : List ℕ) → verdict_of name value ≡ Some true → AllowedDeclaration name value
unfolding verdict_default
yes_means name value h =
    record {
      declares = λ d. cc (nothing_verdict name value d);
      default_uri = λ d. both_false (is_xml_uri value) (is_xmlns_uri value) (not-true (is_xml_uri value || is_xmlns_uri value) (told_yes (default_verdict_lem name value d refl ∙ h)));
      named = λ d. named_means (declared_prefix name) value (told_yes (named_verdict name value (declared_prefix name) d refl refl ∙ h));
    }

allowed_named : (prefix value : List ℕ) → Allowed prefix value → verdict_named prefix value ≡ true
unfolding verdict_named is_refused is_other
allowed_named prefix value a = by (is_xml prefix) refl where
  by : (t : Bool) → is_xml prefix ≡ t → verdict_named prefix value ≡ true
  by true e = rw (a.not_xmlns, e, a.own_uri e, a.value_there, a.prefix_there, a.colon_free)
  by false e =
      let u = a.other_uri (rw (e, a.not_xmlns)) in
      rw (a.not_xmlns, e, u.0, u.1, a.value_there, a.prefix_there, a.colon_free)

-- Where every clause passes, it is a yes, so that nothing else is refused.
pub allowed_yes : (name value : List ℕ) → AllowedDeclaration name value → verdict_of name value ≡ Some true
allowed_yes name value a = by (declares_of name) refl where
  by : (d : Option PrefixDeclaration) → declares_of name ≡ d → verdict_of name value ≡ Some true
  by None e = absurd (a.declares e)
  by (Some Default) e =
      let u = a.default_uri e in
      sym (default_verdict_lem name value e (sym (default_xmlns value u.0 u.1)))
  by (Some Named) e = sym (named_verdict name value (declared_prefix name) e refl (allowed_named (declared_prefix name) value (a.named e)))

-- Where the verdict is yes, none of the refusals 12 to 15 comes.
pub yes_binds : (prefix value : List ℕ) → verdict_named prefix value ≡ true → is_refusal (reserved_bind prefix value) ≡ false
yes_binds prefix value h = by (is_refusal (reserved_bind prefix value)) refl where
  by : (t : Bool) → is_refusal (reserved_bind prefix value) ≡ t → is_refusal (reserved_bind prefix value) ≡ false
  by true e = absurd (false≢true (refusal_no prefix value e ∙ h))
  by false e = e

-- The number tells the verdicts apart.
abbrev verdict_at : ℕ → Option Bool
verdict_at n = pick (eqb n 0) (Some false) (pick (eqb n 1) (Some true) None)

verdict_from : (v : Option Bool) → v ≡ verdict_at (verdict_number v)
verdict_from (Some false) = refl
verdict_from (Some true) = refl
verdict_from None = refl

pub verdicts_apart : (a b : Option Bool) → verdict_number a ≡ verdict_number b → a ≡ b
verdicts_apart a b e = verdict_from a ∙ ap verdict_at e ∙ sym (verdict_from b)
