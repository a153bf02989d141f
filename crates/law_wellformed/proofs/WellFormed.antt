-- The theorems on well-formed tags (document 01, "Well-formed tags").
use Prim.Native.Nat.{ℕ, ◌≤◌}
use mathlib.Core.Path.{◌≡◌, refl, sym, ap, subst, ◌∙◌}
use mathlib.Core.Bool.{Bool, true, false, false≢true}
use mathlib.Core.List.{List, [], ◌∷◌, ◌++◌, map}
use native.Mathlib.Omega.{arith}
use lib.ListN.{length, drop}
use lib.Seq.{drop-append_seam}
use Rattle.scan.specs.Bytes.{inside}
use Rattle.scan.proofs.Bytes.{inside_part}
use Rattle.tag_keys.specs.Keys.{capacity}
use Rattle.tag_step.specs.declared.Span.{Span}
use Rattle.tag_step.specs.Answer.{Answer}
use Rattle.tag_step.specs.Read.{span}
use Rattle.tag_step.specs.Next.{opened}
use Rattle.tag_step.specs.Numbers.{numbers_of}
use Rattle.tag_parts.specs.Parts.{key_part, value_part}
use Rattle.tag_step.specs.Run.{answers_of}
use Rattle.law_wellformed.specs.Grammar.{Quote, double, single, Attribute, Body, attributes_then, body_text, WellFormed, AllQuoted, QuotedBody, HasBody, Distinct}
use Rattle.law_wellformed.specs.Expected.{name_start, name_end, value_start_at, value_end_at, next, in_quotes, attribute_of, attributes_of, is_refusal, no_refusal}
use Rattle.law_wellformed.specs.Accept.{is_body}
use Rattle.law_wellformed.proofs.OneAttribute.{at_next, name_is, name_order, name_inside, value_is, value_order}
use Rattle.law_wellformed.proofs.Bodies.{body_reads}
use Rattle.law_wellformed.proofs.Values.{body_lacks}
use Rattle.law_wellformed.proofs.Accepted.{accepted_body}

-- An attribute is no refusal.
quotes_no_refusal : (q : Quote) (key value : Span) → is_refusal (in_quotes q key value) ≡ false
unfolding is_refusal in_quotes numbers_of
quotes_no_refusal double key value = refl
quotes_no_refusal single key value = refl

attributes_no_refusal : (o : ℕ) (more : List Attribute) → no_refusal (attributes_of o more) ≡ true
unfolding no_refusal attributes_of attribute_of
attributes_no_refusal o [] = refl
attributes_no_refusal o (a ∷ more) =
    rw (quotes_no_refusal a.quote (span (name_start o a) (name_end o a)) (span (value_start_at o a) (value_end_at o a)))
    (attributes_no_refusal (next o a) more)

module _ (pre : List ℕ) (b : Body) where
  -- A body of the productions, no more attributes than can be recorded, distinct names: after any bytes, such as the
  -- tag's name, in both modes, with checks on or off, the answers are its attributes in order, and none is a refusal.
  pub well_formed_reads : WellFormed b → length b.attributes ≤ capacity → Distinct b.attributes → (html checks : Bool) → (answers_of (pre ++ body_text b) (opened (length pre) html checks) ≡ attributes_of (length pre) b.attributes) × (no_refusal (answers_of (pre ++ body_text b) (opened (length pre) html checks)) ≡ true)
  well_formed_reads fine few distinct html checks =
      let reads = body_reads pre b html checks (body_lacks b fine) (λ on. (few, distinct)) in
      (reads, rw reads (attributes_no_refusal (length pre) b.attributes))

  -- The same where a value may be anything without its own quote, and attributes may follow each other, or the start,
  -- with no whitespace before them.
  pub quoted_reads : QuotedBody b → length b.attributes ≤ capacity → Distinct b.attributes → (html checks : Bool) → answers_of (pre ++ body_text b) (opened (length pre) html checks) ≡ attributes_of (length pre) b.attributes
  quoted_reads fine few distinct html checks = body_reads pre b html checks fine (λ on. (few, distinct))

  -- With checks off there may be any number of attributes, and names may come again.
  pub unchecked_reads : QuotedBody b → (html : Bool) → answers_of (pre ++ body_text b) (opened (length pre) html false) ≡ attributes_of (length pre) b.attributes
  unchecked_reads fine html = body_reads pre b html false fine (λ on. absurd (false≢true on))

-- The bounds mark the names and the values.

key_of : (s : List ℕ) (q : Quote) (key value : Span) → key_part s (in_quotes q key value) ≡ inside s key.start key.end
unfolding key_part in_quotes
key_of s double key value = refl
key_of s single key value = refl

value_of : (s : List ℕ) (q : Quote) (key value : Span) → value_part s (in_quotes q key value) ≡ inside s value.start value.end
unfolding value_part in_quotes
value_of s double key value = refl
value_of s single key value = refl

module _ (s : List ℕ) where
  -- the names and the values that the answers mark
  abbrev pub names : List Answer → List (List ℕ)
  names = map (key_part s)

  abbrev pub values : List Answer → List (List ℕ)
  values = map (value_part s)

  marks : (more : List Attribute) (w : List ℕ) (o : ℕ) → AllQuoted more → drop o s ≡ attributes_then more w → (names (attributes_of o more) ≡ map (λ (a : Attribute). a.name) more) × (values (attributes_of o more) ≡ map (λ (a : Attribute). a.value) more)
  unfolding attributes_of attributes_then AllQuoted attribute_of
  marks [] w o fine here = (refl, refl)
  marks (a ∷ more) w o fine here =
      let rest = attributes_then more w in
      let later = marks more w (next o a) fine.1 (at_next s o a rest here fine.0) in
      let n : key_part s (attribute_of o a) ≡ a.name =
      key_of s a.quote (span (name_start o a) (name_end o a)) (span (value_start_at o a) (value_end_at o a))
      ∙ inside_part s (name_start o a) (name_end o a) (omega (arith, name_order s o a rest here fine.0)) (name_inside s o a rest here fine.0)
      ∙ name_is s o a rest here fine.0 in
      let v : value_part s (attribute_of o a) ≡ a.value =
      value_of s a.quote (span (name_start o a) (name_end o a)) (span (value_start_at o a) (value_end_at o a))
      ∙ inside_part s (value_start_at o a) (value_end_at o a) (value_order s o a rest here fine.0).0 (value_order s o a rest here fine.0).1
      ∙ value_is s o a rest here fine.0 in
      (rw (n, later.0), rw (v, later.1))

module _ (pre : List ℕ) (b : Body) where
  abbrev tag : List ℕ
  tag = pre ++ body_text b

  parts_of_lem : QuotedBody b → (answers : List Answer) → answers ≡ attributes_of (length pre) b.attributes → (names tag answers ≡ map (λ (a : Attribute). a.name) b.attributes) × (values tag answers ≡ map (λ (a : Attribute). a.value) b.attributes)
  unfolding body_text
  parts_of_lem fine answers e = rw e (marks tag b.attributes b.after (length pre) fine.attributes (drop-append_seam pre (body_text b)))

  -- The bytes that the answers mark are the names and the values of the body, in order.
  pub well_formed_parts : WellFormed b → length b.attributes ≤ capacity → Distinct b.attributes → (html checks : Bool) →
      let s = pre ++ body_text b in
      let answers = answers_of s (opened (length pre) html checks) in
      (map (key_part s) answers ≡ map (λ (a : Attribute). a.name) b.attributes) × (map (value_part s) answers ≡ map (λ (a : Attribute). a.value) b.attributes)
  well_formed_parts fine few distinct html checks =
      parts_of_lem (body_lacks b fine) (answers_of tag (opened (length pre) html checks)) (well_formed_reads pre b fine few distinct html checks).0

  -- The same of the answers that any number of attributes is due, whatever their names.
  pub due_parts : WellFormed b →
      let s = pre ++ body_text b in
      let answers = attributes_of (length pre) b.attributes in
      (map (key_part s) answers ≡ map (λ (a : Attribute). a.name) b.attributes) × (map (value_part s) answers ≡ map (λ (a : Attribute). a.value) b.attributes)
  due_parts fine = parts_of_lem (body_lacks b fine) (attributes_of (length pre) b.attributes) refl

-- The productions are not ambiguous: two bodies of one text have the same names and the same values, in order, namely
-- those that the iterator finds in it.
module _ (b d : Body) (fine : WellFormed b) (good : WellFormed d) (same : body_text b ≡ body_text d) where
  found_in : (x : Body) → WellFormed x → (names (body_text x) (answers_of (body_text x) (opened 0 false false)) ≡ map (λ (a : Attribute). a.name) x.attributes) × (values (body_text x) (answers_of (body_text x) (opened 0 false false)) ≡ map (λ (a : Attribute). a.value) x.attributes)
  found_in x f = parts_of_lem [] x (body_lacks x f) (answers_of (body_text x) (opened 0 false false)) (unchecked_reads [] x (body_lacks x f) false)

  pub body_unambiguous : (map (λ (a : Attribute). a.name) b.attributes ≡ map (λ (a : Attribute). a.name) d.attributes) × (map (λ (a : Attribute). a.value) b.attributes ≡ map (λ (a : Attribute). a.value) d.attributes)
  body_unambiguous = (
    sym (found_in b fine).0 ∙ ap (λ (s : List ℕ). names s (answers_of s (opened 0 false false))) same ∙ (found_in d good).0,
    sym (found_in b fine).1 ∙ ap (λ (s : List ℕ). values s (answers_of s (opened 0 false false))) same ∙ (found_in d good).1,
  )

-- Whatever `is_body` accepts is so read, where its names are distinct and few enough.
pub accepted_reads : (pre s : List ℕ) → is_body s ≡ true → (x : HasBody s) × (length x.body.attributes ≤ capacity → Distinct x.body.attributes → (html checks : Bool) → answers_of (pre ++ s) (opened (length pre) html checks) ≡ attributes_of (length pre) x.body.attributes)
accepted_reads pre s h =
    let x = accepted_body s h in (
      x,
      λ few distinct html checks.
          subst (λ (t : List ℕ). answers_of (pre ++ t) (opened (length pre) html checks) ≡ attributes_of (length pre) x.body.attributes) x.text
          (well_formed_reads pre x.body x.fine few distinct html checks).0,
    )
