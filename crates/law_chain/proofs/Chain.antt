-- The theorem on chains of well-formed tags (document 01, "Well-formed tags"): the innermost declaration is the newest
-- binding, and a lookup takes the newest.
use Prim.Native.Nat.{ℕ, suc, ◌-◌}
use mathlib.Core.Path.{◌≡◌, refl, sym, ap, subst, ◌∙◌}
use mathlib.Core.Bool.{Bool, true, false, true≢false}
use mathlib.Core.List.{List, [], ◌∷◌, ◌++◌, append-nil}
use native.Mathlib.Omega.{arith}
use lib.ListN.{length, take, drop, length-append, take-append-drop}
use lib.Seq.{take-append_seam}
use borrow.Author.Tests.{ne_eqb}
use Rattle.scan.specs.First.{pick}
use Rattle.scan.specs.Bytes.{part, inside, same_bytes, bytes, bytes_from}
use Rattle.scan.proofs.Bytes.{same_refl, same_eq, same_ne, inside_part}
use Rattle.name.specs.Split.{colon_at, has_colon, colon_of, prefix_of}
use Rattle.name.specs.Reserved.{xml_prefix, xmlns_prefix, xml_uri, xmlns_uri, is_xml, is_xmlns}
use Rattle.name.specs.Declares.{opening}
use Rattle.name.specs.Verdict.{is_empty, verdict_of}
use Rattle.name.proofs.Declared.{xml_eq, xmlns_eq, named_of_lem, prefix_of_named}
use Rattle.name.proofs.Verdicts.{Allowed}
use Rattle.law_wellformed.specs.Grammar.{Attribute}
use Rattle.scope_table.specs.Records.{record_at}
use Rattle.scope_table.specs.Table.{LIMIT, valid_of, fresh_of}
use Rattle.scope_table.specs.declared.NamespaceResolver.{NamespaceResolver}
use Rattle.scope_declare.specs.Declare.{limited_of}
use Rattle.scope_lookup.specs.Lookup.{has_prefix, is_default, explicit_of, default_of, among_of, resolve_prefix_of, resolve_of, prefix_part}
use Rattle.std.specs.Prelude.{Ok, Some, None}
use Rattle.scope_lookup.specs.declared.ResolveResult.TheVariants.{Unbound, Unknown}
use Rattle.law_rows.specs.Seen.{bound, unbound, unknown, handed_back}
use Rattle.law_chain.specs.Chain.{Tag, pushed_of, NoneRefused, NoneNo, FineTags, Stated, gives, nowhere, or_else, given_by, innermost, declaring, declaring_default, prefixed_by, default_by, unprefixed, meant_by, meant_of}
use Rattle.law_chain.proofs.Table.{built_ins, fresh_holds, limited_holds, newest, seen_by, last_seen, prefix_test, default_test}
use Rattle.law_chain.proofs.Tag.{name_for, After, then_after, allowed, push_binds}

-- With the limit that it has from the start, a fresh resolver is as it was.
pub fresh_limit : limited_of LIMIT fresh_of ≡ fresh_of
unfolding limited_of fresh_of
fresh_limit = refl

-- The chain: of every prefix the innermost declaration is the newest binding.

or_assoc : (a b c : Stated) → or_else a (or_else b c) ≡ or_else (or_else a b) c
unfolding or_else
or_assoc (gives v) b c = refl
or_assoc nowhere b c = refl

pub chain_binds : (limit : ℕ) (tags : List Tag) → FineTags tags → NoneRefused limit tags → After (pushed_of limit tags).resolver built_ins (λ q. innermost (name_for q) tags)
unfolding pushed_of NoneRefused FineTags innermost or_else built_ins newest same_bytes xml_prefix xmlns_prefix bytes bytes_from
chain_binds limit [] fine done = record { list = built_ins; holds = limited_holds fresh_of built_ins limit fresh_holds; own = refl; newer = λ q. refl }
chain_binds limit (t ∷ outer) fine done =
    let o = chain_binds limit outer fine.1 done.1 in
    let i = push_binds t fine.0 (pushed_of limit outer).resolver o.list o.holds o.own done.0 in
    then_after (pushed_of limit outer).resolver (pushed_of limit (t ∷ outer)).resolver built_ins (λ q. innermost (name_for q) outer) (λ q. given_by (name_for q) t.body.attributes) (λ q. innermost (name_for q) (t ∷ outer)) o i
    (λ q old. or_assoc (given_by (name_for q) t.body.attributes) (innermost (name_for q) outer) old)

-- What is given for a prefix is allowed: neither the prefix nor the value is empty.

given_verdict : (n v : List ℕ) (more : List Attribute) → NoneNo more → given_by n more ≡ gives v → verdict_of n v ≡ Some false → ⊥
unfolding NoneNo given_by
given_verdict n v [] verdicts e = let z : ◌≡◌ {A = ℕ} 0 1 = cc in absurd (omega arith)
given_verdict n v (a ∷ more) verdicts e = by (given_verdict n v more verdicts.1) (same_bytes a.name n) refl e where
  by : (given_by n more ≡ gives v → verdict_of n v ≡ Some false → ⊥) → (t : Bool) → same_bytes a.name n ≡ t → pick t (gives a.value) (given_by n more) ≡ gives v → verdict_of n v ≡ Some false → ⊥
  by later true s g refused =
      let m = same_eq a.name n s in
      let w : a.value ≡ v = cc in
      verdicts.0 (rw (m, w) refused)
  by later false s g refused = later g refused

innermost_verdict : (n v : List ℕ) (tags : List Tag) → FineTags tags → innermost n tags ≡ gives v → verdict_of n v ≡ Some false → ⊥
unfolding FineTags innermost or_else
innermost_verdict n v [] fine e = let z : ◌≡◌ {A = ℕ} 0 1 = cc in absurd (omega arith)
innermost_verdict n v (t ∷ outer) fine e = by (innermost_verdict n v outer fine.1) (given_by n t.body.attributes) refl e where
  by : (innermost n outer ≡ gives v → verdict_of n v ≡ Some false → ⊥) → (g : Stated) → given_by n t.body.attributes ≡ g → or_else g (innermost n outer) ≡ gives v → verdict_of n v ≡ Some false → ⊥
  by later (gives w) s g refused = given_verdict n v t.body.attributes fine.0.verdicts (s ∙ g) refused
  by later nowhere s g refused = later g refused

given_allowed : (p v : List ℕ) (tags : List Tag) → FineTags tags → innermost (declaring p) tags ≡ gives v → Allowed p v
unfolding declaring opening
given_allowed p v tags fine e =
    subst (λ (q : List ℕ). Allowed q v) (prefix_of_named p)
    (allowed (opening ++ p) v (named_of_lem p) (innermost_verdict (declaring p) v tags fine e))

-- What is seen.

module _ (p : List ℕ) where
  other_seen : is_xml p ≡ false → is_xmlns p ≡ false → seen_by (unknown p) (newest p built_ins) ≡ unknown p
  unfolding built_ins newest seen_by is_xml is_xmlns
  other_seen x n =
      rw (same_ne xmlns_prefix p (λ e. true≢false (sym (same_refl p) ∙ ap (same_bytes p) (sym e) ∙ n)), same_ne xml_prefix p (λ e. true≢false (sym (same_refl p) ∙ ap (same_bytes p) (sym e) ∙ x)))

  -- a prefix that no tag declares
  built_in_seen : seen_by (unknown p) (newest p built_ins) ≡ prefixed_by p nowhere
  unfolding prefixed_by built_ins newest seen_by is_empty same_bytes xml_prefix xmlns_prefix xml_uri xmlns_uri bytes bytes_from
  built_in_seen = by (is_xml p) refl (is_xmlns p) refl where
    by : (t : Bool) → is_xml p ≡ t → (u : Bool) → is_xmlns p ≡ u → seen_by (unknown p) (newest p built_ins) ≡ pick t (bound xml_uri) (pick u (bound xmlns_uri) (unknown p))
    by true e u f = rw (xml_eq p e)
    by false e true f = rw (xmlns_eq p f)
    by false e false f = other_seen e f

  prefixed_seen : (g : Stated) → ((v : List ℕ) → g ≡ gives v → is_empty v ≡ false) → seen_by (unknown p) (or_else g (newest p built_ins)) ≡ prefixed_by p g
  unfolding or_else seen_by prefixed_by
  prefixed_seen (gives v) there = rw (there v refl)
  prefixed_seen nowhere there = built_in_seen

default_seen : (g : Stated) → seen_by unbound (or_else g (newest [] built_ins)) ≡ default_by g
unfolding or_else seen_by default_by built_ins newest same_bytes xml_prefix xmlns_prefix bytes bytes_from
default_seen (gives v) = refl
default_seen nowhere = refl

-- No tag declares an empty prefix.
empty_nowhere : (g : Stated) → ((v : List ℕ) → g ≡ gives v → is_empty [] ≡ false) → unknown [] ≡ prefixed_by [] g
unfolding prefixed_by is_empty is_xml is_xmlns same_bytes xml_prefix xmlns_prefix bytes bytes_from
empty_nowhere (gives v) there = absurd (true≢false (there v refl))
empty_nowhere nowhere there = refl

prefix_inside : (p rest : List ℕ) → inside (p ++ rest) 0 (length p) ≡ p
unfolding part
prefix_inside p rest =
    let e : length p - 0 ≡ length p = omega arith in
    inside_part (p ++ rest) 0 (length p) (omega arith) (omega (arith, length-append p rest)) ∙ rw (e, take-append_seam p rest)

module _ (limit : ℕ) (tags : List Tag) (fine : FineTags tags) (done : NoneRefused limit tags) where
  -- what the chain leaves
  abbrev x : NamespaceResolver
  x = (pushed_of limit tags).resolver

  abbrev binds : After x built_ins (λ q. innermost (name_for q) tags)
  binds = chain_binds limit tags fine done

  valid : valid_of x ≡ true
  valid = binds.holds.proper.valid

  -- an explicit prefix, which a name begins with
  explicit_seen : (p rest : List ℕ) → handed_back x (p ++ rest) (Ok (explicit_of x.text (record_at x.records) x.head.count p)) ≡ prefixed_by p (innermost (declaring p) tags)
  unfolding explicit_of handed_back prefix_part name_for
  explicit_seen [] rest = rw (prefix_inside [] rest) (empty_nowhere (innermost (declaring []) tags) (λ v e. (given_allowed [] v tags fine e).prefix_there))
  explicit_seen (c ∷ q) rest =
      let p = c ∷ q in
      let h = binds.holds in
      rw (ne_eqb (suc (length q)) 0 (λ e. omega arith), h.count)
      (last_seen x h.proper (p ++ rest) (Unknown 0 (length p)) (λ i. has_prefix x.text p (record_at x.records i)) p (prefix_test x h.proper p) binds.list (omega (arith, h.count)) h.says
      ∙ rw (prefix_inside p rest, binds.newer p) (prefixed_seen p (innermost (declaring p) tags) (λ v e. (given_allowed p v tags fine e).value_there)))

  -- no prefix
  default_looked : (name : List ℕ) (element : Bool) → handed_back x name (Ok (default_of (record_at x.records) x.head.count element)) ≡ unprefixed tags element
  unfolding default_of handed_back unprefixed name_for
  default_looked name false = refl
  default_looked name true =
      let h = binds.holds in
      rw h.count
      (last_seen x h.proper name Unbound (λ i. is_default (record_at x.records i)) [] (default_test x h.proper) binds.list (omega (arith, h.count)) h.says
      ∙ rw (binds.newer []) (default_seen (innermost declaring_default tags)))

  -- The promise: pushed on a fresh resolver with no refusal, a chain of well-formed tags whose declarations have a yes
  -- verdict gives each name the meaning that its innermost declaration has. `element` is true for `resolve_element` and
  -- false for `resolve_attribute`. That a value has no `&`, tab or line end, so that it stands for itself
  -- (`plain_stands`), and that a tag has no more attributes than the capacity, is not needed.
  pub innermost_declares : (name : List ℕ) (element : Bool) → handed_back x name (resolve_of name element x) ≡ meant_of tags name element
  unfolding resolve_of resolve_prefix_of among_of prefix_of meant_of meant_by colon_of
  innermost_declares name element = rw valid (by (has_colon name)) where
    by : (t : Bool) → handed_back x name (Ok (pick t (explicit_of x.text (record_at x.records) x.head.count (pick t (take (colon_at name) name) [])) (default_of (record_at x.records) x.head.count element))) ≡ meant_by tags name element (pick t (Some (colon_at name)) None)
    by true =
        let p = take (colon_at name) name in
        subst (λ (n : List ℕ). handed_back x n (Ok (explicit_of x.text (record_at x.records) x.head.count p)) ≡ prefixed_by p (innermost (declaring p) tags)) (take-append-drop (colon_at name) name)
        (explicit_seen p (drop (colon_at name) name))
    by false = default_looked name element

  -- The same of `resolve_prefix`, which is given the prefix itself.
  pub innermost_prefix : (p : List ℕ) (wanted : Bool) → handed_back x p (resolve_prefix_of p true wanted x) ≡ prefixed_by p (innermost (declaring p) tags)
  unfolding resolve_prefix_of among_of
  innermost_prefix p wanted =
      rw valid
      (subst (λ (n : List ℕ). handed_back x n (Ok (explicit_of x.text (record_at x.records) x.head.count p)) ≡ prefixed_by p (innermost (declaring p) tags)) (append-nil p)
      (explicit_seen p []))

  pub innermost_default : (p : List ℕ) (wanted : Bool) → handed_back x p (resolve_prefix_of p false wanted x) ≡ unprefixed tags wanted
  unfolding resolve_prefix_of among_of
  innermost_default p wanted = rw valid (default_looked p wanted)
