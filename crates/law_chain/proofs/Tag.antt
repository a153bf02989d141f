-- What a push of a well-formed tag leaves, as a list of bindings: of every prefix, the tag's own declaration is the
-- newest, and else what there was.
use Prim.Native.Nat.{ℕ, ◌-◌, ◌<◌}
use mathlib.Core.Path.{◌≡◌, refl, sym, ap, subst, ◌∙◌}
use mathlib.Core.Bool.{Bool, true, false, true≢false, false≢true}
use mathlib.Core.List.{List, [], ◌∷◌, ◌++◌, map}
use lib.Dec.{leb}
use lib.ListN.{length}
use lib.Seq.{take-length}
use borrow.Author.Tests.{leb-false}
use Rattle.std.specs.Prelude.{Ok, Option, Some, None}
use Rattle.scan.specs.First.{pick}
use Rattle.scan.specs.Bytes.{same_bytes, bytes, bytes_from}
use Rattle.scan.proofs.Laws.{picks}
use Rattle.scan.proofs.Bytes.{same_eq, same_ne}
use Rattle.name.specs.Reserved.{xml_prefix, xmlns_prefix, xml_uri, is_xml}
use Rattle.name.specs.Bind.{reserved_bind}
use Rattle.name.specs.Declares.{opening, declares_of, declared_prefix}
use Rattle.name.specs.Verdict.{is_empty, is_other, verdict_named, verdict_of}
use Rattle.name.specs.declared.PrefixDeclaration.{PrefixDeclaration}
use Rattle.name.specs.declared.PrefixDeclaration.TheVariants.{Default, Named}
use Rattle.name.proofs.Declared.{xml_eq, xml_uri_eq, default_exactly, named_exactly, nothing_exactly}
use Rattle.name.proofs.Verdicts.{Allowed, named_means, named_verdict, bind_own, bind_fine}
use Rattle.tag_step.specs.declared.Span.{Span}
use Rattle.tag_step.specs.Answer.{Answer}
use Rattle.tag_step.specs.Read.{span}
use Rattle.tag_parts.specs.Parts.{key_part, value_part}
use Rattle.law_wellformed.specs.Grammar.{Quote, double, single, Attribute, body_text, Absent, Distinct}
use Rattle.law_wellformed.specs.Expected.{name_start, name_end, value_start_at, value_end_at, next, in_quotes, attributes_of}
use Rattle.law_wellformed.specs.Expected as Due
use Rattle.law_wellformed.proofs.Values.{body_lacks}
use Rattle.law_wellformed.proofs.WellFormed.{unchecked_reads, due_parts}
use Rattle.scope_table.specs.Table.{DEEPEST, valid_of}
use Rattle.scope_table.specs.Answer.{is_done}
use Rattle.scope_table.specs.declared.NamespaceResolver.{NamespaceResolver}
use Rattle.scope_table.specs.declared.Changed.{Changed}
use Rattle.scope_change.specs.Change.{whole, append_of}
use Rattle.scope_declare.specs.Declare.{places_of, named_of, judge_of, settle_of, declare_of}
use Rattle.scope_declare.specs.declared.Places.{Places}
use Rattle.scope_push.specs.Push.{Declaration, declaration_of, declaration_then, declarations_of, tag_answers, then_of, declare_all, raised_of, push_of}
use Rattle.law_scopes.specs.Scopes.{Made, made}
use Rattle.law_scopes.proofs.Declared.{refusal, room_of_lem}
use Rattle.law_chain.specs.Chain.{Tag, FineTag, NoneNo, Stated, gives, nowhere, or_else, given_by, declaring, declaring_default}
use Rattle.law_chain.proofs.Table.{Holds, newest, bound_holds, raised_holds}

-- what declares a prefix; no prefix is the default
unfoldable pub name_for : List ℕ → List ℕ
name_for [] = declaring_default
name_for (c ∷ p) = declaring (c ∷ p)

-- A resolver after declarations: what is newest of each prefix is what they give it, and else what there was in `bs`.
-- `xml` keeps its own URI.
pub record After (y : NamespaceResolver) (bs : List Made) (given : List ℕ → Stated) : Type 0 where
  pub list : List Made
  pub holds : Holds y list
  pub own : newest xml_prefix list ≡ gives xml_uri
  pub newer : (q : List ℕ) → newest q list ≡ or_else (given q) (newest q bs)

-- Declarations after declarations: the later ones come first.
pub then_after : (x y : NamespaceResolver) (bs : List Made) (first later both : List ℕ → Stated) (one : After x bs first) → After y one.list later → ((q : List ℕ) (old : Stated) → or_else (later q) (or_else (first q) old) ≡ or_else (both q) old) → After y bs both
then_after x y bs first later both one two join =
    record {
      list = two.list;
      holds = two.holds;
      own = two.own;
      newer = λ q. two.newer q ∙ ap (or_else (later q)) (one.newer q) ∙ join q (newest q bs);
    }

-- what one attribute gives
unfoldable pub one_gives : (key value : List ℕ) → List ℕ → Stated
one_gives key value q = pick (same_bytes key (name_for q)) (gives value) nowhere

-- Names and prefixes: a name declares q exactly if its prefix is q.

default_named : (q : List ℕ) → same_bytes xmlns_prefix (name_for q) ≡ same_bytes [] q
unfolding name_for declaring_default declaring xmlns_prefix bytes bytes_from same_bytes
default_named [] = refl
default_named (c ∷ q) = refl

prefix_named : (p q : List ℕ) → is_empty p ≡ false → same_bytes (opening ++ p) (name_for q) ≡ same_bytes p q
unfolding name_for declaring_default declaring opening bytes bytes_from same_bytes is_empty
prefix_named [] q h = absurd (true≢false h)
prefix_named (d ∷ p) [] h = refl
prefix_named (d ∷ p) (c ∷ q) h = refl

nothing_named : (key q : List ℕ) → declares_of key ≡ None → same_bytes key (name_for q) ≡ false
unfolding name_for declaring_default declaring xmlns_prefix opening
nothing_named key [] e = same_ne key (name_for []) (nothing_exactly key e).0
nothing_named key (c ∷ q) e = same_ne key (name_for (c ∷ q)) ((nothing_exactly key e).1 (c ∷ q))

-- A binding that goes in.
append_holds : (x : NamespaceResolver) (bs : List Made) (p v : List ℕ) → Holds x bs → is_done (append_of whole p v x).answer ≡ true → Holds (append_of whole p v x).resolver (made p v x.head.level ∷ bs)
unfolding append_of
append_holds x bs p v h =
    picks (λ (c : Changed). is_done c.answer ≡ true → Holds c.resolver (made p v x.head.level ∷ bs)) (is_done (refusal x p v))
    (λ e d. bound_holds x bs p v h (room_of_lem x p v e))
    (λ e d. absurd (true≢false (sym d ∙ e)))

-- One attribute.

pub allowed : (key value : List ℕ) → declares_of key ≡ Some Named → (verdict_of key value ≡ Some false → ⊥) → Allowed (declared_prefix key) value
allowed key value d n = by (verdict_named (declared_prefix key) value) refl where
  by : (t : Bool) → verdict_named (declared_prefix key) value ≡ t → Allowed (declared_prefix key) value
  by true e = named_means (declared_prefix key) value e
  by false e = absurd (n (sym (named_verdict key value (declared_prefix key) d refl e)))

pick_given : (t : Bool) (v : List ℕ) (old : Stated) → pick t (gives v) old ≡ or_else (pick t (gives v) nowhere) old
unfolding or_else
pick_given true v old = refl
pick_given false v old = refl

module _ (x : NamespaceResolver) (bs : List Made) (h : Holds x bs) (own : newest xml_prefix bs ≡ gives xml_uri) (key value : List ℕ) (at : Places) (verdict : verdict_of key value ≡ Some false → ⊥) where
  abbrev p : List ℕ
  p = declared_prefix key

  -- the table is as it was
  same_after : ((q : List ℕ) → same_bytes key (name_for q) ≡ true → newest q bs ≡ gives value) → After x bs (one_gives key value)
  unfolding one_gives or_else
  same_after f = record { list = bs; holds = h; own = own; newer = λ q. by q (same_bytes key (name_for q)) refl } where
    by : (q : List ℕ) (t : Bool) → same_bytes key (name_for q) ≡ t → newest q bs ≡ or_else (pick t (gives value) nowhere) (newest q bs)
    by q true e = f q e
    by q false e = refl

  -- one binding more
  bound_after : (y : NamespaceResolver) (q : List ℕ) → Holds y (made q value x.head.level ∷ bs) → is_xml q ≡ false → ((r : List ℕ) → same_bytes key (name_for r) ≡ same_bytes q r) → After y bs (one_gives key value)
  unfolding one_gives newest is_xml
  bound_after y q k n e =
      record {
        list = made q value x.head.level ∷ bs;
        holds = k;
        own = rw n own;
        newer = λ r. rw (e r) (pick_given (same_bytes q r) value (newest r bs));
      }

  named_by : Allowed p value → key ≡ opening ++ p → (t : Bool) → is_xml p ≡ t → is_done (settle_of whole (named_of (reserved_bind p value) p at) p value x).answer ≡ true → After (settle_of whole (named_of (reserved_bind p value) p at) p value x).resolver bs (one_gives key value)
  unfolding named_of settle_of is_other
  named_by a k true e =
      let u = a.own_uri e in
      rw (sym (bind_own p value e u))
      (λ d. same_after (λ q s.
      let n : p ≡ q = same_eq p q (sym (prefix_named p q a.prefix_there) ∙ ap (λ (l : List ℕ). same_bytes l (name_for q)) (sym k) ∙ s) in
      subst (λ (l : List ℕ). newest l bs ≡ gives value) (sym (xml_eq p e) ∙ n) (own ∙ ap gives (sym (xml_uri_eq value u)))))
  named_by a k false e =
      let o : is_other p ≡ true = rw (e, a.not_xmlns) in
      let u = a.other_uri o in
      rw (sym (bind_fine p value e a.not_xmlns u.0 u.1), take-length p)
      (λ d. bound_after (append_of whole p value x).resolver p (append_holds x bs p value h d) e
      (λ r. ap (λ (l : List ℕ). same_bytes l (name_for r)) k ∙ prefix_named p r a.prefix_there))

  declared_by_lem : (d : Option PrefixDeclaration) → declares_of key ≡ d → is_done (declare_of whole d p value at x).answer ≡ true → After (declare_of whole d p value at x).resolver bs (one_gives key value)
  unfolding declare_of judge_of settle_of is_xml same_bytes xml_prefix bytes bytes_from
  declared_by_lem None e d = same_after (λ q s. absurd (true≢false (sym s ∙ nothing_named key q e)))
  declared_by_lem (Some Default) e d =
      bound_after (append_of whole [] value x).resolver [] (append_holds x bs [] value h d) refl
      (λ r. ap (λ (l : List ℕ). same_bytes l (name_for r)) (default_exactly key e) ∙ default_named r)
  declared_by_lem (Some Named) e d = named_by (allowed key value e verdict) (named_exactly key e) (is_xml p) refl d

-- All of a tag.

then_done : (c : Changed) (next : NamespaceResolver → Changed) → is_done (then_of c next).answer ≡ true → (is_done c.answer ≡ true) × (then_of c next ≡ next c.resolver)
unfolding then_of
then_done c next = by (is_done c.answer) refl where
  by : (t : Bool) → is_done c.answer ≡ t → is_done (pick t (next c.resolver) c).answer ≡ true → (is_done c.answer ≡ true) × (pick t (next c.resolver) c ≡ next c.resolver)
  by true e d = (e, refl)
  by false e d = absurd (true≢false (sym d ∙ e))

quoted_declares : (s : List ℕ) (q : Quote) (k v : Span) (more : List Declaration) → declaration_then s (in_quotes q k v) more ≡ declaration_of (key_part s (in_quotes q k v)) (value_part s (in_quotes q k v)) k v ∷ more
unfolding declaration_then in_quotes
quoted_declares s double k v more = refl
quoted_declares s single k v more = refl

-- names that are absent are not given
absent_nowhere : (n : List ℕ) (more : List Attribute) → Absent n more → given_by n more ≡ nowhere
unfolding Absent given_by
absent_nowhere n [] a = refl
absent_nowhere n (b ∷ more) a = rw (same_ne b.name n (λ e. a.0 (sym e))) (absent_nowhere n more a.1)

given_next : (n : List ℕ) (a : Attribute) (more : List Attribute) (old : Stated) → Absent a.name more → or_else (given_by n more) (or_else (pick (same_bytes a.name n) (gives a.value) nowhere) old) ≡ or_else (given_by n (a ∷ more)) old
unfolding given_by or_else
given_next n a more old absent = by (same_bytes a.name n) refl where
  by : (t : Bool) → same_bytes a.name n ≡ t → or_else (given_by n more) (or_else (pick t (gives a.value) nowhere) old) ≡ or_else (pick t (gives a.value) (given_by n more)) old
  by true e = rw (sym (same_eq a.name n e), absent_nowhere a.name more absent)
  by false e = refl

module _ (s : List ℕ) where
  -- the declarations of attributes from the place o on
  abbrev due : ℕ → List Attribute → List Declaration
  due o more = declarations_of s (attributes_of o more)

  taken : (more : List Attribute) (o : ℕ) (x : NamespaceResolver) (bs : List Made) → map (key_part s) (attributes_of o more) ≡ map (λ (a : Attribute). a.name) more → map (value_part s) (attributes_of o more) ≡ map (λ (a : Attribute). a.value) more → Distinct more → NoneNo more → Holds x bs → newest xml_prefix bs ≡ gives xml_uri → is_done (declare_all whole (due o more) x).answer ≡ true → After (declare_all whole (due o more) x).resolver bs (λ q. given_by (name_for q) more)
  unfolding attributes_of Due.attribute_of declarations_of declaration_of declare_all Distinct NoneNo given_by or_else one_gives
  taken [] o x bs names values distinct verdicts h own d = record { list = bs; holds = h; own = own; newer = λ q. refl }
  taken (a ∷ more) o x bs names values distinct verdicts h own d =
      let k = span (name_start o a) (name_end o a) in
      let v = span (value_start_at o a) (value_end_at o a) in
      let z = in_quotes a.quote k v in
      let later = declare_all whole (due (next o a) more) in
      let ns : key_part s z ∷ map (key_part s) (attributes_of (next o a) more) ≡ a.name ∷ map (λ (b : Attribute). b.name) more = names in
      let ws : value_part s z ∷ map (value_part s) (attributes_of (next o a) more) ≡ a.value ∷ map (λ (b : Attribute). b.value) more = values in
      let n : key_part s z ≡ a.name = cc in
      let w : value_part s z ≡ a.value = cc in
      let at = places_of (k.end - length (declared_prefix a.name)) k.end v.start v.end in
      let c = declare_of whole (declares_of a.name) (declared_prefix a.name) a.value at x in
      let first : declaration_then s z (due (next o a) more) ≡ declaration_of a.name a.value k v ∷ due (next o a) more = quoted_declares s a.quote k v (due (next o a) more) ∙ rw (n, w) in
      let e : declare_all whole (due o (a ∷ more)) x ≡ then_of c later = ap (λ (l : List Declaration). declare_all whole l x) first in
      let f = then_done c later (subst (λ (y : Changed). is_done y.answer ≡ true) e d) in
      let g = e ∙ f.1 in
      let one = declared_by_lem x bs h own a.name a.value at verdicts.0 (declares_of a.name) refl f.0 in
      let rest = taken more (next o a) c.resolver one.list (cc) (cc) distinct.1 verdicts.1 one.holds one.own (subst (λ (y : Changed). is_done y.answer ≡ true) g d) in
      subst (λ (y : Changed). After y.resolver bs (λ q. given_by (name_for q) (a ∷ more))) (sym g)
      (then_after c.resolver (later c.resolver).resolver bs (one_gives a.name a.value) (λ q. given_by (name_for q) more) (λ q. given_by (name_for q) (a ∷ more)) one rest
      (λ q old. given_next (name_for q) a more old distinct.0))

-- a push that is not refused was not at the deepest level, and adds all that the tag declares
push_done : (x : NamespaceResolver) (s : List ℕ) (from : ℕ) → is_done (push_of s from x).answer ≡ true → (x.head.level < DEEPEST) × (push_of s from x ≡ declare_all whole (declarations_of s (tag_answers s from)) (raised_of x))
unfolding push_of
push_done x s from =
    let all = declare_all whole (declarations_of s (tag_answers s from)) (raised_of x) in
    let Ok : Changed → Type 0 = λ c. is_done c.answer ≡ true → (x.head.level < DEEPEST) × (c ≡ all) in
    picks Ok (valid_of x) (λ _. picks Ok (leb DEEPEST x.head.level) (λ _ d. absurd (false≢true d)) (λ low d. (leb-false DEEPEST x.head.level low, refl))) (λ _ d. absurd (false≢true d))

-- A push that is not refused binds what the tag declares.
pub push_binds : (t : Tag) → FineTag t → (x : NamespaceResolver) (bs : List Made) → Holds x bs → newest xml_prefix bs ≡ gives xml_uri →
    let c = push_of (t.name ++ body_text t.body) (length t.name) x in
    c.answer ≡ Ok tt → After c.resolver bs (λ q. given_by (name_for q) t.body.attributes)
unfolding tag_answers
push_binds t fine x bs h own done =
    let s = t.name ++ body_text t.body in
    let d : is_done (push_of s (length t.name) x).answer ≡ true = ap is_done done in
    let reads = unchecked_reads t.name t.body (body_lacks t.body fine.well_formed) false in
    let p = push_done x s (length t.name) d in
    let g = p.1 ∙ ap (λ (l : List Answer). declare_all whole (declarations_of s l) (raised_of x)) reads in
    let parts = due_parts t.name t.body fine.well_formed in
    subst (λ (c : Changed). After c.resolver bs (λ q. given_by (name_for q) t.body.attributes)) (sym g)
    (taken s t.body.attributes (length t.name) (raised_of x) bs parts.0 parts.1 fine.distinct fine.verdicts (raised_holds x bs p.0 h) own
    (subst (λ (c : Changed). is_done c.answer ≡ true) g d))
