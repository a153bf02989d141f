-- The bindings of a table, with its level and limit, determine it: the lengths and levels of the records are theirs, the
-- starts are sums of lengths, and the text is theirs one after the other; what is unused is zero.
use Prim.Native.Nat.{ℕ, zero, suc, ◌+◌, ◌-◌, ◌≤◌, ◌<◌}
use mathlib.Core.Path.{◌≡◌, refl, sym, ap, ◌∙◌, subst}
use mathlib.Core.Bool.{true}
use mathlib.Core.List.{List, ◌++◌}
use native.Mathlib.Omega.{arith}
use lib.ListN.{length, take, drop}
use lib.Seq.{take-add, drop-drop}
use Rattle.scan.specs.Bytes.{part}
use Rattle.scan.proofs.Bytes.{same_eq}
use Rattle.scan.specs.Lists.{list_to}
use Rattle.scan.proofs.Lists.{list_back}
use Rattle.scope_table.specs.Lists.{all_zero}
use Rattle.scope_table.specs.Records.{row_at, record_at, binding_of, prefix_in, value_in}
use Rattle.scope_table.specs.Table.{built_in, head_of, resolver_of, text_of}
use Rattle.scope_table.specs.declared.NamespaceBinding.{NamespaceBinding}
use Rattle.scope_table.specs.declared.NamespaceResolver.{NamespaceResolver}
use Rattle.scope_table.proofs.Turns.{text_next}
use Rattle.scope_table.proofs.Rows.{rows_full, Same, take_same}
use Rattle.scope_table.proofs.Good.{Shaped, form_of_lem}
use Rattle.law_scopes.specs.Scopes.{Made, Scopes}
use Rattle.law_scopes.specs.Made.{made_of, made_at, made_in, scopes_of}
use Rattle.law_scopes.specs.Promises.{Proper, ScopesDetermine}
use Rattle.law_scopes.proofs.Lists.{all_same}
use Rattle.law_scopes.proofs.Records.{text_two}
use Rattle.law_scopes.proofs.BuiltIn.{first_record, second_record}
use Rattle.law_scopes.proofs.Made.{prefix_length, value_length, count_sum}

-- the text of the first i records, and then that of record i
parts_add : (t : List ℕ) (a p v : ℕ) → take (a + (p + v)) t ≡ take a t ++ (part t a (a + p) ++ part t (a + p) (a + p + v))
unfolding part
parts_add t a p v =
    let e : a + p - a ≡ p = omega arith in
    let f : a + p + v - (a + p) ≡ v = omega arith in
    rw (e, f, take-add a (p + v) t, take-add p v (drop a t), drop-drop p a t)

text_then : (x : NamespaceResolver) → Shaped x → (i : ℕ) → i < x.head.count →
    let rows = record_at x.records in
    take (text_of rows (i + 1)) x.text ≡ take (text_of rows i) x.text ++ (prefix_in x.text (rows i) ++ value_in x.text (rows i))
unfolding prefix_in value_in
text_then x f i h =
    let rows = record_at x.records in
    rw (text_next rows i (rows i) refl, f.links i h) (parts_add x.text (text_of rows i) (rows i).prefix_len (rows i).value_len)

-- records of the same lengths have the same text
text_lengths : (n : ℕ) (rows others : ℕ → NamespaceBinding) →
    ((k : ℕ) → k < n → ((rows k).prefix_len ≡ (others k).prefix_len) × ((rows k).value_len ≡ (others k).value_len)) →
    text_of rows n ≡ text_of others n
unfolding text_of
text_lengths zero rows others h = refl
text_lengths (suc n) rows others h =
    let e = h n (omega arith) in
    omega (arith, text_lengths n rows others (λ k l. h k (omega arith)), e.0, e.1)

record_same : (b c : NamespaceBinding) → b.start ≡ c.start → b.prefix_len ≡ c.prefix_len → b.value_len ≡ c.value_len → b.level ≡ c.level → b ≡ c
record_same b c s p v l =
    let all : binding_of b.start b.prefix_len b.value_len b.level ≡ binding_of c.start c.prefix_len c.value_len c.level = cc in
    all

-- nothing but zeros from n on
abbrev Clear : ℕ → List ℕ → Type 0
Clear n l = all_zero (drop n l) ≡ true

module _ (x y : NamespaceResolver) (g : Proper x) (h : Proper y) (e : scopes_of x ≡ scopes_of y) where
  fx : Shaped x
  fx = form_of_lem x g.valid

  fy : Shaped y
  fy = form_of_lem y h.valid

  abbrev X : ℕ → NamespaceBinding
  X = record_at x.records

  abbrev Y : ℕ → NamespaceBinding
  Y = record_at y.records

  same_made : made_in x ≡ made_in y
  unfolding scopes_of
  same_made = ap (λ (t : Scopes). t.bound) e

  same_count : x.head.count ≡ y.head.count
  same_count = count_sum x g.sized fx ∙ ap (λ (l : List Made). 2 + length l) same_made ∙ sym (count_sum y h.sized fy)

  same_at : (i : ℕ) → 2 ≤ i → i < x.head.count → made_at x i ≡ made_at y i
  unfolding made_in
  same_at i two l =
      let k : 2 + (i - 2) ≡ i = omega arith in
      let lists = same_made ∙ ap (λ (n : ℕ). list_to (λ j. made_at y (2 + j)) (n - 2)) (sym same_count) in
      let b = list_back (λ j. made_at x (2 + j)) (λ j. made_at y (2 + j)) (x.head.count - 2) lists (i - 2) (omega arith) in
      rw k at b

  -- The records: the first two are built in, and the others say what their bindings are.

  later : (P : ℕ → Type 0) → P 0 → P 1 → ((i : ℕ) → 2 ≤ i → i < x.head.count → P i) → (i : ℕ) → i < x.head.count → P i
  later P a b c zero l = a
  later P a b c (suc zero) l = b
  later P a b c (suc (suc i)) l = c (suc (suc i)) (omega arith) l

  same_first : X 0 ≡ Y 0
  same_first = first_record x fx ∙ sym (first_record y fy)

  same_second : X 1 ≡ Y 1
  same_second = second_record x fx ∙ sym (second_record y fy)

  same_prefix : (i : ℕ) → i < x.head.count → (X i).prefix_len ≡ (Y i).prefix_len
  unfolding made_at made_of
  same_prefix =
      later (λ i. (X i).prefix_len ≡ (Y i).prefix_len) (ap (λ (b : NamespaceBinding). b.prefix_len) same_first) (ap (λ (b : NamespaceBinding). b.prefix_len) same_second)
      (λ i two l. sym (prefix_length x g.sized fx i l) ∙ ap (λ (m : Made). length m.prefix) (same_at i two l) ∙ prefix_length y h.sized fy i (omega (arith, same_count)))

  same_value : (i : ℕ) → i < x.head.count → (X i).value_len ≡ (Y i).value_len
  unfolding made_at made_of
  same_value =
      later (λ i. (X i).value_len ≡ (Y i).value_len) (ap (λ (b : NamespaceBinding). b.value_len) same_first) (ap (λ (b : NamespaceBinding). b.value_len) same_second)
      (λ i two l. sym (value_length x g.sized fx i l) ∙ ap (λ (m : Made). length m.value) (same_at i two l) ∙ value_length y h.sized fy i (omega (arith, same_count)))

  same_level : (i : ℕ) → i < x.head.count → (X i).level ≡ (Y i).level
  unfolding made_at made_of
  same_level =
      later (λ i. (X i).level ≡ (Y i).level) (ap (λ (b : NamespaceBinding). b.level) same_first) (ap (λ (b : NamespaceBinding). b.level) same_second)
      (λ i two l. ap (λ (m : Made). m.level) (same_at i two l))

  same_texts : (i : ℕ) → i ≤ x.head.count → text_of X i ≡ text_of Y i
  same_texts i l = text_lengths i X Y (λ k b. (same_prefix k (omega arith), same_value k (omega arith)))

  same_records : Same x.head.count X Y
  same_records i l =
      record_same (X i) (Y i) (fx.links i l ∙ same_texts i (omega arith) ∙ sym (fy.links i (omega (arith, same_count)))) (same_prefix i l) (same_value i l) (same_level i l)

  same_used : x.head.used ≡ y.head.used
  same_used = sym fx.ends ∙ same_texts x.head.count (omega arith) ∙ ap (text_of Y) same_count ∙ fy.ends

  -- The text.

  same_text_to : (n : ℕ) → 2 + n ≤ x.head.count → take (text_of X (2 + n)) x.text ≡ take (text_of Y (2 + n)) y.text
  unfolding made_at made_of
  same_text_to zero l =
      rw (text_two X fx.xml fx.xmlns, text_two Y fy.xml fy.xmlns)
      (same_eq (take 73 x.text) built_in fx.opening ∙ sym (same_eq (take 73 y.text) built_in fy.opening))
  same_text_to (suc n) l =
      let k : 2 + suc n ≡ 2 + n + 1 = omega arith in
      let b = same_at (2 + n) (omega arith) (omega arith) in
      let p : prefix_in x.text (X (2 + n)) ≡ prefix_in y.text (Y (2 + n)) = ap (λ (m : Made). m.prefix) b in
      let v : value_in x.text (X (2 + n)) ≡ value_in y.text (Y (2 + n)) = ap (λ (m : Made). m.value) b in
      rw (k, text_then x fx (2 + n) (omega arith), text_then y fy (2 + n) (omega (arith, same_count)), same_text_to n (omega arith), p, v)

  same_text : take x.head.used x.text ≡ take x.head.used y.text
  same_text =
      let two = fx.two in
      let k : 2 + (x.head.count - 2) ≡ x.head.count = omega arith in
      let t = rw k at (same_text_to (x.head.count - 2) (omega arith)) in
      rw (fx.ends, ← same_texts x.head.count (omega arith), fx.ends) at t

  -- All of it.

  determined : x ≡ y
  unfolding scopes_of
  determined =
      let s = g.sized in
      let r = h.sized in
      let n = x.head.count in
      let T = all_same x.head.used x.text y.text same_text (s.text ∙ sym r.text) fx.rest_text (subst (λ (n : ℕ). Clear n y.text) (sym same_used) fy.rest_text) in
      let R = all_same (row_at n) x.records y.records
      (take_same n x.records y.records (rows_full x.records n s.records fx.few) (rows_full y.records n r.records fx.few) same_records)
      (s.records ∙ sym r.records) fx.rest_records (subst (λ (n : ℕ). Clear (row_at n) y.records) (sym same_count) fy.rest_records) in
      let u = same_used in
      let c = same_count in
      let level = ap (λ (t : Scopes). t.level) e in
      let limit = ap (λ (t : Scopes). t.limit) e in
      let all : resolver_of x.text x.records (head_of x.head.used x.head.count x.head.level x.head.limit)
      ≡ resolver_of y.text y.records (head_of y.head.used y.head.count y.head.level y.head.limit) = cc in
      all

pub scopes_determine : ScopesDetermine
unfolding ScopesDetermine
scopes_determine x y g h e = determined x y g h e
