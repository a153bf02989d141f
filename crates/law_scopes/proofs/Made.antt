-- How the bindings of a table change: one more goes to the end of the list, and a level keeps those up to it. Their sum
-- is the text in use.
use Prim.Native.Nat.{ℕ, zero, suc, ◌+◌, ◌-◌, ◌≤◌, ◌<◌}
use mathlib.Core.Path.{◌≡◌, refl, sym, ap, ◌∙◌}
use mathlib.Core.List.{List, [], ◌∷◌, ◌++◌}
use native.Mathlib.Omega.{arith}
use lib.ListN.{length, take}
use Rattle.scan.specs.Lists.{over, list_to}
use Rattle.scan.proofs.Lists.{part_length, take_of_over, part_same, list_same, list_length}
use Rattle.scope_table.specs.Records.{record_at, binding_of, value_start, value_end, prefix_in, value_in}
use Rattle.scope_table.specs.Table.{text_of}
use Rattle.scope_table.specs.declared.NamespaceBinding.{NamespaceBinding}
use Rattle.scope_table.specs.declared.NamespaceResolver.{NamespaceResolver}
use Rattle.scope_table.proofs.Turns.{text_next, text_grows}
use Rattle.scope_table.proofs.Rows.{Same}
use Rattle.scope_table.proofs.Good.{Shaped}
use Rattle.scope_change.specs.Change.{bound_of, kept_of, dropped_of}
use Rattle.scope_change.proofs.Change.{keep_two}
use Rattle.law_scopes.specs.Sized.{Sized}
use Rattle.law_scopes.specs.Scopes.{made, size_of, up_to}
use Rattle.law_scopes.specs.Made.{made_of, made_at, made_in}
use Rattle.law_scopes.proofs.Lists.{take_of_cut}
use Rattle.law_scopes.proofs.Records.{text_two, kept_below, kept_above}
use Rattle.law_scopes.proofs.Bound.{Takes, old_stay, new_stands}
use Rattle.law_scopes.proofs.Kept.{text_fits, kept_stay, kept, kept_within}
use Rattle.law_scopes.proofs.Parts.{prefix_back, value_back}
use Rattle.law_scopes.proofs.Listed.{size_append, up_list}

-- What the records of two tables say alike.

-- the text of record i ends where that of the next starts
pub record_ends : (x : NamespaceResolver) → Shaped x → (i k : ℕ) → i < k → k ≤ x.head.count →
    value_end (record_at x.records i) ≤ text_of (record_at x.records) k
record_ends x f i k h l =
    let rows = record_at x.records in
    omega (arith, f.links i (omega arith), text_next rows i (rows i) refl, text_grows rows (i + 1) k (omega arith))

-- texts that are the same up to where a record ends: the record says the same in both
said_same : (n : ℕ) (t u : List ℕ) (b : NamespaceBinding) → take n t ≡ take n u → value_end b ≤ n → made_of t b ≡ made_of u b
unfolding made_of prefix_in value_in
said_same n t u b e h =
    rw (part_same n t u b.start (value_start b) e (omega arith) (omega arith), part_same n t u (value_start b) (value_end b) e (omega arith) (omega arith))

-- y has the first k records of x, with their text
made_same : (x y : NamespaceResolver) → Shaped x → (k : ℕ) → k ≤ x.head.count →
    take (text_of (record_at x.records) k) y.text ≡ take (text_of (record_at x.records) k) x.text →
    Same k (record_at y.records) (record_at x.records) →
    (i : ℕ) → i < k → made_at y i ≡ made_at x i
unfolding made_at
made_same x y f k w e s i h =
    ap (made_of y.text) (s i h)
    ∙ said_same (text_of (record_at x.records) k) y.text x.text (record_at x.records i) e (record_ends x f i k h w)

-- One binding more.

module _ (x : NamespaceResolver) (s : Sized x) (p v : List ℕ) (r : Takes x p v) (f : Shaped x) where
  pub bound_old : (i : ℕ) → i < x.head.count → made_at (bound_of p v x) i ≡ made_at x i
  unfolding bound_of
  bound_old =
      let n = x.head.count in
      made_same x (bound_of p v x) f n (omega arith)
      (take_of_over (text_of (record_at x.records) n) x.text x.head.used (p ++ v) (omega (arith, f.ends)) (omega (arith, f.small, s.text)))
      (old_stay x s p v r)

  new_said : made_of (over x.text x.head.used (p ++ v)) (binding_of x.head.used (length p) (length v) x.head.level) ≡ made p v x.head.level
  unfolding made_of prefix_in value_in
  new_said =
      let h : x.head.used ≤ length x.text = omega (arith, f.small, s.text) in
      rw (prefix_back x.text x.head.used p v h, value_back x.text x.head.used p v h)

  pub bound_new : made_at (bound_of p v x) x.head.count ≡ made p v x.head.level
  unfolding bound_of made_at
  bound_new = ap (made_of (over x.text x.head.used (p ++ v))) (new_stands x s p v r) ∙ new_said

  pub bound_made : made_in (bound_of p v x) ≡ made_in x ++ (made p v x.head.level ∷ [])
  unfolding bound_of made_in list_to
  bound_made =
      let two = f.two in
      let n = x.head.count in
      let e : n + 1 - 2 ≡ suc (n - 2) = omega arith in
      let k : 2 + (n - 2) ≡ n = omega arith in
      rw (e, k, bound_new, list_same (λ i. made_at (bound_of p v x) (2 + i)) (λ i. made_at x (2 + i)) (n - 2) (λ i h. bound_old (2 + i) (omega arith)))

-- Those up to a level.

module _ (x : NamespaceResolver) (s : Sized x) (f : Shaped x) (to : ℕ) where
  abbrev k : ℕ
  k = kept x s f to

  stays : (i : ℕ) → i < k → made_at (dropped_of to x) i ≡ made_at x i
  unfolding dropped_of kept_of
  stays =
      let w = kept_within x s f to in
      let m = text_of (record_at x.records) k in
      made_same x (dropped_of to x) f k w (take_of_cut x.text m (text_fits x s f k to w) m (omega arith)) (kept_stay x s f k to w)

  pub dropped_made : made_in (dropped_of to x) ≡ up_to to (made_in x)
  unfolding dropped_of kept_of made_in made_at made_of
  dropped_made =
      let w = kept_within x s f to in
      let two = keep_two x.text x.records x.head f to in
      let rows = record_at x.records in
      list_same (λ i. made_at (dropped_of to x) (2 + i)) (λ i. made_at x (2 + i)) (k - 2) (λ i h. stays (2 + i) (omega arith))
      ∙ sym (up_list to (λ i. made_at x (2 + i)) (x.head.count - 2) (k - 2) (omega arith)
      (λ i h. kept_below rows to x.head.count f.rises (2 + i) (omega arith))
      (λ i lo hi. kept_above rows to x.head.count (2 + i) (omega arith) (omega arith)))

-- The sums.

module _ (x : NamespaceResolver) (s : Sized x) (f : Shaped x) where
  abbrev rows : ℕ → NamespaceBinding
  rows = record_at x.records

  pub prefix_length : (i : ℕ) → i < x.head.count → length (prefix_in x.text (rows i)) ≡ (rows i).prefix_len
  unfolding prefix_in
  prefix_length i h =
      let e = record_ends x f i x.head.count h (omega arith) in
      part_length x.text (rows i).start (value_start (rows i)) (omega arith) (omega (arith, f.ends, f.small, s.text)) ∙ omega arith

  pub value_length : (i : ℕ) → i < x.head.count → length (value_in x.text (rows i)) ≡ (rows i).value_len
  unfolding value_in
  value_length i h =
      let e = record_ends x f i x.head.count h (omega arith) in
      part_length x.text (value_start (rows i)) (value_end (rows i)) (omega arith) (omega (arith, f.ends, f.small, s.text)) ∙ omega arith

  made_size : (i : ℕ) → i < x.head.count → size_of (made_at x i ∷ []) ≡ (rows i).prefix_len + (rows i).value_len
  unfolding size_of made_at made_of
  made_size i h = omega (arith, prefix_length i h, value_length i h)

  text_sum : (n : ℕ) → 2 + n ≤ x.head.count → text_of rows (2 + n) ≡ 73 + size_of (list_to (λ i. made_at x (2 + i)) n)
  unfolding list_to size_of
  text_sum zero h = text_two rows f.xml f.xmlns
  text_sum (suc n) h =
      let b = made_at x (2 + n) in
      let l = list_to (λ i. made_at x (2 + i)) n in
      let e : 2 + suc n ≡ 2 + n + 1 = omega arith in
      rw e (omega (arith, text_next rows (2 + n) (rows (2 + n)) refl, text_sum n (omega arith), size_append l (b ∷ []), made_size (2 + n) (omega arith)))

  pub used_sum : x.head.used ≡ 73 + size_of (made_in x)
  unfolding made_in
  used_sum =
      let two = f.two in
      let k : 2 + (x.head.count - 2) ≡ x.head.count = omega arith in
      sym f.ends ∙ ap (text_of rows) (sym k) ∙ text_sum (x.head.count - 2) (omega arith)

  pub count_sum : x.head.count ≡ 2 + length (made_in x)
  unfolding made_in
  count_sum = omega (arith, f.two, list_length (λ i. made_at x (2 + i)) (x.head.count - 2))
