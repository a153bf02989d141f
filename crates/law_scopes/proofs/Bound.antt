-- One binding more leaves a table of the right form: what was there stays, the new record closes the chain, and what is
-- unused is still zero.
use Prim.Native.Nat.{ℕ, ◌+◌, ◌≤◌, ◌<◌}
use mathlib.Core.Path.{◌≡◌, refl, sym, ap, ◌∙◌}
use mathlib.Core.List.{List, ◌++◌}
use mathlib.Core.Logic.{⊎_elim}
use native.Mathlib.Nat.{eq-or-lt_of_le}
use native.Mathlib.Omega.{arith}
use lib.ListN.{length, length-append}
use Rattle.scan.specs.Lists.{over}
use Rattle.scan.proofs.Lists.{drop_over, length_over, take_of_over}
use Rattle.scope_table.specs.Records.{row_at, record_at, binding_of, row_of}
use Rattle.scope_table.specs.Table.{TEXT, RECORDS, text_of, is_record}
use Rattle.scope_table.specs.declared.NamespaceBinding.{NamespaceBinding}
use Rattle.scope_table.specs.declared.NamespaceResolver.{NamespaceResolver}
use Rattle.scope_table.proofs.Lists.{zeros_later}
use Rattle.scope_table.proofs.Turns.{text_next}
use Rattle.scope_table.proofs.Rows.{Same, rows_full, rows_before, row_fits, rest_after, record_new, record_old, text_same, before_same}
use Rattle.scope_table.proofs.Good.{Shaped}
use Rattle.scope_change.specs.Change.{bound_of}
use Rattle.law_scopes.specs.Sized.{Sized}
use Rattle.law_scopes.proofs.Records.{before_top, opening_within}

-- the room that one binding takes
pub record Takes (x : NamespaceResolver) (p v : List ℕ) : Type 0 where
  pub records : x.head.count < RECORDS
  pub bytes : x.head.used + (length p + length v) ≤ TEXT

module _ (x : NamespaceResolver) (s : Sized x) (p v : List ℕ) (r : Takes x p v) where
  abbrev new : NamespaceBinding
  new = binding_of x.head.used (length p) (length v) x.head.level

  next_lent_lem : row_at (x.head.count + 1) ≤ length x.records
  next_lent_lem = rows_full x.records (x.head.count + 1) s.records (omega (arith, r.records))

  row_lent : row_at x.head.count ≤ length x.records
  row_lent = rows_before x.head.count (x.head.count + 1) (length x.records) (omega arith) next_lent_lem

  pub bound_sized : Sized (bound_of p v x)
  unfolding bound_of
  bound_sized =
      record {
        text = length_over x.text x.head.used (p ++ v) (omega (arith, length-append p v, s.text, r.bytes)) ∙ s.text;
        records = length_over x.records (row_at x.head.count) (row_of new) (omega (arith, row_fits x.head.count (length x.records) new next_lent_lem)) ∙ s.records;
      }

  -- the table with the new record in it
  abbrev written : List ℕ
  written = over x.records (row_at x.head.count) (row_of new)

  -- the records that were there, and the new one
  pub old_stay : Same x.head.count (record_at written) (record_at x.records)
  old_stay = record_old x.records x.head.count new row_lent

  pub new_stands : record_at written x.head.count ≡ new
  new_stands = record_new x.records x.head.count new row_lent

  module _ (f : Shaped x) where
    -- the last record, or one before it
    last_or : (A : Type 0) (k : ℕ) → k < x.head.count + 1 → (k ≡ x.head.count → A) → (k < x.head.count → A) → A
    last_or A k h a b = ⊎_elim a b (eq-or-lt_of_le (omega arith))

    pub bound_form : Shaped (bound_of p v x)
    unfolding bound_of
    bound_form =
        let n = x.head.count in
        let used = x.head.used in
        let R = record_at written in
        let Q = record_at x.records in
        let start : (k : ℕ) → k < n → (R k).start ≡ (Q k).start = λ k h. ap (λ (b : NamespaceBinding). b.start) (old_stay k h) in
        let level : (k : ℕ) → k < n → (R k).level ≡ (Q k).level = λ k h. ap (λ (b : NamespaceBinding). b.level) (old_stay k h) in
        let kept : (k : ℕ) → k ≤ n → text_of R k ≡ text_of Q k = λ k h. text_same k R Q (λ j i. old_stay j (omega arith)) in
        let last : (R n).level ≡ x.head.level = ap (λ (b : NamespaceBinding). b.level) new_stands in
        let o = opening_within x f n f.two in
        record {
          small = r.bytes;
          few = omega (arith, r.records);
          deep = f.deep;
          two = omega (arith, f.two);
          opening = rw (take_of_over 73 x.text used (p ++ v) (omega (arith, f.ends)) (omega (arith, s.text, f.small))) f.opening;
          xml = ap (λ (b : NamespaceBinding). is_record b 3 36 0) (old_stay 0 (omega (arith, f.two))) ∙ f.xml;
          xmlns = ap (λ (b : NamespaceBinding). is_record b 5 29 0) (old_stay 1 (omega (arith, f.two))) ∙ f.xmlns;
          links = λ k h. last_or _ k h
              (λ e. ap (λ (j : ℕ). (R j).start) e ∙ ap (λ (b : NamespaceBinding). b.start) new_stands ∙ sym f.ends ∙ sym (kept n (omega arith)) ∙ ap (text_of R) (sym e))
              (λ i. start k i ∙ f.links k i ∙ sym (kept k (omega arith)));
          ends = text_next R n (R n) refl ∙ omega (arith, ap (λ (b : NamespaceBinding). b.prefix_len) new_stands, ap (λ (b : NamespaceBinding). b.value_len) new_stands, kept n (omega arith), f.ends);
          rises = λ k h. last_or _ k h
              (λ e. rw e (omega (arith, last, before_same n n R Q old_stay (omega arith), before_top n x.head.level Q f.top)))
              (λ i. omega (arith, before_same n k R Q old_stay (omega arith), level k i, f.rises k i));
          top = λ k h. last_or _ k h (λ e. rw e (omega (arith, last))) (λ i. omega (arith, level k i, f.top k i));
          rest_text =
              let fits : used + length (p ++ v) ≤ length x.text = omega (arith, length-append p v, r.bytes, s.text) in
              let e : used + (length p + length v) ≡ used + length (p ++ v) = omega (arith, length-append p v) in
              rw (e, drop_over x.text used (p ++ v) fits) (zeros_later x.text used (used + length (p ++ v)) (omega arith) f.rest_text);
          rest_records =
              rest_after x.records n new next_lent_lem f.rest_records;
        }
