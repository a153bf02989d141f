-- The records up to a level, at least the built-ins, are a table of the right form.
use Prim.Native.Nat.{ℕ, ◌≤◌, ◌<◌}
use mathlib.Core.Path.{◌≡◌, sym, ap, ◌∙◌}
use native.Mathlib.Omega.{arith}
use lib.ListN.{length}
use Rattle.scope_table.specs.Lists.{cut}
use Rattle.scope_table.specs.Records.{row_at, record_at}
use Rattle.scope_table.specs.Table.{DEEPEST, text_of, is_record}
use Rattle.scope_table.specs.declared.NamespaceBinding.{NamespaceBinding}
use Rattle.scope_table.specs.declared.NamespaceResolver.{NamespaceResolver}
use Rattle.scope_table.proofs.Lists.{cut_length}
use Rattle.scope_table.proofs.Turns.{text_grows}
use Rattle.scope_table.proofs.Rows.{rows_full, Same, same_take, text_same, before_same}
use Rattle.scope_table.proofs.Good.{Shaped}
use Rattle.scope_change.specs.Change.{kept_at, kept_of, dropped_of}
use Rattle.scope_change.proofs.Change.{keep_within, keep_two}
use Rattle.law_scopes.specs.Sized.{Sized}
use Rattle.law_scopes.proofs.Lists.{take_of_cut, cut_rest}
use Rattle.law_scopes.proofs.Records.{opening_within, kept_below}

module _ (x : NamespaceResolver) (s : Sized x) (f : Shaped x) where
  module _ (k to : ℕ) (within : k ≤ x.head.count) where
    rows_fit : row_at k ≤ length x.records
    rows_fit = rows_full x.records k s.records (omega (arith, f.few))

    pub text_fits : text_of (record_at x.records) k ≤ length x.text
    text_fits = omega (arith, s.text, f.small, f.ends, text_grows (record_at x.records) k x.head.count within)

    -- the records that stay are as they were
    pub kept_stay : Same k (record_at (cut x.records (row_at k))) (record_at x.records)
    kept_stay = same_take k (cut x.records (row_at k)) x.records (take_of_cut x.records (row_at k) rows_fit (row_at k) (omega arith))

    pub kept_sized : Sized (kept_of k to x)
    unfolding kept_of
    kept_sized =
        record {
          text = cut_length x.text (text_of (record_at x.records) k) text_fits ∙ s.text;
          records = cut_length x.records (row_at k) rows_fit ∙ s.records;
        }

    pub kept_form : to ≤ DEEPEST → 2 ≤ k → ((j : ℕ) → j < k → (record_at x.records j).level ≤ to) → Shaped (kept_of k to x)
    unfolding kept_of
    kept_form deep two below =
        let R = record_at (cut x.records (row_at k)) in
        let Q = record_at x.records in
        let start : (j : ℕ) → j < k → (R j).start ≡ (Q j).start = λ j h. ap (λ (b : NamespaceBinding). b.start) (kept_stay j h) in
        let level : (j : ℕ) → j < k → (R j).level ≡ (Q j).level = λ j h. ap (λ (b : NamespaceBinding). b.level) (kept_stay j h) in
        let texts : (j : ℕ) → j ≤ k → text_of R j ≡ text_of Q j = λ j h. text_same j R Q (λ i l. kept_stay i (omega arith)) in
        let o = opening_within x f k two in
        record {
          small = omega (arith, f.small, f.ends, text_grows Q k x.head.count within);
          few = omega (arith, f.few);
          deep = deep;
          two = two;
          opening = rw (take_of_cut x.text (text_of Q k) text_fits 73 o) f.opening;
          xml = ap (λ (b : NamespaceBinding). is_record b 3 36 0) (kept_stay 0 (omega arith)) ∙ f.xml;
          xmlns = ap (λ (b : NamespaceBinding). is_record b 5 29 0) (kept_stay 1 (omega arith)) ∙ f.xmlns;
          links = λ j h. start j h ∙ f.links j (omega arith) ∙ sym (texts j (omega arith));
          ends = texts k (omega arith);
          rises = λ j h. omega (arith, level j h, before_same k j R Q kept_stay (omega arith), f.rises j (omega arith));
          top = λ j h. omega (arith, level j h, below j h);
          rest_text = cut_rest x.text (text_of Q k) text_fits;
          rest_records = cut_rest x.records (row_at k) rows_fit;
        }

  abbrev pub kept : ℕ → ℕ
  kept to = kept_at (record_at x.records) to x.head.count

  pub kept_within : (to : ℕ) → kept to ≤ x.head.count
  kept_within to = keep_within (record_at x.records) to x.head.count

  pub dropped_sized : (to : ℕ) → Sized (dropped_of to x)
  unfolding dropped_of
  dropped_sized to = kept_sized (kept to) to (kept_within to)

  pub dropped_form : (to : ℕ) → to ≤ DEEPEST → Shaped (dropped_of to x)
  unfolding dropped_of
  dropped_form to deep =
      kept_form (kept to) to (kept_within to) deep (keep_two x.text x.records x.head f to)
      (kept_below (record_at x.records) to x.head.count f.rises)
