-- Laws of a listing: what is found of the records, and where the search of one level may end.
use Prim.Native.Nat.{ℕ, zero, suc, ◌+◌, ◌-◌, ◌≤◌, ◌<◌}
use mathlib.Core.Path.{◌≡◌, refl, ap, ◌∙◌}
use mathlib.Core.Bool.{Bool, true, false, not}
use mathlib.Core.List.{List}
use native.Mathlib.Nat.{add-zero, add-suc}
use native.Mathlib.Omega.{arith}
use lib.Dec.{ltb}
use lib.ListN.{length}
use borrow.Author.Tests.{ne_eqb, lt-ltb, le-ltb, ltb-true}
use Rattle.std.specs.Prelude.{Some, None, Ok, is_some}
use Rattle.scan.specs.First.{pick, first_to}
use Rattle.scan.proofs.Laws.{to_hit, to_miss, to_skip, to_past}
use Rattle.scope_table.specs.Records.{row_at, record_at}
use Rattle.scope_table.specs.Table.{level_before}
use Rattle.scope_table.specs.declared.NamespaceBinding.{NamespaceBinding}
use Rattle.scope_lookup.specs.Lookup.{counted}
use Rattle.scope_table.proofs.Rows.{rows_before}
use Rattle.scope_listing.specs.Listing.{Rising, at_level, listing, listed_at, found_to, shown_of, shown_at}

-- What is found, a turn for each case.
module _ (p : ℕ → Bool) (i n : ℕ) where
  pub found_hit : i < n → p i ≡ true → found_to p i n ≡ Some i
  unfolding found_to
  found_hit h e = rw (to_hit p i n h e, lt-ltb i n h)

  pub found_miss : i < n → p i ≡ false → found_to p i n ≡ found_to p (i + 1) n
  unfolding found_to
  found_miss h e = ap (λ (f : ℕ). pick (ltb f n) (Some f) None) (to_miss p i n h e)

  pub found_past : n ≤ i → found_to p i n ≡ None
  unfolding found_to
  found_past h = rw (to_past p i n h, le-ltb i n h)

  found_by : (t : Bool) → ltb (first_to p i n) n ≡ t → counted (pick t (Some (first_to p i n)) None) ≤ n
  found_by true e = omega (arith, ltb-true (first_to p i n) n e)
  found_by false e = omega arith

  -- it is below n
  pub found_within : counted (found_to p i n) ≤ n
  unfolding found_to
  found_within = found_by (ltb (first_to p i n) n) refl

  pub found_none : (r : Bool) → is_some (found_to p i n) ≡ not r → r ≡ not (ltb (first_to p i n) n)
  unfolding found_to
  found_none r e = by (ltb (first_to p i n) n) r e where
    by : (t r : Bool) → is_some (pick t (Some (first_to p i n)) None) ≡ not r → r ≡ not t
    by true true e = e
    by true false e = refl
    by false true e = refl
    by false false e = e

  -- and it is what a listing shows
  pub found_shown : (rows : ℕ → NamespaceBinding) (place : ℕ) → shown_at rows (found_to p i n) place ≡ listed_at rows n (first_to p i n) place
  unfolding found_to listed_at
  found_shown rows place = by (ltb (first_to p i n) n) where
    by : (t : Bool) → shown_at rows (pick t (Some (first_to p i n)) None) place ≡ pick t (listing (shown_of (rows (first_to p i n))) (first_to p i n + 1)) (listing (Ok None) place)
    by true = refl
    by false = refl

-- a record in use is lent
pub rising_lent : (records : List ℕ) (count i : ℕ) → Rising records count → i < count → row_at (i + 1) ≤ length records
rising_lent records count i r h = rows_before (i + 1) count (length records) (omega arith) r.rows

-- Along a table whose levels rise, the first level above the one that is asked for ends the search.
module _ (records : List ℕ) (count asked : ℕ) (r : Rising records count) where
  level : ℕ → ℕ
  level i = (record_at records i).level

  rise_to : (i d : ℕ) → i + d < count → level i ≤ level (i + d)
  unfolding level_before level
  rise_to i zero h = rw (add-zero i) (omega arith)
  rise_to i (suc d) h =
      let e : i + suc d ≡ suc (i + d) = add-suc i d in
      let a = rise_to i d (omega arith) in
      let b = r.each (suc (i + d)) (omega arith) in
      rw e (omega arith)

  not_at : (i k : ℕ) → asked < level i → i ≤ k → k < count → at_level asked (record_at records k) ≡ false
  unfolding at_level level
  not_at i k h lo hi =
      let s : i + (k - i) ≡ k = omega arith in
      let a : level i ≤ level k = rw s at (rise_to i (k - i) (omega arith)) in
      rw (ne_eqb (level k) asked (λ e. omega arith))

  pub level_past : (i : ℕ) → i < count → asked < (record_at records i).level → first_to (λ k. at_level asked (record_at records k)) i count ≡ count
  unfolding level
  level_past i h a =
      to_skip (λ k. at_level asked (record_at records k)) i count count (omega arith) (omega arith) (λ k lo hi. not_at i k a lo hi)
      ∙ to_past (λ k. at_level asked (record_at records k)) count count (omega arith)

  pub level_none : (i : ℕ) → i < count → asked < (record_at records i).level → found_to (λ k. at_level asked (record_at records k)) i count ≡ None
  unfolding found_to
  level_none i h a = rw (level_past i h a, le-ltb count count (omega arith))
