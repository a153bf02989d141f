-- A whole listing shows each record that passes its test, once and in order: the first that passes is shown, and the listing
-- goes on after it. What `bindings` shows is what its prefix resolves to, since no later record has that prefix.
use Prim.Native.Nat.{ℕ, zero, suc, ◌+◌, ◌-◌, ◌≤◌, ◌<◌}
use mathlib.Core.Path.{◌≡◌, refl, sym, ap, ◌∙◌, subst}
use mathlib.Core.Bool.{Bool, true, false, not, true≢false, false≢true}
use mathlib.Core.List.{List, [], ◌∷◌}
use mathlib.Core.Logic.{⊎_elim}
use native.Mathlib.Nat.{eq-or-lt_of_le, not-suc-le-zero}
use native.Mathlib.Numerals.{add-one}
use native.Mathlib.Omega.{arith}
use lib.Dec.{eqb, leb, ltb}
use lib.ListN.{length}
use borrow.Author.Tests.{ne_eqb, eqb-true, eqb-false, leb-true, leb-false, le-ltb, ltb-true, ltb-false}
use Rattle.scan.specs.First.{pick, first_of, first_to}
use Rattle.scan.specs.Bytes.{part, same_bytes}
use Rattle.scan.proofs.Laws.{to_first, to_past}
use Rattle.scan.proofs.Bytes.{both, same_refl}
use Rattle.scan.proofs.Lists.{part_length}
use Rattle.scope_table.specs.Records.{record_at, value_start, value_end, prefix_in}
use Rattle.scope_table.specs.Table.{valid_of}
use Rattle.scope_table.proofs.Good.{form_of_lem, lies}
use Rattle.scope_table.specs.declared.NamespaceBinding.{NamespaceBinding}
use Rattle.scope_table.specs.declared.NamespaceResolver.{NamespaceResolver}
use Rattle.scope_table.specs.Lists.{last_below}
use Rattle.scope_lookup.specs.Lookup.{has_prefix, is_default, value_or, explicit_of, default_of, among_of, resolve_prefix_of}
use Rattle.scope_lookup.specs.declared.ResolveResult.{ResolveResult}
use Rattle.scope_lookup.specs.declared.ResolveResult.TheVariants.{Bound, Unbound, Unknown}
use Rattle.scope_listing.specs.Listing.{Listed, listing, has_value, is_overridden, in_effect, at_level, shown_of, listed_at, past_built_in, bindings_of, bindings_at_of}
use Rattle.scope_listing.specs.Whole.{is_last, list_all, showing, ListsInEffect, ListsLevel, EffectResolves}
use Rattle.std.specs.Prelude.{None, Ok}
use Rattle.scope_listing.specs.declared.Listing.{Listing}

-- The first record that passes, and the rest.
module _ (rows : ℕ → NamespaceBinding) (p : ℕ → Bool) where
  Split : (i d r : ℕ) → Type 0
  Split i d r =
      (r < i + d → showing rows p i d ≡ shown_of (rows r) ∷ showing rows p (suc r) (i + d - suc r))
      × (i + d ≤ r → showing rows p i d ≡ [])

  split_by : (i d r : ℕ) (t : Bool) → p i ≡ t → Split (suc i) d r → Split i (suc d) (pick t i r)
  unfolding Split showing
  split_by i d r true e s =
      let q : i + suc d - suc i ≡ d = omega arith in
      (λ h. rw (e, q), λ h. absurd (omega (arith, h)))
  split_by i d r false e s =
      let q : i + suc d ≡ suc i + d = omega arith in
      (λ h. rw (e, q) (s.0 (omega (arith, h))), λ h. rw e (s.1 (omega (arith, h))))

  split_of_lem : (i d : ℕ) → Split i d (first_of p i d)
  unfolding Split showing first_of
  split_of_lem i zero = (λ h. absurd (omega (arith, h)), λ h. refl)
  split_of_lem i (suc d) = split_by i d (first_of p (suc i) d) (p i) refl (split_of_lem (suc i) d)

  split_to : (i n : ℕ) → i ≤ n → Split i (n - i) (first_to p i n)
  unfolding first_to
  split_to i n h = split_of_lem i (n - i)

  -- A listing whose step shows the first record at or after `from place` that passes.
  module _ (count : ℕ) (from : ℕ → ℕ) (on : (place j : ℕ) → from place ≤ j → from (suc j) ≡ suc j) (step : ℕ → Listing) (is : (place : ℕ) → step place ≡ listed_at rows count (first_to p (from place) count) place) where
    abbrev Rest : ℕ → List Listed
    Rest i = showing rows p i (count - i)

    ahead_by : (i : ℕ) (t : Bool) → leb i count ≡ t → first_to p i count < count → i ≤ first_to p i count
    ahead_by i true e h = (to_first p i count (leb-true i count e)).ahead
    ahead_by i false e h =
        let l = leb-false i count e in
        absurd (omega (arith, to_past p i count (omega arith)))

    none_by : (i : ℕ) (t : Bool) → leb i count ≡ t → count ≤ first_to p i count → Rest i ≡ []
    unfolding Split showing
    none_by i true e h =
        let l = leb-true i count e in
        (split_to i count l).1 (omega arith)
    none_by i false e h =
        let l = leb-false i count e in
        let z : count - i ≡ 0 = omega arith in
        rw z

    some_by : (i : ℕ) → i ≤ first_to p i count → first_to p i count < count → Rest i ≡ shown_of (rows (first_to p i count)) ∷ Rest (suc (first_to p i count))
    unfolding Split
    some_by i a h =
        let q : i + (count - i) ≡ count = omega arith in
        rw q at ((split_to i count (omega arith)).0 (rw q h))

    list_by : (n place : ℕ) → ((k : ℕ) → count - from k < n → list_all step n k ≡ Rest (from k)) → count - from place < suc n → (t : Bool) → ltb (first_to p (from place) count) count ≡ t → list_all step (suc n) place ≡ Rest (from place)
    unfolding list_all listed_at is_last shown_of
    list_by n place later h true e =
        let r = first_to p (from place) count in
        let l : r < count = ltb-true r count e in
        let a : from place ≤ r = ahead_by (from place) (leb (from place) count) refl l in
        let f : from (suc r) ≡ suc r = on place r a in
        let s : step place ≡ listing (shown_of (rows r)) (r + 1) = is place ∙ rw e in
        ap (λ (y : Listing). pick (is_last y.answer) [] (y.answer ∷ list_all step n y.place)) s
        ∙ ap (λ (k : ℕ). shown_of (rows r) ∷ list_all step n k) (add-one r)
        ∙ ap (λ (w : List Listed). shown_of (rows r) ∷ w) (later (suc r) (omega arith) ∙ ap Rest f)
        ∙ sym (some_by (from place) a l)
    list_by n place later h false e =
        let r = first_to p (from place) count in
        let s : step place ≡ listing (Ok None) place = is place ∙ rw e in
        ap (λ (y : Listing). pick (is_last y.answer) [] (y.answer ∷ list_all step n y.place)) s
        ∙ sym (none_by (from place) (leb (from place) count) refl (ltb-false r count e))

    pub list_whole : (n place : ℕ) → count - from place < n → list_all step n place ≡ Rest (from place)
    list_whole zero place h = absurd (not-suc-le-zero h)
    list_whole (suc n) place h =
        list_by n place (λ k l. list_whole n k l) h (ltb (first_to p (from place) count) count) refl

-- `bindings` and `bindings_of`, from place 0 on.

pub past_on : (place j : ℕ) → past_built_in place ≤ j → past_built_in (suc j) ≡ suc j
unfolding past_built_in
past_on place j h =
    let two : 2 ≤ past_built_in place = by (ltb place 2) refl in
    rw (le-ltb (suc j) 2 (omega arith)) where
      by : (t : Bool) → ltb place 2 ≡ t → 2 ≤ pick t 2 place
      by true e = omega arith
      by false e = ltb-false place 2 e

pub lists_in_effect : (x : NamespaceResolver) → valid_of x ≡ true → ListsInEffect x
unfolding bindings_of past_built_in
lists_in_effect x v more =
    let rows = record_at x.records in
    let count = x.head.count in
    list_whole rows (in_effect x.text rows count) count past_built_in past_on (λ place. bindings_of place x) (λ place. rw v) (suc count + more) 0 (omega arith)

pub lists_level : (x : NamespaceResolver) (level : ℕ) → valid_of x ≡ true → ListsLevel level x
unfolding bindings_at_of
lists_level x level v more =
    let rows = record_at x.records in
    let count = x.head.count in
    let z : count - 0 ≡ count = omega arith in
    list_whole rows (λ i. at_level level (rows i)) count (λ k. k) (λ place j h. refl) (λ place. bindings_at_of level place x) (λ place. rw v) (suc count + more) 0 (omega arith)
    ∙ ap (showing rows (λ i. at_level level (rows i)) 0) z

-- What is in effect is what its prefix resolves to.

-- the last number that passes, where none after it does
last_is : (p : ℕ → Bool) (i n : ℕ) → i < n → p i ≡ true → ((k : ℕ) → i < k → k < n → p k ≡ false) → last_below p n ≡ suc i
unfolding last_below
last_is p i zero h e o = absurd (not-suc-le-zero h)
last_is p i (suc n) h e o =
    let le : i ≤ n = omega arith in
    ⊎_elim (λ (q : i ≡ n). subst (λ (k : ℕ). pick (p k) (suc k) (last_below p k) ≡ suc i) q (rw e))
    (λ (l : i < n). rw (o n l (omega arith)) (last_is p i n l e (λ k a b. o k a (omega arith))))
    (eq-or-lt_of_le le)

module _ (x : NamespaceResolver) (v : valid_of x ≡ true) (w : x.head.used ≤ length x.text) (i : ℕ) (h : i < x.head.count) (shows : in_effect x.text (record_at x.records) x.head.count i ≡ true) where
  row : ℕ → NamespaceBinding
  row = record_at x.records

  like : ℕ → Bool
  like j = has_prefix x.text (prefix_in x.text (row i)) (row j)

  not_is : (t : Bool) → not t ≡ true → t ≡ false
  not_is true e = absurd (false≢true e)
  not_is false e = refl

  has_value_lem : eqb (row i).value_len 0 ≡ false
  unfolding in_effect has_value row
  has_value_lem = not_is (eqb (row i).value_len 0) (both (has_value (row i)) (not (is_overridden x.text row x.head.count i)) shows).0

  no_later : (k : ℕ) → i < k → k < x.head.count → like k ≡ false
  unfolding in_effect is_overridden like row
  no_later k lo hi =
      let o = not_is (is_overridden x.text row x.head.count i) (both (has_value (row i)) (not (is_overridden x.text row x.head.count i)) shows).1 in
      let past : x.head.count ≤ first_to like (i + 1) x.head.count = ltb-false (first_to like (i + 1) x.head.count) x.head.count o in
      (to_first like (i + 1) x.head.count (omega arith)).before k (omega arith) (omega arith)

  itself : like i ≡ true
  unfolding like has_prefix
  itself = same_refl (prefix_in x.text (row i))

  value_is : (other : ResolveResult) → value_or row other (suc i) ≡ Bound (value_start (row i)) (value_end (row i))
  unfolding value_or
  value_is other = rw has_value_lem

  none_prefix : (k : ℕ) → (row k).prefix_len ≡ 0 → prefix_in x.text (row k) ≡ []
  unfolding prefix_in part
  none_prefix k e =
      let z : value_start (row k) - (row k).start ≡ 0 = omega arith in
      rw z

  some_length : ((row i).prefix_len ≡ 0 → ⊥) → length (prefix_in x.text (row i)) ≡ 0 → ⊥
  unfolding prefix_in row
  some_length n z =
      let l = lies x.text x.records x.head (form_of_lem x v) i h in
      n (omega (arith, part_length x.text (row i).start (value_start (row i)) (omega arith) (omega arith)))

  default_later : (row i).prefix_len ≡ 0 → (k : ℕ) → i < k → k < x.head.count → is_default (row k) ≡ false
  unfolding is_default like has_prefix same_bytes
  default_later e k lo hi =
      ne_eqb (row k).prefix_len 0
      (λ z. true≢false (sym (rw (none_prefix k z, none_prefix i e)) ∙ no_later k lo hi))

  resolves_by : (t : Bool) → is_default (row i) ≡ t → among_of x.text row x.head.count (prefix_in x.text (row i)) (not t) true ≡ Bound (value_start (row i)) (value_end (row i))
  unfolding among_of explicit_of default_of is_default has_prefix like
  resolves_by true e =
      let q = eqb-true (row i).prefix_len 0 e in
      ap (value_or row Unbound) (last_is (λ k. is_default (row k)) i x.head.count h e (default_later q)) ∙ value_is Unbound
  resolves_by false e =
      let n = eqb-false (row i).prefix_len 0 e in
      rw (ne_eqb (length (prefix_in x.text (row i))) 0 (some_length n))
      (ap (value_or row (Unknown 0 (length (prefix_in x.text (row i))))) (last_is like i x.head.count h itself no_later) ∙ value_is (Unknown 0 (length (prefix_in x.text (row i)))))

  effect_resolves : resolve_prefix_of (prefix_in x.text (row i)) (not (is_default (row i))) true x ≡ Ok (Bound (value_start (row i)) (value_end (row i)))
  unfolding resolve_prefix_of row
  effect_resolves = rw v (ap (λ (r : ResolveResult). Ok r) (resolves_by (is_default (row i)) refl))

pub in_effect_resolves : (x : NamespaceResolver) → valid_of x ≡ true → x.head.used ≤ length x.text → EffectResolves x
unfolding row
in_effect_resolves x v w i h shows = effect_resolves x v w i h shows
