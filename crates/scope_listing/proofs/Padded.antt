-- A listing of lent memory is that of the resolver it stands for: zeros after the lent text and the lent records change
-- nothing that it reads, since every record in use ends within the lent text.
use Prim.Native.Nat.{ℕ, ◌+◌, ◌≤◌, ◌<◌}
use mathlib.Core.Path.{◌≡◌, refl, sym, ap, ◌∙◌}
use mathlib.Core.Bool.{Bool, true, false}
use mathlib.Core.List.{List}
use native.Mathlib.Omega.{arith}
use lib.Dec.{leb, ltb}
use lib.ListN.{length}
use borrow.Author.Tests.{leb-true, leb-false}
use Rattle.std.specs.Prelude.{Ok, Err}
use Rattle.scan.specs.First.{first_to}
use Rattle.scan.specs.Bytes.{same_bytes}
use Rattle.scan.proofs.Laws.{IsFirst, to_first, first_only, to_past}
use Rattle.scan.specs.Lists.{pad_to}
use Rattle.scope_table.specs.Records.{record_at, value_end, prefix_in}
use Rattle.scope_table.specs.Table.{TEXT, NUMBERS}
use Rattle.scope_table.specs.Lent.{lent, form_of}
use Rattle.scope_table.proofs.Pad.{pad_records}
use Rattle.scope_table.proofs.Good.{Ready, ready}
use Rattle.scope_table.proofs.Calls.{asks_bad, asks_good, asks_wrong}
use Rattle.scope_table.specs.declared.Head.{Head}
use Rattle.scope_table.specs.declared.NamespaceBinding.{NamespaceBinding}
use Rattle.scope_table.specs.declared.NamespaceResolver.{NamespaceResolver}
use Rattle.scope_table.specs.declared.FormError.{FormError}
use Rattle.scope_table.specs.declared.FormError.TheVariants as Is
use Rattle.scope_lookup.specs.Lookup.{has_prefix}
use Rattle.scope_lookup.proofs.Padded.{pad_prefix, ready_inside}
use Rattle.scope_listing.specs.Listing.{Rising, listing, is_overridden, in_effect, at_level, listed_at, past_built_in, bindings_of, bindings_at_of}
use Rattle.scope_listing.specs.declared.Listing.{Listing}

-- tests that agree below n have the same first one
module _ (p q : ℕ → Bool) (i n : ℕ) (h : (k : ℕ) → k < n → p k ≡ q k) where
  is_first_same : (r : ℕ) → IsFirst p i n r → IsFirst q i n r
  is_first_same r f =
      record {
        ahead = f.ahead;
        inside = f.inside;
        found = λ l. sym (h r l) ∙ f.found l;
        before = λ k lo hi. sym (h k (omega (arith, f.inside))) ∙ f.before k lo hi;
      }

  first_by : (t : Bool) → leb i n ≡ t → first_to p i n ≡ first_to q i n
  first_by true e =
      let l = leb-true i n e in
      first_only q i n (first_to p i n) (first_to q i n) (is_first_same (first_to p i n) (to_first p i n l)) (to_first q i n l)
  first_by false e =
      let l = leb-false i n e in
      to_past p i n (omega arith) ∙ sym (to_past q i n (omega arith))

  pub first_same : first_to p i n ≡ first_to q i n
  first_same = first_by (leb i n) refl

module _ (m : ℕ) (text : List ℕ) (rows : ℕ → NamespaceBinding) (count : ℕ) (h : (k : ℕ) → k < count → value_end (rows k) ≤ length text) where
  pad_overridden : (i : ℕ) → i < count → is_overridden (pad_to m text) rows count i ≡ is_overridden text rows count i
  unfolding is_overridden has_prefix
  pad_overridden i l =
      ap (λ (f : ℕ). ltb f count)
      (first_same (λ j. has_prefix (pad_to m text) (prefix_in (pad_to m text) (rows i)) (rows j)) (λ j. has_prefix text (prefix_in text (rows i)) (rows j)) (i + 1) count
      (λ k b. ap (λ (s : List ℕ). same_bytes s (prefix_in (pad_to m text) (rows i))) (pad_prefix m text (rows k) (h k b)) ∙ ap (same_bytes (prefix_in text (rows k))) (pad_prefix m text (rows i) (h i l))))

  pub pad_in_effect : (from : ℕ) → first_to (in_effect (pad_to m text) rows count) from count ≡ first_to (in_effect text rows count) from count
  unfolding in_effect
  pad_in_effect from =
      first_same (in_effect (pad_to m text) rows count) (in_effect text rows count) from count
      (λ k l. rw (pad_overridden k l))

-- the form gives what the search of one level asks
pub ready_rising : (text records : List ℕ) (head : Head) → Ready text records head → Rising records head.count
ready_rising text records head y = record { rows = y.rows_lent; each = y.table.rises }

-- A listing on lent memory: where the form is good it is the listing of what is lent, and where it is not, refusal 20.
module _ (text records : List ℕ) (head : Head) (place : ℕ) where
  shown_in_lem : NamespaceResolver → Listing
  shown_in_lem x =
      listed_at (record_at x.records) x.head.count
      (first_to (in_effect x.text (record_at x.records) x.head.count) (past_built_in place) x.head.count) place

  pub listing_bad : form_of text records head ≡ Err Is.BadResolver → listing (Err Is.BadResolver) place ≡ lent (listing (Err Is.WrongLength) place) (bindings_of place) text records head
  unfolding bindings_of shown_in_lem
  listing_bad e = sym (asks_bad text records head (listing (Err Is.WrongLength) place) shown_in_lem (λ x. listing (Err Is.BadResolver) place) e)

  pub listing_refused : (why : FormError) → form_of text records head ≡ Err why → listing (Err why) place ≡ lent (listing (Err Is.WrongLength) place) (bindings_of place) text records head
  listing_refused Is.BadResolver e = listing_bad e
  listing_refused Is.WrongLength e = sym (asks_wrong text records head (listing (Err Is.WrongLength) place) (bindings_of place) e)

  pub listing_good : form_of text records head ≡ Ok tt →
      listed_at (record_at records) head.count (first_to (in_effect text (record_at records) head.count) (past_built_in place) head.count) place
      ≡ lent (listing (Err Is.WrongLength) place) (bindings_of place) text records head
  unfolding bindings_of shown_in_lem
  listing_good e =
      let i = ready_inside text records head (ready text records head e) in
      sym (asks_good text records head (listing (Err Is.WrongLength) place) shown_in_lem (λ x. listing (Err Is.BadResolver) place) e
      ∙ ap (λ (rows : ℕ → NamespaceBinding). listed_at rows head.count (first_to (in_effect (pad_to TEXT text) rows head.count) (past_built_in place) head.count) place) (pad_records NUMBERS records)
      ∙ ap (λ (found : ℕ). listed_at (record_at records) head.count found place) (pad_in_effect TEXT text (record_at records) head.count i.each (past_built_in place)))

  module _ (asked : ℕ) where
    level_in : NamespaceResolver → Listing
    level_in x =
        listed_at (record_at x.records) x.head.count
        (first_to (λ i. at_level asked (record_at x.records i)) place x.head.count) place

    pub level_bad : form_of text records head ≡ Err Is.BadResolver → listing (Err Is.BadResolver) place ≡ lent (listing (Err Is.WrongLength) place) (bindings_at_of asked place) text records head
    unfolding bindings_at_of level_in
    level_bad e = sym (asks_bad text records head (listing (Err Is.WrongLength) place) level_in (λ x. listing (Err Is.BadResolver) place) e)

    pub level_refused : (why : FormError) → form_of text records head ≡ Err why → listing (Err why) place ≡ lent (listing (Err Is.WrongLength) place) (bindings_at_of asked place) text records head
    level_refused Is.BadResolver e = level_bad e
    level_refused Is.WrongLength e = sym (asks_wrong text records head (listing (Err Is.WrongLength) place) (bindings_at_of asked place) e)

    pub level_good : form_of text records head ≡ Ok tt →
        listed_at (record_at records) head.count (first_to (λ i. at_level asked (record_at records i)) place head.count) place
        ≡ lent (listing (Err Is.WrongLength) place) (bindings_at_of asked place) text records head
    unfolding bindings_at_of level_in
    level_good e =
        sym (asks_good text records head (listing (Err Is.WrongLength) place) level_in (λ x. listing (Err Is.BadResolver) place) e
        ∙ ap (λ (rows : ℕ → NamespaceBinding). listed_at rows head.count (first_to (λ i. at_level asked (rows i)) place head.count) place) (pad_records NUMBERS records))
