-- `has_nil` on lent memory. Zeros after lent scopes change nothing that a name is looked up in; lent key tables are the
-- iterator whose missing places are unused, and those of full size are its own.
use Prim.Native.Nat.{ℕ, zero, suc, ◌-◌, ◌≤◌, ◌<◌}
use mathlib.Core.Path.{◌≡◌, refl, sym, ap, subst, ◌∙◌}
use mathlib.Core.Bool.{Bool, true, false, ◌&&◌}
use mathlib.Core.List.{List, ◌++◌}
use native.Mathlib.Omega.{arith}
use lib.Dec.{eqb}
use lib.ListN.{length, take, drop, replicate, length-append}
use lib.Seq.{take_all, take-length}
use borrow.Author.Tests.{le-leb, lt-leb}
use Rattle.std.specs.Prelude.{Ok, Err}
use Rattle.scan.specs.First.{pick}
use Rattle.scan.specs.Bytes.{inside, same_bytes, bytes}
use Rattle.scan.specs.Lists.{pad_to}
use Rattle.scan.proofs.Laws.{picks}
use Rattle.scan.proofs.Bytes.{both}
use Rattle.scan.proofs.Lists.{part_same, pad_length, pad_take}
use Rattle.name.specs.Split.{has_colon, prefix_of, local_of}
use Rattle.tag_keys.specs.Keys.{capacity, holds, table_good, KeysIn}
use Rattle.tag_keys.proofs.Laws.{table_in, facts_hold}
use Rattle.tag_step.specs.declared.Place.TheVariants.{Done}
use Rattle.tag_step.specs.declared.IterState.{IterState}
use Rattle.tag_step.specs.declared.Standing.{Standing}
use Rattle.tag_step.specs.Answer.{Answer}
use Rattle.tag_step.specs.Next.{place_good, state_good, next_of, lent_state, stands_at}
use Rattle.tag_step.specs.Lent.{whole_of, stepped_of}
use Rattle.tag_step.specs.Run.{is_end}
use Rattle.tag_step.proofs.Good.{Sized, next_stays_good, next_sized}
use Rattle.tag_step.proofs.Lent.{whole_full, whole_good, bad_leaves, full_leaves}
use Rattle.tag_parts.specs.Parts.{key_part, value_part, truth_of}
use Rattle.scope_table.specs.Records.{record_at, value_start, value_end}
use Rattle.scope_table.specs.Table.{TEXT, NUMBERS, resolver_of, valid_of}
use Rattle.scope_table.specs.Lent.{stands_for, lent, form_of}
use Rattle.scope_table.proofs.Pad.{pad_records}
use Rattle.scope_table.proofs.Good.{ready}
use Rattle.scope_table.proofs.Full.{full_asks}
use Rattle.scope_table.proofs.Calls.{asks_wrong, asks_bad, asks_good}
use Rattle.scope_table.specs.declared.Head.{Head}
use Rattle.scope_table.specs.declared.NamespaceBinding.{NamespaceBinding}
use Rattle.scope_table.specs.declared.NamespaceResolver.{NamespaceResolver}
use Rattle.scope_table.specs.declared.FormError.{FormError}
use Rattle.scope_table.specs.declared.FormError.TheVariants as Is
use Rattle.scope_table.specs.Lists.{last_below}
use Rattle.scope_lookup.specs.Inside.{Inside}
use Rattle.scope_lookup.specs.Lookup.{has_prefix, is_default, value_or, explicit_of, default_of, among_of, uri_part}
use Rattle.scope_lookup.specs.declared.ResolveResult.{ResolveResult}
use Rattle.scope_lookup.specs.declared.ResolveResult.TheVariants.{Bound, Unbound, Unknown}
use Rattle.scope_table.proofs.Last.{last_within}
use Rattle.scope_lookup.proofs.Padded.{pad_among, ready_inside}
use Rattle.scope_nil.specs.Nil.{refused_nil, said, nil_left_by, unmoved_by, is_yes, instance_uri, is_nil, says_nil, search_of, searched, has_nil_of, held_nil, whole_search, nil_on_keys, keys_fit, has_nil_in, Searchable, Resting}
use Rattle.scope_nil.specs.declared.HasNil.{HasNil}
use Rattle.scope_nil.specs.declared.Left.{Left}
use Rattle.scope_nil.specs.declared.NilError.TheVariants as Refused

-- The URI that is found ends within the lent text, so it is the same there and in what that stands for.
module _ (m : ℕ) (text : List ℕ) (rows : ℕ → NamespaceBinding) (count : ℕ) (h : (k : ℕ) → k < count → value_end (rows k) ≤ length text) where
  Same : ResolveResult → Type 0
  Same f = uri_part (pad_to m text) (Ok f) ≡ uri_part text (Ok f)

  same_bound : (b : NamespaceBinding) → value_end b ≤ length text → value_end b ≤ length (pad_to m text) → Same (Bound (value_start b) (value_end b))
  unfolding Same uri_part inside
  same_bound b l k =
      let o : value_start b ≤ value_end b = omega arith in
      rw (le-leb (value_start b) (value_end b) o, le-leb (value_end b) (length text) l, le-leb (value_end b) (length (pad_to m text)) k)
      (part_same (length text) (pad_to m text) text (value_start b) (value_end b) (pad_take m text ∙ sym (take-length text)) o l)

  same_value : (other : ResolveResult) → Same other → (n : ℕ) → n ≤ count → length text ≤ length (pad_to m text) → Same (value_or rows other n)
  unfolding value_or
  same_value other o zero l k = o
  same_value other o (suc i) l k =
      let b = h i (omega arith) in
      picks Same (eqb (rows i).value_len 0) (λ e. o) (λ e. same_bound (rows i) b (omega arith))

  same_among : length text ≤ length (pad_to m text) → (p : List ℕ) (explicit wanted : Bool) → Same (among_of text rows count p explicit wanted)
  unfolding among_of explicit_of default_of Same uri_part
  same_among k p explicit wanted =
      picks Same explicit
      (λ e. picks Same (eqb (length p) 0) (λ z. refl) (λ z. same_value (Unknown 0 (length p)) refl (last_below (λ i. has_prefix text p (rows i)) count) (last_within (λ i. has_prefix text p (rows i)) count) k))
      (λ e. picks Same wanted (λ z. same_value Unbound refl (last_below (λ i. is_default (rows i)) count) (last_within (λ i. is_default (rows i)) count) k) (λ z. refl))

pad_longer : (m : ℕ) (xs : List ℕ) → length xs ≤ length (pad_to m xs)
unfolding pad_to
pad_longer m xs = simp length-append (omega arith)

-- So lent scopes find the same as what they stand for.
module _ (text records : List ℕ) (head : Head) (i : Inside records head.count (length text)) where
  same_uri : (p : List ℕ) (explicit wanted : Bool) → uri_part (pad_to TEXT text) (Ok (among_of (pad_to TEXT text) (record_at (pad_to NUMBERS records)) head.count p explicit wanted)) ≡ uri_part text (Ok (among_of text (record_at records) head.count p explicit wanted))
  unfolding Same
  same_uri p explicit wanted =
      ap (λ (r : ResolveResult). uri_part (pad_to TEXT text) (Ok r))
      (ap (λ (rows : ℕ → NamespaceBinding). among_of (pad_to TEXT text) rows head.count p explicit wanted) (pad_records NUMBERS records)
      ∙ pad_among TEXT text (record_at records) head.count i.each p explicit wanted)
      ∙ same_among TEXT text (record_at records) head.count i.each (pad_longer TEXT text) p explicit wanted

  same_says : (s : List ℕ) (a : Answer) → says_nil (stands_for text records head) s a ≡ says_nil (resolver_of text records head) s a
  unfolding says_nil is_nil
  same_says s a =
      ap (λ (u : List ℕ). same_bytes (local_of (key_part s a)) (bytes "nil") && (is_yes (truth_of (value_part s a)) && same_bytes u instance_uri))
      (same_uri (prefix_of (key_part s a)) (has_colon (key_part s a)) false)

  same_search : (n : ℕ) (s : List ℕ) (st : IterState) → search_of n (stands_for text records head) s st ≡ search_of n (resolver_of text records head) s st
  unfolding search_of
  same_search zero s st = refl
  same_search (suc n) s st =
      let y = next_of s st in
      ap (λ (t : Bool). pick (is_end y.answer) (said (Ok false) y.state) (pick t (said (Ok true) y.state) (search_of n (stands_for text records head) s y.state))) (same_says s y.answer)
      ∙ ap (λ (later : HasNil). pick (is_end y.answer) (said (Ok false) y.state) (pick (says_nil (resolver_of text records head) s y.answer) (said (Ok true) y.state) later)) (same_search n s y.state)

  pub same_whole : (s : List ℕ) (st : IterState) → whole_search (stands_for text records head) s st ≡ whole_search (resolver_of text records head) s st
  unfolding whole_search searched
  same_whole s st = ap (held_nil st) (same_search (suc (suc (length s))) s (whole_of st))

-- What a search leaves of an iterator of full size is of full size and good again.
Kept : (s : List ℕ) → HasNil → Type 0
Kept s h = Sized h.state × (state_good s h.state ≡ true)

search_keeps : (n : ℕ) (x : NamespaceResolver) (s : List ℕ) (st : IterState) → Sized st → state_good s st ≡ true → Kept s (search_of n x s st)
unfolding search_of Kept
search_keeps zero x s st z g = (z, g)
search_keeps (suc n) x s st z g =
    let y = next_of s st in
    let w = next_sized s st z in
    let e = next_stays_good s st z in
    picks (Kept s) (is_end y.answer) (λ t. (w, e))
    (λ t. picks (Kept s) (says_nil x s y.answer) (λ u. (w, e)) (λ u. search_keeps n x s y.state w e))

good_few : (s : List ℕ) (st : IterState) → state_good s st ≡ true → KeysIn st.starts st.ends st.hashes st.count s
unfolding state_good
good_few s st g = table_in s st.starts st.ends st.hashes st.count (both (table_good s st.starts st.ends st.hashes st.count) (place_good s st.place) g).0

-- Tables of full size are the iterator's own.
pub full_search : (x : NamespaceResolver) (s : List ℕ) (st : IterState) → Sized st → state_good s st ≡ true → searched x s st ≡ whole_search x s st
unfolding whole_search held_nil searched Kept
full_search x s st z g =
    let k = search_keeps (suc (suc (length s))) x s st z g in
    let h = search_of (suc (suc (length s))) x s st in
    let f = good_few s h.state k.1 in
    rw (
      whole_full st z,
      facts_hold st.starts st.ends st.hashes h.state.count (omega (arith, f.few, z.starts), omega (arith, f.few, z.ends), omega (arith, f.few, z.hashes)),
      take_all (length st.starts) h.state.starts (omega (arith, z.starts, k.0.starts)),
      take_all (length st.ends) h.state.ends (omega (arith, z.ends, k.0.ends)),
      take_all (length st.hashes) h.state.hashes (omega (arith, z.hashes, k.0.hashes)),
    )

-- `has_nil` on tables of full size is that of the iterator.
pub full_nil : (s : List ℕ) (st : IterState) (x : NamespaceResolver) → Sized st → nil_on_keys s st x ≡ has_nil_of s st x
unfolding nil_on_keys has_nil_of
full_nil s st x z = ap (λ (h : HasNil). pick (valid_of x) h (said (Err Refused.BadResolver) st)) (by (state_good s st) refl) where
  by : (t : Bool) → state_good s st ≡ t → pick t (whole_search x s st) (said (Err Refused.BadState) (stepped_of s st)) ≡ pick t (searched x s st) (said (Err Refused.BadState) (next_of s st).state)
  by true g = sym (full_search x s st z g)
  by false g = ap (said (Err Refused.BadState)) (full_leaves s st z)

-- Lent tables.
module _ (st : IterState) where
  pub keys_fit_lem : length st.starts ≤ capacity → length st.ends ≤ capacity → length st.hashes ≤ capacity → keys_fit st ≡ true
  unfolding keys_fit
  keys_fit_lem a b d = rw (le-leb (length st.starts) capacity a, le-leb (length st.ends) capacity b, le-leb (length st.hashes) capacity d)

  pub keys_long : capacity < length st.starts → keys_fit st ≡ false
  unfolding keys_fit
  keys_long a = rw (lt-leb (length st.starts) capacity a)

  pub ends_long : length st.starts ≤ capacity → capacity < length st.ends → keys_fit st ≡ false
  unfolding keys_fit
  ends_long a b = rw (le-leb (length st.starts) capacity a, lt-leb (length st.ends) capacity b)

  pub hashes_long : length st.starts ≤ capacity → length st.ends ≤ capacity → capacity < length st.hashes → keys_fit st ≡ false
  unfolding keys_fit
  hashes_long a b d = rw (le-leb (length st.starts) capacity a, le-leb (length st.ends) capacity b, lt-leb (length st.hashes) capacity d)

-- The whole call, in the order of its tests.
module _ (s : List ℕ) (st : IterState) (text records : List ℕ) (head : Head) where
  pub in_long : keys_fit st ≡ false → said (Err Refused.WrongLength) st ≡ has_nil_in s st text records head
  unfolding has_nil_in
  in_long f = rw f

  module _ (f : keys_fit st ≡ true) where
    fitted : lent (said (Err Refused.WrongLength) st) (nil_on_keys s st) text records head ≡ has_nil_in s st text records head
    unfolding has_nil_in
    fitted = rw f

    pub in_wrong : form_of text records head ≡ Err Is.WrongLength → said (Err Refused.WrongLength) st ≡ has_nil_in s st text records head
    in_wrong e = sym (asks_wrong text records head (said (Err Refused.WrongLength) st) (nil_on_keys s st) e) ∙ fitted

    inner : NamespaceResolver → HasNil
    inner x = pick (state_good s st) (whole_search x s st) (said (Err Refused.BadState) (stepped_of s st))

    pub in_bad : form_of text records head ≡ Err Is.BadResolver → said (Err Refused.BadResolver) st ≡ has_nil_in s st text records head
    unfolding nil_on_keys inner
    in_bad e = sym (asks_bad text records head (said (Err Refused.WrongLength) st) inner (λ x. said (Err Refused.BadResolver) st) e) ∙ fitted

    pub in_refused : (why : FormError) → form_of text records head ≡ Err why → said (Err (refused_nil why)) st ≡ has_nil_in s st text records head
    in_refused Is.BadResolver e = in_bad e
    in_refused Is.WrongLength e = in_wrong e

    in_good : form_of text records head ≡ Ok tt → inner (stands_for text records head) ≡ has_nil_in s st text records head
    unfolding nil_on_keys inner
    in_good e = sym (asks_good text records head (said (Err Refused.WrongLength) st) inner (λ x. said (Err Refused.BadResolver) st) e) ∙ fitted

    pub in_7 : form_of text records head ≡ Ok tt → state_good s st ≡ false → length st.starts ≤ capacity → length st.ends ≤ capacity → length st.hashes ≤ capacity → (starts ends hashes : List ℕ) → starts ≡ replicate (length st.starts) 0 → ends ≡ replicate (length st.ends) 0 → hashes ≡ replicate (length st.hashes) 0 → said (Err Refused.BadState) (lent_state Done st.html st.check_duplicates starts ends hashes 0) ≡ has_nil_in s st text records head
    unfolding inner
    in_7 e g a b d starts ends hashes p q t = rw (p, q, t, ← bad_leaves s st a b d g) (sym (rw g) ∙ in_good e)

    pub in_search : form_of text records head ≡ Ok tt → state_good s st ≡ true → whole_search (resolver_of text records head) s st ≡ has_nil_in s st text records head
    unfolding inner
    in_search e g =
        let i = ready_inside text records head (ready text records head e) in
        sym (same_whole text records head i s st) ∙ sym (rw g) ∙ in_good e

-- Memory of full size, both the iterator's and the resolver's, is theirs.
pub full_in : (s : List ℕ) (st : IterState) (x : NamespaceResolver) → length st.starts ≡ capacity → length st.ends ≡ capacity → length st.hashes ≡ capacity → length x.text ≡ TEXT → length x.records ≡ NUMBERS → has_nil_in s st x.text x.records x.head ≡ has_nil_of s st x
unfolding has_nil_in
full_in s st x p q h t r =
    rw (keys_fit_lem st (omega arith) (omega arith) (omega arith))
    (full_asks x.text x.records x.head t r (said (Err Refused.WrongLength) st) (nil_on_keys s st) ∙ full_nil s st x (record { starts = p; ends = q; hashes = h }))

-- A copy of lent tables in tables of full size, and back.

zeros_drop : (m k : ℕ) → drop k (replicate {A = ℕ} m 0) ≡ replicate (m - k) 0
zeros_drop m zero =
    let e : m ≡ m - 0 = omega arith in
    ap (λ (n : ℕ). replicate {A = ℕ} n 0) e
zeros_drop zero (suc k) =
    let e : 0 ≡ 0 - suc k = omega arith in
    ap (λ (n : ℕ). replicate {A = ℕ} n 0) e
zeros_drop (suc m) (suc k) =
    let e : m - k ≡ suc m - suc k = omega arith in
    zeros_drop m k ∙ ap (λ (n : ℕ). replicate {A = ℕ} n 0) e

copied_in : (t u : List ℕ) → u ≡ t ++ drop (length t) (replicate capacity 0) → u ≡ pad_to capacity t
unfolding pad_to
copied_in t u e = e ∙ rw (zeros_drop capacity (length t))

module _ (x : NamespaceResolver) (s : List ℕ) (at : Standing) (S E H : List ℕ) (y : Resting s (stands_at at S E H)) where
  whole_searchable : Searchable s (whole_of (stands_at at S E H))
  unfolding whole_of
  whole_searchable =
      let i = good_few s (stands_at at S E H) y.good in
      record {
        good = sym (whole_good s (stands_at at S E H) y.starts y.ends y.hashes (facts_hold S E H at.count i.placed)) ∙ y.good;
        starts = pad_length capacity S y.starts;
        ends = pad_length capacity E y.ends;
        hashes = pad_length capacity H y.hashes;
      }

  -- the copy is the iterator that the lent tables are, and it can be searched
  module _ (P Q R : List ℕ) (p : P ≡ S ++ drop (length S) (replicate capacity 0)) (q : Q ≡ E ++ drop (length E) (replicate capacity 0)) (t : R ≡ H ++ drop (length H) (replicate capacity 0)) where
    whole_copy : stands_at at P Q R ≡ whole_of (stands_at at S E H)
    unfolding whole_of
    whole_copy = rw (copied_in S P p, copied_in E Q q, copied_in H R t)

    pub copy_searchable : Searchable s (stands_at at P Q R)
    copy_searchable = subst (λ (st : IterState). Searchable s st) (sym whole_copy) whole_searchable

    -- its search, and what that leaves of the copy
    module _ (r : Left) (starts ends hashes : List ℕ) (e : nil_left_by at r starts ends hashes ≡ searched x s (stands_at at P Q R)) where
      found : nil_left_by at r starts ends hashes ≡ searched x s (whole_of (stands_at at S E H))
      found = e ∙ ap (searched x s) whole_copy

      pub left_sized : Sized (lent_state r.place at.html at.checks starts ends hashes r.count)
      unfolding searched Kept
      left_sized =
          subst (λ (h : HasNil). Sized h.state) (sym found)
          (search_keeps (suc (suc (length s))) x s (whole_of (stands_at at S E H)) (record { starts = whole_searchable.starts; ends = whole_searchable.ends; hashes = whole_searchable.hashes }) whole_searchable.good).0

      pub short_more : holds S E H r.count ≡ false → nil_left_by at (unmoved_by (Err Refused.LendMore) at) S E H ≡ whole_search x s (stands_at at S E H)
      unfolding whole_search held_nil
      short_more h = rw (← found, h)

      pub short_held : holds S E H r.count ≡ true → (S' E' H' : List ℕ) → S' ≡ take (length S) starts → E' ≡ take (length E) ends → H' ≡ take (length H) hashes → nil_left_by at r S' E' H' ≡ whole_search x s (stands_at at S E H)
      unfolding whole_search held_nil
      short_held h S' E' H' u v w = rw (u, v, w, ← found, h)
