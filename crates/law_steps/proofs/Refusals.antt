-- Refusals 6 and 7 come exactly when document 01 says. A state is good exactly if no clause of 7 holds of it; a step from a
-- good one never answers 7, and answers 6 only where the verdict on its key is that the table is full.
use Prim.Native.Nat.{ℕ, ◌≤◌, ◌<◌}
use mathlib.Core.Path.{◌≡◌, refl, sym, ap, subst, ◌∙◌}
use mathlib.Core.Bool.{Bool, true, false, not, ◌&&◌, false≢true, true≢false}
use mathlib.Core.List.{List}
use native.Mathlib.Omega.{arith}
use lib.ListN.{length, get_or}
use lib.Dec.{eqb, ltb, leb}
use borrow.Author.Tests.{ltb-true, ltb-false, leb-true, leb-false, eqb-true, eqb-false}
use Rattle.std.proofs.Common.{Option, Some, None, Result, Ok, Err}
use Rattle.scan.specs.First.{first_to, pick}
use Rattle.scan.proofs.Laws.{picks, to_first, to_past}
use Rattle.scan.proofs.Bytes.{both}
use Rattle.tag_keys.specs.declared.KeyRefusal.{KeyRefusal}
use Rattle.tag_keys.specs.declared.KeyRefusal.TheVariants.{Same, Full}
use Rattle.tag_keys.specs.Hash.{hash_of}
use Rattle.tag_keys.specs.Keys.{capacity, name_at, key_good, hash_is, key_bad, table_good, earlier_of, checked_by, checked_of}
use Rattle.tag_keys.proofs.Laws.{facts_hold, table_in, table_all, earlier_none, earlier_absent, checked_full}
use Rattle.tag_step.specs.declared.Span.{Span}
use Rattle.tag_step.specs.declared.Place.{Place}
use Rattle.tag_step.specs.declared.Place.TheVariants.{Done, Next, SkipValue, SkipEqValue}
use Rattle.tag_step.specs.Answer.{Answer}
use Rattle.tag_step.specs.declared.Attr.TheVariants.{DoubleQ, SingleQ, Unquoted, Empty}
use Rattle.tag_step.specs.declared.AttrError.TheVariants.{ExpectedEq, ExpectedValue, UnquotedValue, ExpectedQuote, Duplicated, KeyTableFull, BadState}
use Rattle.tag_step.specs.declared.Found.{Found}
use Rattle.tag_step.specs.declared.IterState.{IterState}
use Rattle.tag_step.specs.declared.Step.{Step}
use Rattle.tag_step.specs.Read.{is_at, recover_of, quoted, closed_of, value_at}
use Rattle.tag_step.specs.Next.{Reading, check_of, bare_by, bare_to, bare_of, valued_by, valued_to, valued_of, step_from, step_of, place_good, keys_of, state_good, bad_reading, leaves, next_of}
use Rattle.tag_step.proofs.Whole.{starts_in, step_bare, step_valued, next_bad, next_steps}
use Rattle.tag_step.proofs.Ways.{value_ways, step_ways}
use Rattle.law_steps.specs.Steps.{FullTables, Broken, empty_key, outside_key, wrong_hash, many_keys, outside_skip, outside_skip_eq, no_eq, SevenExactly, Due, valued, bare, NoRoom, SixExactly}

-- Refusal 7.

module _ (s : List ℕ) (st : IterState) where
  abbrev tables : Bool
  tables = table_good s st.starts st.ends st.hashes st.count

  skips_in : (o : ℕ) → place_good s (SkipValue o) ≡ true → o < length s
  unfolding place_good
  skips_in o p = ltb-true o (length s) p

  pub skips_eq : (o : ℕ) → place_good s (SkipEqValue o) ≡ true → (o < length s) × (get_or s o 0 ≡ 61)
  unfolding place_good is_at
  skips_eq o p =
      let b = both (ltb o (length s)) (eqb (get_or s o 0) 61) p in
      (ltb-true o (length s) b.0, eqb-true (get_or s o 0) 61 b.1)

  -- no clause of 7 holds of a good state
  pub good_whole : state_good s st ≡ true → Broken s st → ⊥
  unfolding state_good
  good_whole g = by (both tables (place_good s st.place) g) where
    by : (tables ≡ true) × (place_good s st.place ≡ true) → Broken s st → ⊥
    by b (empty_key k lt h) = omega (arith, ((table_in s st.starts st.ends st.hashes st.count b.0).inside k lt).0)
    by b (outside_key k lt h) = omega (arith, ((table_in s st.starts st.ends st.hashes st.count b.0).inside k lt).1)
    by b (wrong_hash k lt n) =
        let own = (table_in s st.starts st.ends st.hashes st.count b.0).kept k lt in
        n cc
    by b (many_keys h) = omega (arith, (table_in s st.starts st.ends st.hashes st.count b.0).few)
    by b (outside_skip o e h) = omega (arith, skips_in o (subst (λ (p : Place). place_good s p ≡ true) e b.1))
    by b (outside_skip_eq o e h) = omega (arith, (skips_eq o (subst (λ (p : Place). place_good s p ≡ true) e b.1)).0)
    by b (no_eq o e n) = n (skips_eq o (subst (λ (p : Place). place_good s p ≡ true) e b.1)).1

  -- a recorded key that tests bad is empty, or not inside the tag, or its kept hash is not its own
  key_broken : (k : ℕ) → k < st.count → key_bad s st.starts st.ends st.hashes k ≡ true → Broken s st
  unfolding key_bad key_good hash_is
  key_broken k lt = by (ltb start end) (leb end (length s)) (eqb hash own) refl refl refl where
    start : ℕ
    start = get_or st.starts k 0

    end : ℕ
    end = get_or st.ends k 0

    hash : ℕ
    hash = get_or st.hashes k 0

    own : ℕ
    own = hash_of (name_at s st.starts st.ends k)

    by : (a b d : Bool) → ltb start end ≡ a → leb end (length s) ≡ b → eqb hash own ≡ d → not ((a && b) && d) ≡ true → Broken s st
    by true true true x y v z = absurd (false≢true z)
    by true true false x y v z = wrong_hash k lt (eqb-false hash own v)
    by true false d x y v z = outside_key k lt (leb-false end (length s) y)
    by false b d x y v z = empty_key k lt (ltb-false start end x)

  place_broken : (p : Place) → st.place ≡ p → place_good s p ≡ false → Broken s st
  unfolding place_good is_at
  place_broken Done e h = absurd (true≢false h)
  place_broken (Next o) e h = absurd (true≢false h)
  place_broken (SkipValue o) e h = outside_skip o e (ltb-false o (length s) h)
  place_broken (SkipEqValue o) e h = by (ltb o (length s)) refl h where
    by : (t : Bool) → ltb o (length s) ≡ t → (t && eqb (get_or s o 0) 61) ≡ false → Broken s st
    by true x z = no_eq o e (eqb-false (get_or s o 0) 61 z)
    by false x z = outside_skip_eq o e (ltb-false o (length s) x)

  module _ (full : FullTables st) where
    -- where no key tests bad, and there are not too many, the tables are good
    tables_broken : tables ≡ false → Broken s st
    tables_broken bad = by (leb st.count capacity) refl where
      n : ℕ
      n = first_to (key_bad s st.starts st.ends st.hashes) 0 st.count

      first_bad : st.count ≤ capacity → (t : Bool) → ltb n st.count ≡ t → Broken s st
      first_bad few true h =
          let lt = ltb-true n st.count h in
          key_broken n lt ((to_first (key_bad s st.starts st.ends st.hashes) 0 st.count (omega arith)).found lt)
      first_bad few false h =
          let le = ltb-false n st.count h in
          let p = key_bad s st.starts st.ends st.hashes in
          let past = to_past p st.count st.count (omega arith) in
          let same : n ≡ first_to p st.count st.count = omega (arith, (to_first p 0 st.count (omega arith)).inside) in
          let held = facts_hold st.starts st.ends st.hashes st.count (omega (arith, full.starts), omega (arith, full.ends), omega (arith, full.hashes)) in
          absurd (true≢false (table_all s st.starts st.ends st.hashes st.count few held st.count same (omega arith) ∙ bad))

      by : (t : Bool) → leb st.count capacity ≡ t → Broken s st
      by true h = first_bad (leb-true st.count capacity h) (ltb n st.count) refl
      by false h = many_keys (leb-false st.count capacity h)

    pub bad_broken : state_good s st ≡ false → Broken s st
    unfolding state_good
    bad_broken = by tables refl where
      by : (t : Bool) → tables ≡ t → (t && place_good s st.place) ≡ false → Broken s st
      by true e h = place_broken st.place refl h
      by false e h = tables_broken e

-- Refusal 6.

-- what the verdict says that the table is full
record IsFull (s : List ℕ) (st : IterState) (key : Span) : Type 0 where
  checks : st.check_duplicates ≡ true
  full : capacity ≤ st.count
  new : earlier_of s st.starts st.ends st.count key.start key.end ≡ None

module _ (s : List ℕ) (st : IterState) where
  abbrev checks : Bool
  checks = st.check_duplicates

  full_by : (key : Span) (e : Option ℕ) → earlier_of s st.starts st.ends st.count key.start key.end ≡ e → checks ≡ true → Err Full ≡ checked_by st.count e → IsFull s st key
  unfolding checked_by
  full_by key (Some p) e on h = let z : ◌≡◌ {A = ℕ} 0 1 = cc in absurd (omega arith)
  full_by key None e on h =
      picks (λ (c : Result ℕ KeyRefusal). Err Full ≡ c → IsFull s st key) (ltb st.count capacity)
      (λ _ x. let z : ◌≡◌ {A = ℕ} 0 1 = cc in absurd (omega arith))
      (λ t x. record { checks = on; full = ltb-false st.count capacity t; new = e })
      h

  full_means : (key : Span) → Err Full ≡ check_of s checks (keys_of st) key → IsFull s st key
  unfolding check_of checked_of keys_of
  full_means key = by checks refl where
    by : (t : Bool) → checks ≡ t → Err Full ≡ pick t (checked_by st.count (earlier_of s st.starts st.ends st.count key.start key.end)) (Ok st.count) → IsFull s st key
    by true e h = full_by key _ refl e h
    by false e h = let z : ◌≡◌ {A = ℕ} 0 1 = cc in absurd (omega arith)

  -- what a step from a good state may answer: never 7, and 6 only for a key that is due, with a full table
  record Refused (this : ℕ) : Type 0 where
    key : Span
    due : Due s st key
    full : IsFull s st key
    start : key.start ≡ this

  unfoldable May : Answer → Type 0
  May None = Unit {0}
  May (Some (Ok (DoubleQ k v))) = Unit {0}
  May (Some (Ok (SingleQ k v))) = Unit {0}
  May (Some (Ok (Unquoted k v))) = Unit {0}
  May (Some (Ok (Empty k))) = Unit {0}
  May (Some (Err (ExpectedEq p))) = Unit {0}
  May (Some (Err (ExpectedValue l))) = Unit {0}
  May (Some (Err (UnquotedValue p))) = Unit {0}
  May (Some (Err (ExpectedQuote l q))) = Unit {0}
  May (Some (Err (Duplicated this earlier))) = Unit {0}
  May (Some (Err (KeyTableFull this))) = Refused this
  May (Some (Err BadState)) = ⊥

  value_may : (key : Span) (eq : ℕ) → May (value_at s st.html key eq).answer
  unfolding May closed_of quoted
  value_may key eq =
      value_ways s st.html key eq _ refl (λ (x : Found) (_ : ℕ). May x.answer)
      (λ l. tt) (λ e l q b g. picks May (eqb (get_or s _ 0) 34) (λ _. tt) (λ _. tt)) (λ e l q b g. tt) (λ e l q m b. tt) (λ l q m. tt)

  bare_may : (key : Span) (at : ℕ) (c : Result ℕ KeyRefusal) → Due s st key → c ≡ check_of s checks (keys_of st) key → May (bare_by s key at c).answer
  unfolding May bare_by
  bare_may key at (Ok n) d v = tt
  bare_may key at (Err (Same p)) d v = tt
  bare_may key at (Err Full) d v = record { key = key; due = d; full = full_means key v; start = refl }

  valued_may : (key : Span) (eq : ℕ) (c : Result ℕ KeyRefusal) → Due s st key → c ≡ check_of s checks (keys_of st) key → May (valued_by s st.html key eq c).answer
  unfolding May valued_by
  valued_may key eq (Ok n) d v = value_may key eq
  valued_may key eq (Err (Same p)) d v = tt
  valued_may key eq (Err Full) d v = record { key = key; due = d; full = full_means key v; start = refl }

  step_may : May (step_of s st.html checks (keys_of st) st.place).answer
  unfolding step_of step_from May bare_to valued_to
  step_may = by (recover_of s st.place) refl where
    by : (x : Option ℕ) → recover_of s st.place ≡ x → May (step_from s st.html checks (keys_of st) st.place x).answer
    by None g = tt
    by (Some o) g =
        step_ways s st.html checks (keys_of st) o (starts_in s st.place o g) (λ (x : Reading) (_ : ℕ). May x.answer)
        (λ e. tt)
        (λ key at e i m. tt)
        (λ key at c e i m v. bare_may key at c (bare at (record { from = o; goes = g; reads = e; html = m })) v)
        (λ key eq c e i a v. valued_may key eq c (valued eq (record { from = o; goes = g; reads = e })) v)

  -- `next` of a good state, and of any other
  good_may : state_good s st ≡ true → May (next_of s st).answer
  unfolding leaves
  good_may g = subst (λ (x : Step). May x.answer) (next_steps s st g _ refl) step_may

  bad_seven : state_good s st ≡ false → (next_of s st).answer ≡ Some (Err BadState)
  unfolding leaves bad_reading
  bad_seven b = ap (λ (x : Step). x.answer) (sym (next_bad s st b))

  broken_bad : Broken s st → state_good s st ≡ false
  broken_bad b = by (state_good s st) refl where
    by : (t : Bool) → state_good s st ≡ t → state_good s st ≡ false
    by true e = absurd (good_whole s st e b)
    by false e = e

pub seven_exactly : SevenExactly
unfolding SevenExactly May
seven_exactly s st full = (comes (state_good s st) refl, λ b. bad_seven s st (broken_bad s st b)) where
  comes : (t : Bool) → state_good s st ≡ t → (next_of s st).answer ≡ Some (Err BadState) → Broken s st
  comes true g e = absurd (subst (May s st) e (good_may s st g))
  comes false g e = bad_broken s st full g

module _ (s : List ℕ) (st : IterState) (this : ℕ) (full : FullTables st) where
  -- 6 says that the state was good
  six_good : (next_of s st).answer ≡ Some (Err (KeyTableFull this)) → state_good s st ≡ true
  six_good e = by (state_good s st) refl where
    by : (t : Bool) → state_good s st ≡ t → state_good s st ≡ true
    by true g = g
    by false g = let b = bad_seven s st g in let z : ◌≡◌ {A = ℕ} 0 1 = cc in absurd (omega arith)

  six_means : (next_of s st).answer ≡ Some (Err (KeyTableFull this)) → NoRoom s st this
  unfolding May state_good
  six_means e =
      let g = six_good e in
      let r : Refused s st this = subst (May s st) e (good_may s st g) in
      let few = (table_in s st.starts st.ends st.hashes st.count (both (tables s st) (place_good s st.place) g).0).few in
      let most : capacity ≤ st.count = r.full.full in
      record {
        whole = good_whole s st g;
        checks = r.full.checks;
        key = r.key;
        due = r.due;
        full = omega arith;
        new = earlier_absent s st.starts st.ends st.count r.key.start r.key.end r.full.new;
        start = r.start;
      }

  -- the verdict on such a key
  no_room_full : (n : NoRoom s st this) → Err Full ≡ check_of s st.check_duplicates (keys_of st) n.key
  unfolding check_of keys_of
  no_room_full n =
      sym (checked_full s st.check_duplicates st.starts st.ends st.count n.key.start n.key.end n.checks
      (earlier_none s st.starts st.ends st.count n.key.start n.key.end n.new) (omega (arith, n.full)))

  due_refused : (key : Span) → Due s st key → Err Full ≡ check_of s st.check_duplicates (keys_of st) key → (step_of s st.html st.check_duplicates (keys_of st) st.place).answer ≡ Some (Err (KeyTableFull key.start))
  unfolding valued_of valued_to valued_by bare_of bare_to bare_by
  due_refused key (valued eq d) f =
      ap (λ (x : Reading). x.answer) (sym (step_valued s st.html st.check_duplicates (keys_of st) st.place d.from d.goes key eq d.reads)) ∙ rw (sym f)
  due_refused key (bare at d) f =
      ap (λ (x : Reading). x.answer) (sym (step_bare s st.html st.check_duplicates (keys_of st) st.place d.from d.goes key at d.reads)) ∙ rw (sym f, d.html)

  no_room_six : NoRoom s st this → (next_of s st).answer ≡ Some (Err (KeyTableFull this))
  unfolding leaves
  no_room_six n =
      ap (λ (x : Step). x.answer) (sym (next_steps s st (good (state_good s st) refl) _ refl)) ∙ due_refused n.key n.due (no_room_full n) ∙ ap (λ (x : ℕ). Some (Err (KeyTableFull x))) n.start where
        good : (t : Bool) → state_good s st ≡ t → state_good s st ≡ true
        good true g = g
        good false g = absurd (n.whole (bad_broken s st full g))

pub six_exactly : SixExactly
unfolding SixExactly
six_exactly s st this full = (six_means s st this full, no_room_six s st this full)
