-- The laws of the recorded keys: when two keys are the same, what the search of a table answers, which tables are good,
-- and what each verdict leaves. The layers above need no more than these to work with a table.
use Prim.Native.Nat.{ℕ, ◌+◌, ◌-◌, ◌≤◌, ◌<◌}
use mathlib.Core.Path.{◌≡◌, refl, sym, ap, subst, ◌∙◌}
use mathlib.Core.Bool.{Bool, true, false, ◌&&◌, true≢false}
use mathlib.Core.Logic.{⊎_elim}
use mathlib.Core.List.{List}
use native.Mathlib.Nat.{le_of_lt, eq-or-lt_of_le}
use native.Mathlib.Omega.{arith}
use lib.ListN.{length, get_or, set, take, length-set}
use lib.Seq.{get_or-set_same, get_or-set_other, ext_get_or}
use lib.Dec.{ltb, leb}
use borrow.Author.Tests.{eq-eqb, ne_eqb, eqb-true, lt-ltb, le-ltb, ltb-true, ltb-false, le-leb, lt-leb, leb-true, not-false}
use Rattle.std.proofs.Common.{Option, Some, None, Result, Ok, Err}
use Rattle.scan.specs.First.{first_to}
use Rattle.scan.specs.Bytes.{part, same_bytes}
use Rattle.scan.proofs.Laws.{IsFirst, to_hit, to_past, to_first, first_only}
use Rattle.scan.proofs.Bytes.{both, same_refl, same_eq, same_ne}
use Rattle.scan.proofs.Lists.{part_length, part_at, part_same}
use Rattle.tag_keys.specs.declared.KeyRefusal.{KeyRefusal}
use Rattle.tag_keys.specs.declared.KeyRefusal.TheVariants.{Same, Full}
use Rattle.tag_keys.specs.Hash.{hash_of}
use Rattle.tag_keys.specs.Keys.{capacity, name_at, key_good, hash_is, key_bad, holds, count_good, table_good, KeysIn, KeyRoom, has_place, hash_for, same_key, oldest_of, earlier_of, checked_by, checked_of, written_by, count_by}

-- Two parts of a tag

module _ (s : List ℕ) (a e b f : ℕ) (ha : a ≤ e) (he : e ≤ length s) (hb : b ≤ f) (hf : f ≤ length s) where
  -- of one length, with the same bytes
  pub alike : e - a ≡ f - b → ((i : ℕ) → 0 ≤ i → i < f - b → get_or s (a + i) 0 ≡ get_or s (b + i) 0) → same_bytes (part s a e) (part s b f) ≡ true
  alike n all =
      let la = part_length s a e ha he in
      let lb = part_length s b f hb hf in
      let eq : part s a e ≡ part s b f =
      ext_get_or 0 (part s a e) (part s b f) (la ∙ n ∙ sym lb)
      (λ i h. part_at s a e i (omega arith) ∙ all i (omega arith) (omega arith) ∙ sym (part_at s b f i (omega arith))) in
      rw eq (same_refl (part s b f))

  -- of two lengths
  pub unlike_length : (e - a ≡ f - b → ⊥) → same_bytes (part s a e) (part s b f) ≡ false
  unlike_length n = same_ne (part s a e) (part s b f) (λ eq. n (sym (part_length s a e ha he) ∙ ap length eq ∙ part_length s b f hb hf))

  -- with a byte that differs
  pub unlike_byte : e - a ≡ f - b → (i : ℕ) → i < f - b → (get_or s (a + i) 0 ≡ get_or s (b + i) 0 → ⊥) → same_bytes (part s a e) (part s b f) ≡ false
  unlike_byte n i h other =
      same_ne (part s a e) (part s b f)
      (λ eq. other (sym (part_at s a e i (omega arith)) ∙ ap (λ (l : List ℕ). get_or l i 0) eq ∙ part_at s b f i h))

-- the test of a kept hash
module _ (hashes : List ℕ) (h k : ℕ) where
  pub hash_same : get_or hashes k 0 ≡ h → hash_is hashes h k ≡ true
  unfolding hash_is
  hash_same e = eq-eqb (get_or hashes k 0) h e

  pub hash_other : (get_or hashes k 0 ≡ h → ⊥) → hash_is hashes h k ≡ false
  unfolding hash_is
  hash_other n = ne_eqb (get_or hashes k 0) h n

  pub hash_is_lem : hash_is hashes h k ≡ true → get_or hashes k 0 ≡ h
  unfolding hash_is
  hash_is_lem e = eqb-true (get_or hashes k 0) h e

-- The hash of a key: while checks are off, and while they are on
module _ (tag : List ℕ) (checks : Bool) (from to : ℕ) where
  pub hash_off : checks ≡ false → 0 ≡ hash_for tag checks from to
  unfolding hash_for
  hash_off off = rw off

  pub hash_on : (h : ℕ) → checks ≡ true → h ≡ hash_of (part tag from to) → h ≡ hash_for tag checks from to
  unfolding hash_for
  hash_on h on e = rw on e

  pub hash_asked : (h : ℕ) → h ≡ hash_for tag checks from to → checks ≡ true → h ≡ hash_of (part tag from to)
  unfolding hash_for
  hash_asked h e on = e ∙ rw on

-- what holds from j on, and just before j
pub down_more : (P : ℕ → Type 0) (j n : ℕ) → 0 < j → ((i : ℕ) → j ≤ i → i < n → P i) → P (j - 1) → (i : ℕ) → j - 1 ≤ i → i < n → P i
down_more P j n pos all here i lo hi =
    ⊎_elim (λ (e : j - 1 ≡ i). subst P e here) (λ (l : j - 1 < i). all i (omega arith) hi) (eq-or-lt_of_le lo)

-- The search

-- what the index of the oldest recorded key with these bytes is
pub record IsOldest (tag starts ends : List ℕ) (count from to k : ℕ) : Type 0 where
  pub recorded : k < count
  pub same : name_at tag starts ends k ≡ part tag from to
  pub older : (i : ℕ) → i < k → name_at tag starts ends i ≡ part tag from to → ⊥

module _ (tag starts ends : List ℕ) (count from to : ℕ) where
  like : (k : ℕ) → name_at tag starts ends k ≡ part tag from to → same_key tag starts ends from to k ≡ true
  unfolding same_key
  like k e = rw e (same_refl (part tag from to))

  unlike : (k : ℕ) → same_key tag starts ends from to k ≡ false → name_at tag starts ends k ≡ part tag from to → ⊥
  unlike k h e = true≢false (sym (like k e) ∙ h)

  other : (k : ℕ) → (name_at tag starts ends k ≡ part tag from to → ⊥) → same_key tag starts ends from to k ≡ false
  unfolding same_key
  other k n = same_ne (name_at tag starts ends k) (part tag from to) n

  oldest_first : IsFirst (same_key tag starts ends from to) 0 count (oldest_of tag starts ends count from to)
  unfolding oldest_of
  oldest_first = to_first (same_key tag starts ends from to) 0 count (omega arith)

  -- an index below the count that the search gives is the oldest
  pub oldest_is : oldest_of tag starts ends count from to < count → IsOldest tag starts ends count from to (oldest_of tag starts ends count from to)
  unfolding same_key
  oldest_is h =
      let k = oldest_of tag starts ends count from to in
      record {
        recorded = h;
        same = same_eq (name_at tag starts ends k) (part tag from to) (oldest_first.found h);
        older = λ i lt. unlike i (oldest_first.before i (omega arith) lt);
      }

  -- and the search gives it
  pub oldest_only : (k : ℕ) → IsOldest tag starts ends count from to k → oldest_of tag starts ends count from to ≡ k
  oldest_only k o =
      first_only (same_key tag starts ends from to) 0 count (oldest_of tag starts ends count from to) k oldest_first
      (record {
        ahead = omega arith;
        inside = omega (arith, o.recorded);
        found = λ _. like k o.same;
        before = λ i lo hi. other i (o.older i hi);
      })

  module _ (k : ℕ) (here : oldest_of tag starts ends count from to ≡ k) where
    pub earlier_at : k < count → earlier_of tag starts ends count from to ≡ Some (get_or starts k 0)
    unfolding earlier_of
    earlier_at h = rw (here, lt-ltb k count h)

    pub earlier_past : count ≤ k → earlier_of tag starts ends count from to ≡ None
    unfolding earlier_of
    earlier_past h = rw (here, le-ltb k count h)

  -- the oldest key with the same bytes is answered by its start
  pub earlier_found : (k : ℕ) → IsOldest tag starts ends count from to k → earlier_of tag starts ends count from to ≡ Some (get_or starts k 0)
  earlier_found k o = earlier_at k (oldest_only k o) o.recorded

  -- nothing is answered where no recorded key has the same bytes
  pub earlier_none : ((k : ℕ) → k < count → name_at tag starts ends k ≡ part tag from to → ⊥) → earlier_of tag starts ends count from to ≡ None
  earlier_none none =
      earlier_past (oldest_of tag starts ends count from to) refl (by (ltb (oldest_of tag starts ends count from to) count) refl) where
        by : (t : Bool) → ltb (oldest_of tag starts ends count from to) count ≡ t → count ≤ oldest_of tag starts ends count from to
        by true e =
            let h = ltb-true (oldest_of tag starts ends count from to) count e in
            absurd (none (oldest_of tag starts ends count from to) h (oldest_is h).same)
        by false e = ltb-false (oldest_of tag starts ends count from to) count e

  -- A start is answered only of the oldest key with the same bytes.
  pub earlier_is : (p : ℕ) → earlier_of tag starts ends count from to ≡ Some p → (k : ℕ) × (IsOldest tag starts ends count from to k) × (get_or starts k 0 ≡ p)
  earlier_is p e = by (ltb (oldest_of tag starts ends count from to) count) refl where
    by : (t : Bool) → ltb (oldest_of tag starts ends count from to) count ≡ t → (k : ℕ) × (IsOldest tag starts ends count from to k) × (get_or starts k 0 ≡ p)
    by true h =
        let l = ltb-true (oldest_of tag starts ends count from to) count h in
        let a = earlier_at (oldest_of tag starts ends count from to) refl l in
        (oldest_of tag starts ends count from to, oldest_is l, cc)
    by false h =
        let n = earlier_past (oldest_of tag starts ends count from to) refl (ltb-false (oldest_of tag starts ends count from to) count h) in
        let z : ◌≡◌ {A = ℕ} 0 1 = cc in absurd (omega arith)

  -- Nothing is answered only where no recorded key has the same bytes.
  pub earlier_absent : earlier_of tag starts ends count from to ≡ None → (k : ℕ) → k < count → name_at tag starts ends k ≡ part tag from to → ⊥
  earlier_absent e k lt = by (ltb (oldest_of tag starts ends count from to) count) refl where
    by : (t : Bool) → ltb (oldest_of tag starts ends count from to) count ≡ t → name_at tag starts ends k ≡ part tag from to → ⊥
    by true h =
        let a = earlier_at (oldest_of tag starts ends count from to) refl (ltb-true (oldest_of tag starts ends count from to) count h) in
        let z : ◌≡◌ {A = ℕ} 0 1 = cc in absurd (omega arith)
    by false h =
        let l = ltb-false (oldest_of tag starts ends count from to) count h in
        unlike k (oldest_first.before k (omega arith) (omega arith))

-- Whether lists hold so many keys, as facts

pub holds_facts : (starts ends hashes : List ℕ) (n : ℕ) → holds starts ends hashes n ≡ true → (n ≤ length starts) × (n ≤ length ends) × (n ≤ length hashes)
holds_facts starts ends hashes n h =
    let b = both (leb n (length starts)) (leb n (length ends) && leb n (length hashes)) h in
    let d = both (leb n (length ends)) (leb n (length hashes)) b.1 in
    (leb-true n (length starts) b.0, leb-true n (length ends) d.0, leb-true n (length hashes) d.1)

pub facts_hold : (starts ends hashes : List ℕ) (n : ℕ) → (n ≤ length starts) × (n ≤ length ends) × (n ≤ length hashes) → holds starts ends hashes n ≡ true
facts_hold starts ends hashes n h = rw (le-leb n (length starts) h.0, le-leb n (length ends) h.1, le-leb n (length hashes) h.2)

-- Good tables

module _ (tag starts ends hashes : List ℕ) where
  pub bad_order : (k : ℕ) → get_or ends k 0 ≤ get_or starts k 0 → key_bad tag starts ends hashes k ≡ true
  unfolding key_bad key_good
  bad_order k h = rw (le-ltb (get_or starts k 0) (get_or ends k 0) h)

  pub bad_end : (k : ℕ) → get_or starts k 0 < get_or ends k 0 → length tag < get_or ends k 0 → key_bad tag starts ends hashes k ≡ true
  unfolding key_bad key_good
  bad_end k h g = rw (lt-ltb (get_or starts k 0) (get_or ends k 0) h, lt-leb (get_or ends k 0) (length tag) g)

  pub bad_hash : (k : ℕ) → get_or starts k 0 < get_or ends k 0 → get_or ends k 0 ≤ length tag → (get_or hashes k 0 ≡ hash_of (name_at tag starts ends k) → ⊥) → key_bad tag starts ends hashes k ≡ true
  unfolding key_bad key_good
  bad_hash k h g n =
      rw (lt-ltb (get_or starts k 0) (get_or ends k 0) h, le-leb (get_or ends k 0) (length tag) g, hash_other hashes (hash_of (name_at tag starts ends k)) k n)

  pub fine : (k : ℕ) → get_or starts k 0 < get_or ends k 0 → get_or ends k 0 ≤ length tag → get_or hashes k 0 ≡ hash_of (name_at tag starts ends k) → key_bad tag starts ends hashes k ≡ false
  unfolding key_bad key_good
  fine k h g e =
      rw (lt-ltb (get_or starts k 0) (get_or ends k 0) h, le-leb (get_or ends k 0) (length tag) g, hash_same hashes (hash_of (name_at tag starts ends k)) k e)

  not_bad : (k : ℕ) → key_bad tag starts ends hashes k ≡ false → (key_good (length tag) (get_or starts k 0) (get_or ends k 0) ≡ true) × (hash_is hashes (hash_of (name_at tag starts ends k)) k ≡ true)
  unfolding key_bad
  not_bad k h =
      let good = key_good (length tag) (get_or starts k 0) (get_or ends k 0) in
      let own = hash_is hashes (hash_of (name_at tag starts ends k)) k in
      both good own (not-false (good && own) h)

  key_good_lem : (k : ℕ) → key_good (length tag) (get_or starts k 0) (get_or ends k 0) ≡ true → (get_or starts k 0 < get_or ends k 0) × (get_or ends k 0 ≤ length tag)
  unfolding key_good
  key_good_lem k h =
      let b = both (ltb (get_or starts k 0) (get_or ends k 0)) (leb (get_or ends k 0) (length tag)) h in
      (ltb-true (get_or starts k 0) (get_or ends k 0) b.0, leb-true (get_or ends k 0) (length tag) b.1)

  module _ (count : ℕ) where
    pub table_many : capacity < count → false ≡ table_good tag starts ends hashes count
    unfolding table_good count_good
    table_many h = rw (lt-leb count capacity h)

    pub table_short : count ≤ capacity → holds starts ends hashes count ≡ false → false ≡ table_good tag starts ends hashes count
    unfolding table_good count_good
    table_short f h = rw (le-leb count capacity f, h)

    module _ (f : count ≤ capacity) (h : holds starts ends hashes count ≡ true) (k : ℕ)
        (same : first_to (key_bad tag starts ends hashes) 0 count ≡ first_to (key_bad tag starts ends hashes) k count) where
      pub table_bad : k < count → key_bad tag starts ends hashes k ≡ true → false ≡ table_good tag starts ends hashes count
      unfolding table_good count_good
      table_bad l b = rw (le-leb count capacity f, h, same, to_hit (key_bad tag starts ends hashes) k count l b, lt-leb count k l)

      pub table_all : count ≤ k → true ≡ table_good tag starts ends hashes count
      unfolding table_good count_good
      table_all l = rw (le-leb count capacity f, h, same, to_past (key_bad tag starts ends hashes) k count l, le-leb count k l)

    -- what the test of a table says
    pub table_in : table_good tag starts ends hashes count ≡ true → KeysIn starts ends hashes count tag
    unfolding table_good count_good
    table_in t =
        let n = first_to (key_bad tag starts ends hashes) 0 count in
        let a = both (count_good starts ends hashes count) (leb count n) t in
        let b = both (leb count capacity) (holds starts ends hashes count) a.0 in
        let all : count ≤ n = leb-true count n a.1 in
        let none = (to_first (key_bad tag starts ends hashes) 0 count (omega arith)).before in
        record {
          few = leb-true count capacity b.0;
          placed = holds_facts starts ends hashes count b.1;
          inside = λ k lt. key_good_lem k (not_bad k (none k (omega arith) (omega arith))).0;
          kept = λ k lt. hash_is_lem hashes (hash_of (name_at tag starts ends k)) k (not_bad k (none k (omega arith) (omega arith))).1;
        }

    -- and what it takes
    pub in_table : KeysIn starts ends hashes count tag → table_good tag starts ends hashes count ≡ true
    in_table i =
        sym
        (table_all i.few (facts_hold starts ends hashes count i.placed) count
        (first_only (key_bad tag starts ends hashes) 0 count (first_to (key_bad tag starts ends hashes) 0 count) (first_to (key_bad tag starts ends hashes) count count)
        (to_first (key_bad tag starts ends hashes) 0 count (omega arith))
        (record {
          ahead = omega arith;
          inside = omega (arith, past);
          found = λ l. absurd (omega (arith, past));
          before = λ k lo hi.
              (let lt : k < count = omega (arith, past) in
              fine k (i.inside k lt).0 (i.inside k lt).1 (i.kept k lt));
        }))
        (omega arith)) where
          past : first_to (key_bad tag starts ends hashes) count count ≡ count
          past = to_past (key_bad tag starts ends hashes) count count (omega arith)

-- no key is recorded
pub keys_none : (starts ends hashes tag : List ℕ) → KeysIn starts ends hashes 0 tag
keys_none starts ends hashes tag =
    record {
      few = omega arith;
      placed = (omega arith, omega arith, omega arith);
      inside = λ k lt. absurd (omega arith);
      kept = λ k lt. absurd (omega arith);
    }

-- a tag that begins as another one goes on with its recorded keys
pub keys_longer : (starts ends hashes : List ℕ) (count : ℕ) (tag more : List ℕ) → length tag ≤ length more → take (length tag) tag ≡ take (length tag) more → KeysIn starts ends hashes count tag → KeysIn starts ends hashes count more
unfolding name_at
keys_longer starts ends hashes count tag more h same i =
    record {
      few = i.few;
      placed = i.placed;
      inside = λ k lt. ((i.inside k lt).0, omega (arith, (i.inside k lt).1));
      kept = λ k lt.
          i.kept k lt ∙ ap hash_of (part_same (length tag) tag more (get_or starts k 0) (get_or ends k 0) same (le_of_lt (i.inside k lt).0) (i.inside k lt).1);
    }

-- Verdicts

-- by what a search found
module _ (count : ℕ) (x : Option ℕ) where
  pub by_same : (p : ℕ) → x ≡ Some p → checked_by count x ≡ Err (Same p)
  unfolding checked_by
  by_same p e = rw e

  pub by_full : x ≡ None → capacity ≤ count → checked_by count x ≡ Err Full
  unfolding checked_by
  by_full e h = rw (e, le-ltb count capacity h)

  pub by_fresh : x ≡ None → count < capacity → checked_by count x ≡ Ok (count + 1)
  unfolding checked_by
  by_fresh e h = rw (e, lt-ltb count capacity h)

module _ (tag : List ℕ) (checks : Bool) (starts ends : List ℕ) (count from to : ℕ) where
  pub checked_off : checks ≡ false → checked_of tag checks starts ends count from to ≡ Ok count
  unfolding checked_of
  checked_off h = rw h

  module _ (on : checks ≡ true) where
    pub checked_by_lem : (x : Option ℕ) → x ≡ earlier_of tag starts ends count from to → checked_of tag checks starts ends count from to ≡ checked_by count x
    unfolding checked_of
    checked_by_lem x e = rw (on, e)

    pub checked_same : (p : ℕ) → earlier_of tag starts ends count from to ≡ Some p → checked_of tag checks starts ends count from to ≡ Err (Same p)
    unfolding checked_of checked_by
    checked_same p e = rw (on, e)

    pub checked_full : earlier_of tag starts ends count from to ≡ None → capacity ≤ count → checked_of tag checks starts ends count from to ≡ Err Full
    unfolding checked_of checked_by
    checked_full e h = rw (on, e, le-ltb count capacity h)

    pub checked_fresh : earlier_of tag starts ends count from to ≡ None → count < capacity → checked_of tag checks starts ends count from to ≡ Ok (count + 1)
    unfolding checked_of checked_by
    checked_fresh e h = rw (on, e, lt-ltb count capacity h)

module _ (checks : Bool) (n : ℕ) (t : List ℕ) (count x : ℕ) where
  pub written_on : checks ≡ true → written_by checks (Ok n) t count x ≡ set t count x
  unfolding written_by
  written_on h = rw h

  pub written_off : checks ≡ false → written_by checks (Ok n) t count x ≡ t
  unfolding written_by
  written_off h = rw h

-- no verdict makes a table longer or shorter
pub written_length : (checks : Bool) (v : Result ℕ KeyRefusal) (t : List ℕ) (count x : ℕ) → length (written_by checks v t count x) ≡ length t
unfolding written_by
written_length true (Ok n) t count x = length-set t count x
written_length false (Ok n) t count x = refl
written_length checks (Err (Same p)) t count x = refl
written_length checks (Err Full) t count x = refl

pub room_stays : (checks : Bool) (v : Result ℕ KeyRefusal) (starts ends hashes : List ℕ) (count from to hash : ℕ) → KeyRoom checks starts ends hashes → KeyRoom checks (written_by checks v starts count from) (written_by checks v ends count to) (written_by checks v hashes count hash)
room_stays checks v starts ends hashes count from to hash r =
    record {
      room = λ on. (
        omega (arith, r.room on, written_length checks v starts count from),
        omega (arith, r.room on, written_length checks v ends count to),
        omega (arith, r.room on, written_length checks v hashes count hash),
      );
    }

-- one key more, at the first unused place
module _ (starts ends hashes : List ℕ) (count : ℕ) (tag : List ℕ) (from to : ℕ) (i : KeysIn starts ends hashes count tag) (few : count < capacity) (places : (count + 1 ≤ length starts) × (count + 1 ≤ length ends) × (count + 1 ≤ length hashes)) where
  abbrev name : ℕ → List ℕ
  name k = name_at tag (set starts count from) (set ends count to) k

  abbrev hash : ℕ
  hash = hash_of (part tag from to)

  -- at its own place, and at every other
  name_new : name count ≡ part tag from to
  unfolding name_at
  name_new = rw (get_or-set_same starts count from 0 (omega (arith, places)), get_or-set_same ends count to 0 (omega (arith, places)))

  name_old : (k : ℕ) → k < count → name k ≡ name_at tag starts ends k
  unfolding name_at
  name_old k lt =
      let n : k ≡ count → ⊥ = λ e. omega arith in
      rw (get_or-set_other starts count k from 0 n, get_or-set_other ends count k to 0 n)

  -- what is so of each key before, and of this one, is so of each then
  each : (P : ℕ → Type 0) → ((k : ℕ) → k < count → P k) → P count → (k : ℕ) → k < count + 1 → P k
  each P old new k l = ⊎_elim (λ (e : k ≡ count). subst P (sym e) new) (λ (b : k < count). old k b) (eq-or-lt_of_le (below k l)) where
    below : (k : ℕ) → k < count + 1 → k ≤ count
    below k l = omega arith

  pub keys_more : from < to → to ≤ length tag → KeysIn (set starts count from) (set ends count to) (set hashes count hash) (count + 1) tag
  keys_more lt le =
      record {
        few = omega arith;
        placed = (simp length-set (omega (arith, places)), simp length-set (omega (arith, places)), simp length-set (omega (arith, places)));
        inside = each (λ (k : ℕ). (get_or (set starts count from) k 0 < get_or (set ends count to) k 0) × (get_or (set ends count to) k 0 ≤ length tag)) old
            (rw (get_or-set_same starts count from 0 (omega (arith, places)), get_or-set_same ends count to 0 (omega (arith, places))) (lt, le));
        kept = each (λ (k : ℕ). get_or (set hashes count hash) k 0 ≡ hash_of (name k)) own
            (get_or-set_same hashes count hash 0 (omega (arith, places)) ∙ ap hash_of (sym name_new));
      } where
        old : (k : ℕ) → k < count → (get_or (set starts count from) k 0 < get_or (set ends count to) k 0) × (get_or (set ends count to) k 0 ≤ length tag)
        old k b =
            let n : k ≡ count → ⊥ = λ e. omega arith in
            rw (get_or-set_other starts count k from 0 n, get_or-set_other ends count k to 0 n) (i.inside k b)

        own : (k : ℕ) → k < count → get_or (set hashes count hash) k 0 ≡ hash_of (name k)
        own k b =
            let n : k ≡ count → ⊥ = λ e. omega arith in
            get_or-set_other hashes count k hash 0 n ∙ i.kept k b ∙ ap hash_of (sym (name_old k b))

-- the table that a verdict leaves, with its count
abbrev pub KeysAfter : Bool → Result ℕ KeyRefusal → (starts ends hashes : List ℕ) → (count from to : ℕ) → List ℕ → Type 0
KeysAfter checks v starts ends hashes count from to tag =
    KeysIn (written_by checks v starts count from) (written_by checks v ends count to) (written_by checks v hashes count (hash_of (part tag from to))) (count_by v count) tag

module _ (tag starts ends hashes : List ℕ) (count from to : ℕ) (i : KeysIn starts ends hashes count tag) where
  -- The check of a key that is not empty and lies inside the tag leaves a good table good, if the lists hold what is recorded then.
  pub keys_held : (checks : Bool) → from < to → to ≤ length tag →
      let v = checked_of tag checks starts ends count from to in
      holds starts ends hashes (count_by v count) ≡ true → KeysAfter checks v starts ends hashes count from to tag
  unfolding checked_of checked_by written_by count_by
  keys_held false lt le = λ h. i
  keys_held true lt le = by (earlier_of tag starts ends count from to) (ltb count capacity) refl where
    by : (e : Option ℕ) (t : Bool) → ltb count capacity ≡ t → holds starts ends hashes (count_by (checked_by count e) count) ≡ true → KeysAfter true (checked_by count e) starts ends hashes count from to tag
    by (Some p) t h = λ f. i
    by None true h =
        rw h (λ f. keys_more starts ends hashes count tag from to i (ltb-true count capacity h) (holds_facts starts ends hashes (count + 1) f) lt le)
    by None false h = rw h (λ f. i)

  -- With room for as many keys as may ever be recorded they always do.
  pub room_holds : (checks : Bool) → KeyRoom checks starts ends hashes → holds starts ends hashes (count_by (checked_of tag checks starts ends count from to) count) ≡ true
  unfolding checked_of checked_by count_by
  room_holds false r = facts_hold starts ends hashes count i.placed
  room_holds true r = by (earlier_of tag starts ends count from to) (ltb count capacity) refl where
    by : (e : Option ℕ) (t : Bool) → ltb count capacity ≡ t → holds starts ends hashes (count_by (checked_by count e) count) ≡ true
    by (Some p) t h = facts_hold starts ends hashes count i.placed
    by None true h =
        let few = ltb-true count capacity h in
        let places = r.room refl in
        rw h (facts_hold starts ends hashes (count + 1) (omega arith, omega arith, omega arith))
    by None false h = rw h (facts_hold starts ends hashes count i.placed)

-- when lists have the place of the next key: while checks are off, and where none is full
module _ (checks : Bool) (starts ends hashes : List ℕ) (count : ℕ) where
  pub place_unwanted : checks ≡ false → true ≡ has_place checks starts ends hashes count
  unfolding has_place
  place_unwanted off = rw off

  pub place_there : checks ≡ true → count < length starts → count < length ends → count < length hashes → true ≡ has_place checks starts ends hashes count
  unfolding has_place
  place_there on a b d = rw (on, facts_hold starts ends hashes (count + 1) (omega arith, omega arith, omega arith))

  pub starts_full : checks ≡ true → length starts ≤ count → false ≡ has_place checks starts ends hashes count
  unfolding has_place
  starts_full on a = rw (on, lt-leb (count + 1) (length starts) (omega arith))

  pub ends_full : checks ≡ true → count < length starts → length ends ≤ count → false ≡ has_place checks starts ends hashes count
  unfolding has_place
  ends_full on a b = rw (on, le-leb (count + 1) (length starts) (omega arith), lt-leb (count + 1) (length ends) (omega arith))

  pub hashes_full : checks ≡ true → count < length starts → count < length ends → length hashes ≤ count → false ≡ has_place checks starts ends hashes count
  unfolding has_place
  hashes_full on a b d =
      rw (on, le-leb (count + 1) (length starts) (omega arith), le-leb (count + 1) (length ends) (omega arith), lt-leb (count + 1) (length hashes) (omega arith))

-- A new key has its place exactly if the lists hold as many keys as there are with it.
pub fresh_holds : (tag : List ℕ) (checks : Bool) (starts ends hashes : List ℕ) (count from to n : ℕ) → KeysIn starts ends hashes count tag → checked_of tag checks starts ends count from to ≡ Ok n → holds starts ends hashes n ≡ has_place checks starts ends hashes count
unfolding checked_of checked_by has_place
fresh_holds tag false starts ends hashes count from to n i = λ e.
    let m : count ≡ n = cc in
    rw (sym m) (facts_hold starts ends hashes count i.placed)
fresh_holds tag true starts ends hashes count from to n i = by (earlier_of tag starts ends count from to) (ltb count capacity) refl where
  by : (x : Option ℕ) (t : Bool) → ltb count capacity ≡ t → checked_by count x ≡ Ok n → holds starts ends hashes n ≡ holds starts ends hashes (count + 1)
  by (Some p) t h = λ e. absurd (let z : ◌≡◌ {A = ℕ} 0 1 = cc in omega arith)
  by None true h = rw h (λ e.
      let m : count + 1 ≡ n = cc in
      rw (sym m) refl)
  by None false h = rw h (λ e. absurd (let z : ◌≡◌ {A = ℕ} 0 1 = cc in omega arith))
