-- Document 02, request 2: the colon that `second_colon` answers with is the name's second. Colons are counted here, one by one from the start, and
-- nothing is said of searches.
use Prim.Native.Nat.{ℕ, zero, suc, ◌+◌, ◌-◌, ◌≤◌, ◌<◌}
use mathlib.Core.Path.{◌≡◌, refl, sym, ap, ◌∙◌}
use mathlib.Core.Bool.{Bool, true, false}
use mathlib.Core.List.{List, [], ◌∷◌}
use native.Mathlib.Omega.{arith}
use native.Mathlib.Numerals.{add-one}
use native.Mathlib.Nat.{add-zero, add-suc}
use lib.ListN.{length, take, get_or}
use lib.Seq.{take-length}
use lib.Dec.{ltb}
use borrow.Author.Tests.{lt-ltb, le-ltb, ltb-true, ltb-false, eqb-true, eq-eqb}
use Rattle.scan.specs.First.{pick, first_from, first_to, first_of}
use Rattle.scan.specs.Bytes.{bytes, bytes_from, is_byte}
use Rattle.scan.proofs.Laws.{IsFirst, first, first_only}
use Rattle.name.specs.Split.{colon_at, has_colon, local_at, second_at, second_of}
use Rattle.name.specs.Second.{colons, IsSecond, SecondExactly}
use Rattle.std.specs.Prelude.{Some, None}
use Rattle.name.proofs.Split.{colon_first, local_place, no_colon, colon_inside, colon_outside, second_whole}

-- Counting up to a place, and on from there.

-- no colon up to j: none is counted
count_none : (s : List ℕ) (j : ℕ) → ((k : ℕ) → k < j → is_byte 58 (get_or s k 0) ≡ false) → colons (take j s) ≡ 0
unfolding colons
count_none s zero all = refl
count_none [] (suc j) all = refl
count_none (a ∷ s) (suc j) all = rw (all 0 (omega arith)) (count_none s j (λ k h. all (suc k) (omega arith)))

-- one place more
one_more : (t u : Bool) (n : ℕ) → ◌≡◌ {A = ℕ} (pick t (suc (pick u (suc n) n)) (pick u (suc n) n)) (pick u (suc (pick t (suc n) n)) (pick t (suc n) n))
one_more true true n = refl
one_more true false n = refl
one_more false true n = refl
one_more false false n = refl

count_suc : (s : List ℕ) (j : ℕ) → j < length s → colons (take (suc j) s) ≡ pick (is_byte 58 (get_or s j 0)) (suc (colons (take j s))) (colons (take j s))
unfolding colons
count_suc [] j h = absurd (omega arith)
count_suc (a ∷ s) zero h = refl
count_suc (a ∷ s) (suc j) h = rw (count_suc s j (omega arith)) (one_more (is_byte 58 a) (is_byte 58 (get_or s j 0)) (colons (take j s)))

grow : (t : Bool) (n : ℕ) → n ≤ pick t (suc n) n
grow true n = omega arith
grow false n = omega arith

module _ (name : List ℕ) where
  -- the colons before j
  count : ℕ → ℕ
  count j = colons (take j name)

  count_next : (j : ℕ) (t : Bool) → is_byte 58 (get_or name j 0) ≡ t → j < length name → count (suc j) ≡ pick t (suc (count j)) (count j)
  unfolding count
  count_next j t e h = count_suc name j h ∙ ap (λ (x : Bool). pick x (suc (colons (take j name))) (colons (take j name))) e

  count_whole : count (length name) ≡ colons name
  unfolding count
  count_whole = ap colons (take-length name)

  -- over places with no colon it stays, and it never falls
  count_stays : (d i : ℕ) → i + d ≤ length name → ((k : ℕ) → i ≤ k → k < i + d → is_byte 58 (get_or name k 0) ≡ false) → count (i + d) ≡ count i
  count_stays zero i h all = ap count (omega arith)
  count_stays (suc d) i h all =
      ap count (add-suc i d) ∙ count_next (i + d) false (all (i + d) (omega arith) (omega arith)) (omega arith)
      ∙ count_stays d i (omega arith) (λ k lo hi. all k lo (omega arith))

  count_grows : (d i : ℕ) → i + d ≤ length name → count i ≤ count (i + d)
  count_grows zero i h = rw (add-zero i) (omega arith)
  count_grows (suc d) i h =
      let n = count_next (i + d) (is_byte 58 (get_or name (i + d) 0)) refl (omega arith) in
      let g = grow (is_byte 58 (get_or name (i + d) 0)) (count (i + d)) in
      let r = count_grows d i (omega arith) in
      rw (add-suc i d) (omega arith)

  -- From here on there is a first colon, at a.
  module _ (a : ℕ) (is : a ≡ colon_at name) (l : a < length name) where
    at_first : count a ≡ 0
    unfolding count
    at_first = count_none name a (λ k h. (colon_first name).before k (omega arith) (omega arith))

    first_here : is_byte 58 (get_or name a 0) ≡ true
    first_here = rw is ((colon_first name).found (omega arith))

    past_first : count (suc a) ≡ 1
    past_first = count_next a true first_here l ∙ ap suc at_first

    -- what is told is the first colon behind it
    second_from : IsFirst (λ j. is_byte 58 (get_or name j 0)) (suc a) (length name) (second_at name)
    unfolding second_at
    second_from =
        let p : suc a ≡ local_at name = sym (add-one a) ∙ local_place name a is l in
        rw (← p) (first (is_byte 58) name (suc a) (omega arith))

    counted_one : (j : ℕ) → suc a ≤ j → j ≤ second_at name → count j ≡ 1
    counted_one j lo hi =
        let e : suc a + (j - suc a) ≡ j = omega arith in
        let i = second_from.inside in
        ap count (sym e) ∙ count_stays (j - suc a) (suc a) (omega arith) (λ k b c. second_from.before k b (omega arith)) ∙ past_first

  -- A name with no colon: what is told is the length, and nothing is counted.
  module _ (h : has_colon name ≡ false) where
    nothing_counted : (j : ℕ) → j ≤ length name → count j ≡ 0
    unfolding count
    nothing_counted j l = count_none name j (λ k b. no_colon name h k (omega arith))

    second_past : length name ≤ second_at name
    second_past = rw (second_whole name (colon_at name) refl (colon_outside name h)) (colon_outside name h)

  -- What is told where there is a second colon, and where there is none.
  told_at : second_at name < length name → second_of name ≡ Some (second_at name)
  unfolding second_of
  told_at l = rw (lt-ltb (second_at name) (length name) l)

  told_none : length name ≤ second_at name → second_of name ≡ None
  unfolding second_of
  told_none l = rw (le-ltb (second_at name) (length name) l)

  is_second : (j : ℕ) → j ≡ second_at name → j < length name → IsSecond name j
  unfolding is_byte count
  is_second j e l = by (has_colon name) refl where
    by : (t : Bool) → has_colon name ≡ t → IsSecond name j
    by true h =
        let f = second_from (colon_at name) refl (colon_inside name h) in
        record {
          inside = l;
          colon = eqb-true (get_or name j 0) 58 (rw e (f.found (omega arith)));
          before = counted_one (colon_at name) refl (colon_inside name h) j (omega (arith, f.ahead)) (omega arith);
        }
    by false h = absurd (omega (arith, second_past h))

  -- a second colon stands behind the first, and no other between them
  module _ (j : ℕ) (s : IsSecond name j) where
    some_colon : has_colon name ≡ true
    unfolding count
    some_colon = by (has_colon name) refl where
      by : (t : Bool) → has_colon name ≡ t → has_colon name ≡ true
      by true h = h
      by false h = absurd (omega (arith, nothing_counted h j (omega (arith, s.inside)), s.before))

    behind : colon_at name < j
    unfolding count
    behind = by (ltb (colon_at name) j) refl where
      by : (t : Bool) → ltb (colon_at name) j ≡ t → colon_at name < j
      by true h = ltb-true (colon_at name) j h
      by false h = absurd (omega (arith, count_none name j (λ k b. (colon_first name).before k (omega arith) (omega (arith, ltb-false (colon_at name) j h))), s.before))

    between : (k : ℕ) → suc (colon_at name) ≤ k → k < j → is_byte 58 (get_or name k 0) ≡ false
    unfolding count
    between k lo hi = by (is_byte 58 (get_or name k 0)) refl where
      by : (t : Bool) → is_byte 58 (get_or name k 0) ≡ t → is_byte 58 (get_or name k 0) ≡ false
      by true h =
          let i = s.inside in
          let p = past_first (colon_at name) refl (colon_inside name some_colon) in
          let g = count_grows (k - suc (colon_at name)) (suc (colon_at name)) (omega arith) in
          let e : suc (colon_at name) + (k - suc (colon_at name)) ≡ k = omega arith in
          let m = count_next k true h (omega arith) in
          let r = count_grows (j - suc k) (suc k) (omega arith) in
          let q : suc k + (j - suc k) ≡ j = omega arith in
          let g' = rw e at g in
          let r' = rw q at r in
          absurd (omega (arith, s.before))
      by false h = h

    second_there : second_at name ≡ j
    unfolding is_byte
    second_there =
        first_only (λ k. is_byte 58 (get_or name k 0)) (suc (colon_at name)) (length name) (second_at name) j
        (second_from (colon_at name) refl (colon_inside name some_colon))
        (record { ahead = behind; inside = omega (arith, s.inside); found = λ h. eq-eqb (get_or name j 0) 58 s.colon; before = between })

    tells_it : second_of name ≡ Some j
    tells_it =
        let e = second_there in
        let i = s.inside in
        told_at (omega arith) ∙ ap Some e

    two_counted : 2 ≤ colons name
    unfolding count is_byte
    two_counted =
        let i = s.inside in
        let m = count_next j true (eq-eqb (get_or name j 0) 58 s.colon) i in
        let r = count_grows (length name - suc j) (suc j) (omega arith) in
        let q : suc j + (length name - suc j) ≡ length name = omega arith in
        let r' = rw q at r in
        omega (arith, count_whole, s.before)

  told_there : (j : ℕ) (t : Bool) → ltb (second_at name) (length name) ≡ t → second_of name ≡ Some j → IsSecond name j
  told_there j true h e =
      let l = ltb-true (second_at name) (length name) h in
      let q : j ≡ second_at name = cc (told_at l) in
      is_second j q (omega arith)
  told_there j false h e = cc (told_none (ltb-false (second_at name) (length name) h))

  few_counted : length name ≤ second_at name → colons name < 2
  few_counted l = by (has_colon name) refl where
    by : (t : Bool) → has_colon name ≡ t → colons name < 2
    by true h =
        let i = colon_inside name h in
        omega (arith, counted_one (colon_at name) refl i (length name) (omega arith) l, count_whole)
    by false h = omega (arith, nothing_counted h (length name) (omega arith), count_whole)

  none_there : (t : Bool) → ltb (second_at name) (length name) ≡ t → second_of name ≡ None → colons name < 2
  none_there true h e = cc (told_at (ltb-true (second_at name) (length name) h))
  none_there false h e = few_counted (ltb-false (second_at name) (length name) h)

  too_few : (t : Bool) → ltb (second_at name) (length name) ≡ t → colons name < 2 → second_of name ≡ None
  too_few true h f = absurd (omega (arith, two_counted (second_at name) (is_second (second_at name) refl (ltb-true (second_at name) (length name) h))))
  too_few false h f = told_none (ltb-false (second_at name) (length name) h)

pub second_colon_exactly : (name : List ℕ) → SecondExactly name
second_colon_exactly name =
    let t = ltb (second_at name) (length name) in
    record { told = λ j. told_there name j t refl; tells = tells_it name; none = none_there name t refl; few = too_few name t refl }

-- Applied: `a:b:c` and `xmlns:a:b` have a second colon, which is told; `a:` has one colon and `a` none, and none is told.
pub second_instances : IsSecond (bytes "a:b:c") 3 × IsSecond (bytes "xmlns:a:b") 7 × (second_of (bytes "a::") ≡ Some 2) × (colons (bytes "a:") < 2) × (second_of (bytes "a") ≡ None)
unfolding colons second_of second_at local_at has_colon colon_at first_from first_to first_of is_byte bytes bytes_from
second_instances = (
  (second_colon_exactly (bytes "a:b:c")).told 3 refl,
  (second_colon_exactly (bytes "xmlns:a:b")).told 7 refl,
  (second_colon_exactly (bytes "a::")).tells 2 (record { inside = omega arith; colon = refl; before = refl }),
  (second_colon_exactly (bytes "a:")).none refl,
  (second_colon_exactly (bytes "a")).few (omega arith),
)
