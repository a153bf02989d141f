-- One batch held against the recorded numbers: it decides, or leaves it to what is left of both.
use Prim.Native.Nat.{ℕ, suc, ◌+◌, ◌-◌, ◌*◌, ◌/◌, ◌≤◌, ◌<◌}
use mathlib.Core.Path.{◌≡◌, refl, sym, ap, ◌∙◌}
use mathlib.Core.Bool.{Bool, true, false, ◌&&◌}
use mathlib.Core.List.{List, [], ◌∷◌, ◌++◌, append-nil}
use native.Mathlib.Omega.{arith}
use lib.ListN.{length, take, drop, length-append, length-take, length-drop}
use lib.Seq.{drop-drop, take_all, take_at}
use lib.Dec.{eqb, leb, ltb}
use borrow.Author.Tests.{eq-eqb, ne_eqb, eqb-true, eqb-false, leb-true, leb-false, ltb-true, ltb-false}
use Rattle.scan.specs.Bytes.{same_bytes}
use Rattle.scan.proofs.Bytes.{same_length}
use Rattle.tag_step.specs.Answer.{Answer}
use Rattle.tag_step.specs.declared.IterState.{IterState}
use Rattle.tag_step.specs.Next.{next_of}
use Rattle.tag_step.specs.Run.{is_end, cons_unless, run_of, answers_of}
use Rattle.tag_step.proofs.Run.{run_whole}
use Rattle.tag_step.proofs.Good.{Sized}
use Rattle.scan.specs.Lists.{over}
use Rattle.scan.proofs.Lists.{over_length, to_end}
use Rattle.tag_batch.specs.Batch.{five_of, fives_of, left_of, answers_room}
use Rattle.lines.proofs.Batches.{stand_first, stand_last, fives_length, fives_append, run_most, run_full}
use Rattle.replay.specs.Numbers.{twos_of}
use Rattle.replay.proofs.Twos.{twos_length, twos_add}
use Rattle.replay_tags.specs.Replay.{answers_agree}

same_append : (a b c d : List ℕ) → length a ≡ length c → same_bytes (a ++ b) (c ++ d) ≡ (same_bytes a c && same_bytes b d)
unfolding same_bytes
same_append [] b [] d h = refl
same_append [] b (y ∷ c) d h = absurd (omega arith)
same_append (x ∷ a) b [] d h = absurd (omega arith)
same_append (x ∷ a) b (y ∷ c) d h = rw (same_append a b c d (omega arith)) (sym (and_assoc (eqb x y) (same_bytes a c) (same_bytes b d))) where
  and_assoc : (p q r : Bool) → ((p && q) && r) ≡ (p && (q && r))
  and_assoc true q r = refl
  and_assoc false q r = refl

-- the answers are those of one batch and those after it
answers_split : (s : List ℕ) (st : IterState) → Sized st → (m : ℕ) → length (run_of m s st) ≡ m → answers_of s st ≡ run_of m s st ++ answers_of s (left_of m s st)
unfolding answers_of
answers_split s st z m h =
    let e : suc (length s) + m ≡ m + suc (length s) = omega arith in
    sym (run_whole m s st z) ∙ rw e (run_full (suc (length s)) s m st h)

same_none : (l : List ℕ) → same_bytes [] (twos_of 0 l) ≡ true
unfolding same_bytes twos_of
same_none l = refl

record FrontOf (s : List ℕ) (st : IterState) (m : ℕ) : Type 0 where
  more : List Answer
  is : answers_of s st ≡ run_of m s st ++ more

module _ (s : List ℕ) (st : IterState) (z : Sized st) (m k : ℕ) (rest : List ℕ) where
  abbrev Front : Type 0
  Front = FrontOf s st m

  abbrev n : ℕ
  n = length (run_of m s st)

  abbrev same : Bool
  same = same_bytes (fives_of (run_of m s st)) (twos_of (5 * n) rest)

  -- a batch that is not full: all answers are in it
  module _ (few : n < m) where
    all : answers_of s st ≡ run_of m s st
    unfolding run_of
    all = stand_last s st 0 st (stand_first s st z) m few

  split : (more : List ℕ) → n ≤ k → fives_of (answers_of s st) ≡ fives_of (run_of m s st) ++ more → answers_agree s st k rest ≡ (same && same_bytes more (twos_of (5 * (k - n)) (drop (10 * n) rest)))
  unfolding answers_agree
  split more le e =
      let a : 5 * k ≡ 5 * n + 5 * (k - n) = omega arith in
      let d : 2 * (5 * n) ≡ 10 * n = omega arith in
      let t : twos_of (5 * k) rest ≡ twos_of (5 * n) rest ++ twos_of (5 * (k - n)) (drop (10 * n) rest) = rw (a, twos_add (5 * n) (5 * (k - n)) rest, d) in
      rw (e, t) (same_append (fives_of (run_of m s st)) more (twos_of (5 * n) rest) (twos_of (5 * (k - n)) (drop (10 * n) rest)) (fives_length (run_of m s st) ∙ sym (twos_length (5 * n) rest)))

  -- a batch is at the front of all answers
  fronts : (x : Bool) → leb m n ≡ x → Front
  fronts true e =
      let f : n ≡ m = omega (arith, run_most m s st, leb-true m n e) in
      record { more = answers_of s (left_of m s st); is = answers_split s st z m f }
  fronts false e = record { more = []; is = all (leb-false m n e) ∙ sym (append-nil (run_of m s st)) }

  front : Front
  front = fronts (leb m n) refl

  -- more answers than are recorded
  pub too_many : k < n → false ≡ answers_agree s st k rest
  unfolding answers_agree
  too_many h =
      let l = ap length front.is ∙ length-append (run_of m s st) front.more in
      sym (same_length (fives_of (answers_of s st)) (twos_of (5 * k) rest) (λ e. omega (arith, fives_length (answers_of s st), twos_length (5 * k) rest)))

  module _ (le : n ≤ k) where
    -- other numbers
    pub differs : same ≡ false → false ≡ answers_agree s st k rest
    differs e =
        let f = ap fives_of front.is ∙ fives_append (run_of m s st) front.more in
        sym (split (fives_of front.more) le f ∙ rw e)

    module _ (e : same ≡ true) where
      -- the last batch: how many answers there are decides
      pub last_is : n < m → eqb n k ≡ answers_agree s st k rest
      unfolding fives_of
      last_is few = sym (split [] le (ap fives_of (all few) ∙ sym (append-nil (fives_of (run_of m s st)))) ∙ rw e (nothing (eqb n k) refl)) where
        nothing : (x : Bool) → eqb n k ≡ x → same_bytes [] (twos_of (5 * (k - n)) (drop (10 * n) rest)) ≡ eqb n k
        nothing true h =
            let i = eqb-true n k h in
            let j : 5 * (k - n) ≡ 0 = omega arith in
            rw (h, j) (same_none (drop (10 * n) rest))
        nothing false h =
            let i = eqb-false n k h in
            rw h (same_length [] (twos_of (5 * (k - n)) (drop (10 * n) rest)) (λ q. i (omega (arith, twos_length (5 * (k - n)) (drop (10 * n) rest)))))

      -- a full batch: what is left decides
      pub goes_on : n ≡ m → answers_agree s st k rest ≡ answers_agree s (left_of m s st) (k - n) (drop (10 * n) rest)
      unfolding answers_agree
      goes_on f = split (fives_of (answers_of s (left_of m s st))) le (ap fives_of (answers_split s st z m f) ∙ fives_append (run_of m s st) (answers_of s (left_of m s st))) ∙ rw e

-- what the code compares is the batch and the recorded numbers from the place on
pub compared : (s : List ℕ) (st : IterState) (out rec : List ℕ) (at : ℕ) → {n : ℕ} {r : Bool} {written : List ℕ} → n ≡ length (run_of (answers_room out) s st) → written ≡ over out 0 (fives_of (run_of (answers_room out) s st)) → r ≡ same_bytes (take (5 * n) written) (twos_of (length (take (5 * n) written)) (take (length rec - at) (drop at rec))) → same_bytes (fives_of (run_of (answers_room out) s st)) (twos_of (5 * length (run_of (answers_room out) s st)) (drop at rec)) ≡ r
unfolding over
compared s st out rec at {n} {r} {written} en ew er =
    let l : List Answer = run_of (answers_room out) s st in
    let a : length (fives_of l) ≡ 5 * n = fives_length l ∙ ap (λ (k : ℕ). 5 * k) (sym en) in
    let t : take (5 * n) written ≡ fives_of l = ap (take (5 * n)) ew ∙ take_at (fives_of l) (drop (0 + length (fives_of l)) out) (5 * n) a in
    let d : take (length rec - at) (drop at rec) ≡ drop at rec = take_all (length rec - at) (drop at rec) (omega (arith, length-drop at rec)) in
    sym (er ∙ rw (t, d, fives_length l))

-- how full a batch is, as the code asks it
module _ (s : List ℕ) (st : IterState) (out written : List ℕ) {n : ℕ} (e : n ≡ length (run_of (answers_room out) s st)) (w : written ≡ over out 0 (fives_of (run_of (answers_room out) s st))) where
  size : length written ≡ length out
  unfolding answers_room
  size = ap length w ∙ over_length out 0 (fives_of (run_of (length out / 5) s st)) (omega (arith, fives_length (run_of (length out / 5) s st), run_most (length out / 5) s st))

  pub few : n < length written / 5 → length (run_of (answers_room out) s st) < answers_room out
  unfolding answers_room
  few h = omega (arith, size)

  pub filled : length written / 5 ≤ n → length (run_of (answers_room out) s st) ≡ answers_room out
  unfolding answers_room
  filled h = omega (arith, size, run_most (length out / 5) s st)

  pub in_room : 5 * n ≤ length written
  unfolding answers_room
  in_room = omega (arith, size, run_most (length out / 5) s st)

pub enough : (rec written : List ℕ) (total n answers : ℕ) → n ≤ answers - total → total ≤ answers → 10 * answers ≤ length rec → 2 * length (take (5 * n) written) ≤ length (take (length rec - 10 * total) (drop (10 * total) rec))
enough rec written total n answers a b h = omega (arith, length-take (5 * n) written, length-take (length rec - 10 * total) (drop (10 * total) rec), length-drop (10 * total) rec)

pub room_some : (out first : List ℕ) → length out ≡ length first → 5 ≤ length first → 0 < answers_room out
unfolding answers_room
room_some out first e h = omega arith

pub count_same : (total n answers : ℕ) {m : ℕ} → n ≡ m → total ≤ answers → eqb (total + n) answers ≡ eqb m (answers - total)
count_same total n answers {m} e h = by (eqb m (answers - total)) refl where
  by : (t : Bool) → eqb m (answers - total) ≡ t → eqb (total + n) answers ≡ eqb m (answers - total)
  by true q = eq-eqb (total + n) answers (omega (arith, eqb-true m (answers - total) q)) ∙ sym q
  by false q = ne_eqb (total + n) answers (λ z. eqb-false m (answers - total) q (omega arith)) ∙ sym q

pub rest_on : (s : List ℕ) (st : IterState) (answers total n : ℕ) (rec : List ℕ) → answers_agree s st (answers - total - n) (drop (10 * n) (drop (10 * total) rec)) ≡ answers_agree s st (answers - (total + n)) (drop (10 * (total + n)) rec)
rest_on s st answers total n rec =
    let a : answers - total - n ≡ answers - (total + n) = omega arith in
    let b : 10 * total + 10 * n ≡ 10 * (total + n) = omega arith in
    rw (drop-drop (10 * n) (10 * total) rec, a, b)

-- One answer after another: an answer that is not the end is a batch of one.
module _ (s : List ℕ) (st : IterState) (z : Sized st) (k : ℕ) (rest : List ℕ) where
  abbrev answer : Answer
  answer = (next_of s st).answer

  one : is_end answer ≡ false → run_of 1 s st ≡ answer ∷ []
  unfolding run_of cons_unless
  one e = rw e

  none : is_end answer ≡ true → run_of 1 s st ≡ []
  unfolding run_of cons_unless
  none e = rw e

  -- the end: how many are recorded decides
  pub ends_at : is_end answer ≡ true → eqb 0 k ≡ answers_agree s st k rest
  unfolding fives_of
  ends_at e =
      let l : length (run_of 1 s st) ≡ 0 = ap length (none e) in
      let b : same_bytes (fives_of (run_of 1 s st)) (twos_of (5 * length (run_of 1 s st)) rest) ≡ true = rw (none e) (same_none rest) in
      rw (← l) (last_is s st z 1 k rest (omega arith) b (omega arith))

  module _ (e : is_end answer ≡ false) where
    size_one : length (run_of 1 s st) ≡ 1
    size_one = ap length (one e)

    five_one : fives_of (run_of 1 s st) ≡ five_of answer
    unfolding fives_of
    five_one = rw (one e) (append-nil (five_of answer))

    pub one_too_many : k ≡ 0 → false ≡ answers_agree s st k rest
    one_too_many h = too_many s st z 1 k rest (omega (arith, size_one))

    module _ (h : 0 < k) {b : Bool} (same : b ≡ same_bytes (five_of answer) (twos_of 5 rest)) where
      same_one : same_bytes (fives_of (run_of 1 s st)) (twos_of (5 * length (run_of 1 s st)) rest) ≡ b
      same_one =
          let f : 5 * length (run_of 1 s st) ≡ 5 = omega (arith, size_one) in
          rw (f, five_one) (sym same)

      pub one_differs : b ≡ false → false ≡ answers_agree s st k rest
      one_differs q = differs s st z 1 k rest (omega (arith, size_one)) (same_one ∙ q)

      pub one_on : b ≡ true → answers_agree s st k rest ≡ answers_agree s (next_of s st).state (k - 1) (drop 10 rest)
      unfolding left_of
      one_on q =
          let g = goes_on s st z 1 k rest (omega (arith, size_one)) (same_one ∙ q) size_one in
          let t : 10 * length (run_of 1 s st) ≡ 10 = omega (arith, size_one) in
          g ∙ rw (e, t, size_one)

-- how many are left, as the code asks it
pub count_none : (total answers : ℕ) → total ≤ answers → eqb total answers ≡ eqb 0 (answers - total)
count_none total answers h =
    let e : total + 0 ≡ total = omega arith in
    ap (λ (t : ℕ). eqb t answers) (sym e) ∙ count_same total 0 answers refl h

pub left_some : (total answers : ℕ) → total ≤ answers → (total ≡ answers → ⊥) → 0 < answers - total
left_some total answers h n = by (ltb total answers) refl where
  by : (t : Bool) → ltb total answers ≡ t → 0 < answers - total
  by true e = omega (arith, ltb-true total answers e)
  by false e = absurd (n (omega (arith, h, ltb-false total answers e)))

-- what the code compares
pub same_as : (five rec : List ℕ) (total : ℕ) {b : Bool} {ns : List ℕ} → ns ≡ five → b ≡ same_bytes ns (twos_of 5 (take (length rec - 10 * total) (drop (10 * total) rec))) → b ≡ same_bytes five (twos_of 5 (drop (10 * total) rec))
same_as five rec total e h = h ∙ rw (e, to_end (10 * total) rec)

pub one_there : (rec : List ℕ) (total answers : ℕ) → 0 < answers - total → 10 * answers ≤ length rec → 10 ≤ length (take (length rec - 10 * total) (drop (10 * total) rec))
one_there rec total answers h w = omega (arith, length-take (length rec - 10 * total) (drop (10 * total) rec), length-drop (10 * total) rec)
