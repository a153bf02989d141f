-- Batches one after another: each goes on where the last one stopped, so together they are the whole run.
use Prim.Native.Nat.{ℕ, zero, suc, ◌+◌, ◌-◌, ◌*◌, ◌/◌, ◌≤◌, ◌<◌}
use mathlib.Core.Path.{◌≡◌, refl, sym, ap, ◌∙◌}
use mathlib.Core.Bool.{Bool, true, false}
use mathlib.Core.List.{List, [], ◌∷◌, ◌++◌, append_assoc}
use native.Mathlib.Nat.{suc-add, add_assoc}
use native.Mathlib.Omega.{arith}
use lib.ListN.{length, take, drop, length-append}
use lib.Seq.{take_at}
use lib.Dec.{leb}
use borrow.Author.Tests.{leb-true, leb-false}
use Rattle.std.specs.Prelude.{Result, Ok, Err}
use Rattle.scan.specs.First.{pick}
use Rattle.scan.specs.Lists.{over}
use Rattle.scan.proofs.Lists.{over_length}
use Rattle.tag_step.specs.Answer.{Answer}
use Rattle.tag_step.specs.declared.Place.{Place}
use Rattle.tag_step.specs.declared.IterState.{IterState}
use Rattle.tag_step.specs.Next.{next_of, leaves, lent_state}
use Rattle.tag_step.specs.Lent.{whole_next, needs_more, stepped_of}
use Rattle.tag_step.specs.Run.{is_end, cons_unless, run_of, answers_of}
use Rattle.tag_step.proofs.Run.{cons_most, run_whole}
use Rattle.tag_step.proofs.Good.{Sized, next_sized}
use Rattle.tag_batch.specs.declared.BatchRead.{BatchRead}
use Rattle.tag_batch.specs.declared.WrongTables.{WrongTables}
use Rattle.tag_batch.specs.declared.Why.TheVariants.{AtEnd, LendMore}
use Rattle.tag_batch.specs.Batch.{five_of, fives_of, left_of, Ran, ran, ahead, ran_of, tables_lent, answers_room, read, Batched, batched, batch_shown, read_of, batch_of}
use Rattle.tag_batch.proofs.Turns.{five_length}
use Rattle.tag_batch.proofs.Full.{full_batch}
use Rattle.lines.specs.Page.{answers_count}

-- A run of n answers.

pub run_most : (n : ℕ) (s : List ℕ) (st : IterState) → length (run_of n s st) ≤ n
unfolding run_of
run_most zero s st = omega arith
run_most (suc n) s st = cons_most n (is_end (next_of s st).answer) (next_of s st).answer (run_of n s (next_of s st).state) (run_most n s (next_of s st).state)

-- a run that has all its answers goes on from the state that it leaves
module _ (k : ℕ) (s : List ℕ) where
  full_cons : (n : ℕ) (t : Bool) (a : Answer) (after : IterState) → length (cons_unless t a (run_of n s after)) ≡ suc n → (length (run_of n s after) ≡ n → run_of (n + k) s after ≡ run_of n s after ++ run_of k s (left_of n s after)) → cons_unless t a (run_of (n + k) s after) ≡ cons_unless t a (run_of n s after) ++ run_of k s (pick t after (left_of n s after))
  unfolding cons_unless
  full_cons n true a after h f = absurd (omega arith)
  full_cons n false a after h f = rw (f (omega arith))

  pub run_full : (n : ℕ) (st : IterState) → length (run_of n s st) ≡ n → run_of (n + k) s st ≡ run_of n s st ++ run_of k s (left_of n s st)
  unfolding run_of left_of
  run_full zero st h =
      let e : 0 + k ≡ k = omega arith in
      rw e
  run_full (suc n) st h = rw suc-add (full_cons n (is_end (next_of s st).answer) (next_of s st).answer (next_of s st).state h (run_full n (next_of s st).state))

  -- a run that has fewer is the whole run
  short_cons : (n : ℕ) (t : Bool) (a : Answer) (after : IterState) → length (cons_unless t a (run_of n s after)) < suc n → (length (run_of n s after) < n → run_of (n + k) s after ≡ run_of n s after) → cons_unless t a (run_of (n + k) s after) ≡ cons_unless t a (run_of n s after)
  unfolding cons_unless
  short_cons n true a after h f = refl
  short_cons n false a after h f = rw (f (omega arith))

  pub run_short : (n : ℕ) (st : IterState) → length (run_of n s st) < n → run_of (n + k) s st ≡ run_of n s st
  unfolding run_of
  run_short zero st h = absurd (omega arith)
  run_short (suc n) st h = rw suc-add (short_cons n (is_end (next_of s st).answer) (next_of s st).answer (next_of s st).state h (run_short n (next_of s st).state))

one_sized : (t : Bool) (x y : IterState) → Sized x → Sized y → Sized (pick t x y)
one_sized true x y a b = a
one_sized false x y a b = b

pub left_sized : (n : ℕ) (s : List ℕ) (st : IterState) → Sized st → Sized (left_of n s st)
unfolding left_of
left_sized zero s st z = z
left_sized (suc n) s st z =
    let y = next_sized s st z in
    one_sized (is_end (next_of s st).answer) (next_of s st).state (left_of n s (next_of s st).state) y (left_sized n s (next_of s st).state y)

-- no run has more answers than bytes and one
pub run_bound : (n : ℕ) (s : List ℕ) (st : IterState) → Sized st → length (run_of n s st) ≤ suc (length s)
unfolding answers_of
run_bound n s st z = by (leb n (suc (length s))) refl where
  by : (t : Bool) → leb n (suc (length s)) ≡ t → length (run_of n s st) ≤ suc (length s)
  by true e = omega (arith, run_most n s st, leb-true n (suc (length s)) e)
  by false e =
      let l = leb-false n (suc (length s)) e in
      let d : suc (length s) + (n - suc (length s)) ≡ n = omega arith in
      let w = rw d at (run_whole (n - suc (length s)) s st z) in
      rw w (run_most (suc (length s)) s st)

-- After `n` answers of the run from `first` a reader stands at `st`.
pub record Stand (s : List ℕ) (first : IterState) (n : ℕ) (st : IterState) : Type 0 where
  pub begun : Sized first
  pub sized : Sized st
  pub many : length (run_of n s first) ≡ n
  pub on : (k : ℕ) → run_of (n + k) s first ≡ run_of n s first ++ run_of k s st

pub stand_first : (s : List ℕ) (st : IterState) → Sized st → Stand s st 0 st
unfolding run_of
stand_first s st z = record { begun = z; sized = z; many = refl; on = λ k. (let e : 0 + k ≡ k = omega arith in rw e) }

module _ (s : List ℕ) (first : IterState) (n : ℕ) (st : IterState) (a : Stand s first n st) (m : ℕ) where
  -- a full batch
  pub stand_next : length (run_of m s st) ≡ m → Stand s first (n + m) (left_of m s st)
  stand_next h =
      record {
        begun = a.begun;
        sized = left_sized m s st a.sized;
        many = rw (a.on m) (omega (arith, length-append (run_of n s first) (run_of m s st), a.many));
        on = λ k. rw (add_assoc n m k, a.on (m + k), run_full k s m st h, a.on m) (sym (append_assoc (run_of n s first) (run_of m s st) (run_of k s (left_of m s st))));
      }

  -- one that is not full is the last
  pub stand_last : length (run_of m s st) < m → answers_of s first ≡ run_of n s first ++ run_of m s st
  stand_last h =
      let few : length (run_of (n + m) s first) < n + m = rw (a.on m) (omega (arith, length-append (run_of n s first) (run_of m s st), a.many)) in
      let e : n + m + suc (length s) ≡ suc (length s) + (n + m) = omega arith in
      sym (run_whole (n + m) s first a.begun) ∙ rw (sym e) (run_short (suc (length s)) s (n + m) first few ∙ a.on m)

  pub stand_bound : n ≤ suc (length s)
  stand_bound = omega (arith, run_bound n s first a.begun, a.many)

-- The numbers of answers.

pub fives_length : (l : List Answer) → length (fives_of l) ≡ 5 * length l
unfolding fives_of
fives_length [] = refl
fives_length (a ∷ l) = omega (arith, length-append (five_of a) (fives_of l), five_length a, fives_length l)

pub fives_append : (l m : List Answer) → fives_of (l ++ m) ≡ fives_of l ++ fives_of m
unfolding fives_of
fives_append [] m = refl
fives_append (a ∷ l) m = rw (fives_append l m) (sym (append_assoc (five_of a) (fives_of l) (fives_of m)))

-- What `read_batch` says, of any tables.

ran_by : (p q : Bool) (n : ℕ) (a : Answer) (st after : IterState) (x : Ran) → length x.answers ≤ n → length (pick p (ran [] st LendMore) (pick q (ran [] after AtEnd) (ahead a x))).answers ≤ suc n
ran_by true q n a st after x h = omega arith
ran_by false true n a st after x h = omega arith
ran_by false false n a st after x h = omega arith

ran_most : (n : ℕ) (s : List ℕ) (st : IterState) → length (ran_of n s st).answers ≤ n
unfolding ran_of
ran_most zero s st = omega arith
ran_most (suc n) s st = ran_by (needs_more s st) (is_end (whole_next s st).answer) n (whole_next s st).answer st (stepped_of s st) (ran_of n s (stepped_of s st)) (ran_most n s (stepped_of s st))

module _ (s : List ℕ) (st : IterState) (out : List ℕ) where
  read_fits : 5 * length (ran_of (answers_room out) s st).answers ≤ length out
  unfolding answers_room
  read_fits = omega (arith, ran_most (length out / 5) s st)

  -- the output keeps its length, and has room for what was written
  pub batch_sizes : (length (batch_of s st out).out ≡ length out) × (5 * answers_count (batch_of s st out).batch ≤ length out)
  unfolding batch_of read_of batch_shown
  batch_sizes = by (tables_lent st) where
    by : (t : Bool) → (length (pick t (read_of s st out) (batched (Err (record {})) st.starts st.ends st.hashes out)).out ≡ length out) × (5 * answers_count (pick t (read_of s st out) (batched (Err (record {})) st.starts st.ends st.hashes out)).batch ≤ length out)
    by true = (over_length out 0 (fives_of (ran_of (answers_room out) s st).answers) (omega (arith, read_fits, fives_length (ran_of (answers_room out) s st).answers)), read_fits)
    by false = (refl, omega arith)

-- The mode and the checks stay.

modes : (n : ℕ) (s : List ℕ) (st : IterState) → ((left_of n s st).html ≡ st.html) × ((left_of n s st).check_duplicates ≡ st.check_duplicates)
unfolding left_of next_of leaves
modes zero s st = (refl, refl)
modes (suc n) s st = modes_of (is_end (next_of s st).answer) st (next_of s st).state (left_of n s (next_of s st).state) refl refl (modes n s (next_of s st).state) where
  modes_of : (t : Bool) (st x y : IterState) → x.html ≡ st.html → x.check_duplicates ≡ st.check_duplicates → (y.html ≡ x.html) × (y.check_duplicates ≡ x.check_duplicates) → ((pick t x y).html ≡ st.html) × ((pick t x y).check_duplicates ≡ st.check_duplicates)
  modes_of true st x y a b c = (a, b)
  modes_of false st x y a b c = (c.0 ∙ a, c.1 ∙ b)

state_is : (x : IterState) {place : Place} {html checks : Bool} {starts ends hashes : List ℕ} {count : ℕ} → place ≡ x.place → html ≡ x.html → checks ≡ x.check_duplicates → starts ≡ x.starts → ends ≡ x.ends → hashes ≡ x.hashes → count ≡ x.count → lent_state place html checks starts ends hashes count ≡ x
state_is x a b c d e f g = rw (a, b, c, d, e, f, g)

-- What a caller has after a batch on its own tables.
module _ (s : List ℕ) (place : Place) (html checks : Bool) (starts ends hashes : List ℕ) (count : ℕ) (out : List ℕ) where
  abbrev stood : IterState
  stood = lent_state place html checks starts ends hashes count

  module _ (z : Sized stood) {b : Result BatchRead WrongTables} {starts' ends' hashes' written : List ℕ} (e : batched b starts' ends' hashes' written ≡ batch_of s stood out) where
    -- all that it has, for full tables
    is : batched b starts' ends' hashes' written ≡ batched (read (length (run_of (answers_room out) s stood)) (left_of (answers_room out) s stood).place (left_of (answers_room out) s stood).count (ran_of (answers_room out) s stood).why) (left_of (answers_room out) s stood).starts (left_of (answers_room out) s stood).ends (left_of (answers_room out) s stood).hashes (over out 0 (fives_of (run_of (answers_room out) s stood)))
    is = e ∙ full_batch s stood out z

    pub never_wrong : b ≡ Err (record {}) → ⊥
    never_wrong w =
        let f = ap (λ (x : Batched). x.batch) is in
        let x : ◌≡◌ {A = ℕ} 0 1 = cc in
        omega arith

    pub read_text : written ≡ over out 0 (fives_of (run_of (answers_room out) s stood))
    read_text = ap (λ (x : Batched). x.out) is

    module _ {x : BatchRead} (r : b ≡ Ok x) where
      same : x ≡ record {
        answers = length (run_of (answers_room out) s stood);
        place = (left_of (answers_room out) s stood).place;
        count = (left_of (answers_room out) s stood).count;
        why = (ran_of (answers_room out) s stood).why;
      }
      same =
          let f = ap (λ (x : Batched). x.batch) is in
          cc

      pub read_count : x.answers ≡ length (run_of (answers_room out) s stood)
      read_count = ap (λ (y : BatchRead). y.answers) same

      pub read_left : lent_state x.place html checks starts' ends' hashes' x.count ≡ left_of (answers_room out) s stood
      read_left =
          let m = modes (answers_room out) s stood in
          state_is (left_of (answers_room out) s stood) (ap (λ (y : BatchRead). y.place) same) (sym m.0) (sym m.1) (ap (λ (x : Batched). x.starts) is) (ap (λ (x : Batched). x.ends) is) (ap (λ (x : Batched). x.hashes) is) (ap (λ (y : BatchRead). y.count) same)

      pub read_front : take (5 * x.answers) written ≡ fives_of (run_of (answers_room out) s stood)
      unfolding over
      read_front =
          let l : List Answer = run_of (answers_room out) s stood in
          let a : length (fives_of l) ≡ 5 * x.answers = fives_length l ∙ ap (λ (k : ℕ). 5 * k) (sym read_count) in
          ap (take (5 * x.answers)) read_text ∙ take_at (fives_of l) (drop (0 + length (fives_of l)) out) (5 * x.answers) a
