-- The ways in which a batch comes back, each as what its contract says: tables that are too long, no room, refusal 7, and the
-- batch of a good state.
use Prim.Native.Nat.{ℕ, zero, suc, ◌-◌, ◌≤◌, ◌<◌}
use mathlib.Core.Path.{◌≡◌, refl, sym, ◌∙◌}
use mathlib.Core.Bool.{Bool, true, false}
use mathlib.Core.List.{List, [], append-nil}
use native.Mathlib.Omega.{arith}
use lib.ListN.{length, replicate, length-replicate}
use lib.Dec.{ltb, leb}
use borrow.Author.Tests.{le-leb, lt-ltb, le-ltb, leb-true}
use Rattle.std.specs.Prelude.{None, Some, Err}
use Rattle.scan.specs.First.{pick}
use Rattle.scan.specs.Lists.{over}
use Rattle.scan.proofs.Lists.{over_none}
use Rattle.scan.proofs.Bytes.{both}
use Rattle.tag_keys.specs.Keys.{capacity}
use Rattle.tag_keys.proofs.Laws.{in_table, keys_none}
use Rattle.tag_step.specs.declared.Place.TheVariants.{Done}
use Rattle.tag_step.specs.declared.AttrError.TheVariants.{BadState}
use Rattle.tag_step.specs.declared.IterState.{IterState}
use Rattle.tag_step.specs.Read.{found, recover_of}
use Rattle.tag_step.specs.Next.{reading, keys_lent, place_good, state_good, step_of, step_from, keys_of, lent_state}
use Rattle.tag_step.specs.Run.{is_end}
use Rattle.tag_step.proofs.Lent.{bad_answer, bad_needs, bad_leaves, good_answer, good_needs, good_leaves}
use Rattle.tag_batch.specs.declared.Why.{Why}
use Rattle.tag_batch.specs.declared.Why.TheVariants.{OutFull, AtEnd}
use Rattle.tag_batch.specs.Batch.{five_of, fives_of, ran, ahead, ran_of, tables_lent, answers_room, batched, batch_shown, read_of, batch_of, read}

module _ (s : List ℕ) (st : IterState) (out : List ℕ) where
  -- Tables of more places than there can be keys.

  pub long_tables : tables_lent st ≡ false → batched (Err (record {})) st.starts st.ends st.hashes out ≡ batch_of s st out
  unfolding batch_of
  long_tables h = rw h

  module _ (fit : tables_lent st ≡ true) where
    pub tables_fit : (length st.starts ≤ capacity) × (length st.ends ≤ capacity) × (length st.hashes ≤ capacity)
    unfolding tables_lent
    tables_fit =
        let p = both (leb (length st.starts) capacity) _ fit in
        let q = both (leb (length st.ends) capacity) _ p.1 in
        (leb-true _ _ p.0, leb-true _ _ q.0, leb-true _ _ q.1)

    -- Others are read.

    pub lent_read : read_of s st out ≡ batch_of s st out
    unfolding batch_of
    lent_read = rw fit

    -- An output that holds no answer: nothing is written and nothing moves.

    room_zero : length out < 5 → answers_room out ≡ 0
    unfolding answers_room
    room_zero h = omega arith

    pub read_none : length out < 5 → batched (read 0 st.place st.count OutFull) st.starts st.ends st.hashes out ≡ batch_of s st out
    unfolding read_of batch_shown ran_of fives_of
    read_none h = sym (sym lent_read ∙ rw (room_zero h, over_none out 0))

-- From done nothing moves.

module _ (s : List ℕ) (html checks : Bool) (starts ends hashes : List ℕ) (ls : length starts ≤ capacity) (le : length ends ≤ capacity) (lh : length hashes ≤ capacity) where
  abbrev ended : IterState
  ended = lent_state Done html checks starts ends hashes 0

  ended_good : state_good s ended ≡ true
  unfolding state_good place_good
  ended_good = rw (in_table s starts ends hashes 0 (keys_none starts ends hashes s))

  ended_step : reading (found None Done) (keys_lent starts ends hashes 0) ≡ step_of s html checks (keys_of ended) Done
  unfolding step_of step_from recover_of keys_of
  ended_step = refl

  pub ended_ran : (n : ℕ) → ran_of (suc n) s ended ≡ ran [] ended AtEnd
  unfolding ran_of is_end
  ended_ran n =
      let x = reading (found None Done) (keys_lent starts ends hashes 0) in
      rw (good_needs s ended ls le lh ended_good x ended_step, le-leb 0 (length starts) (omega arith), le-leb 0 (length ends) (omega arith), le-leb 0 (length hashes) (omega arith), good_answer s ended ls le lh ended_good x ended_step, good_leaves s ended ls le lh ended_good x ended_step)

-- Refusal 7: one answer, and no recorded keys; then the end.

module _ (s : List ℕ) (st : IterState) (out : List ℕ) (fit : tables_lent st ≡ true) (bad : state_good s st ≡ false) (some : 5 ≤ length out) where
  ls : length st.starts ≤ capacity
  ls = (tables_fit s st out fit).0

  le : length st.ends ≤ capacity
  le = (tables_fit s st out fit).1

  lh : length st.hashes ≤ capacity
  lh = (tables_fit s st out fit).2

  abbrev after : IterState
  after = lent_state Done st.html st.check_duplicates (replicate (length st.starts) 0) (replicate (length st.ends) 0) (replicate (length st.hashes) 0) 0

  bad_ran : (n : ℕ) → ran_of (suc n) s st ≡ ahead (Some (Err BadState)) (ran_of n s after)
  unfolding ran_of is_end
  bad_ran n = rw (bad_needs s st ls le lh bad, bad_answer s st ls le lh bad, bad_leaves s st ls le lh bad)

  short : length (replicate {A = ℕ} (length st.starts) 0) ≤ capacity
  short = omega (arith, ls, length-replicate {A = ℕ} (length st.starts) 0)

  short_ends : length (replicate {A = ℕ} (length st.ends) 0) ≤ capacity
  short_ends = omega (arith, le, length-replicate {A = ℕ} (length st.ends) 0)

  short_hashes : length (replicate {A = ℕ} (length st.hashes) 0) ≤ capacity
  short_hashes = omega (arith, lh, length-replicate {A = ℕ} (length st.hashes) 0)

  rest : (n : ℕ) → answers_room out ≡ suc n → ran_of n s after ≡ ran [] after (pick (ltb (length out) 10) OutFull AtEnd)
  unfolding answers_room ran_of
  rest zero h = rw (lt-ltb (length out) 10 (omega arith))
  rest (suc n) h = ended_ran s st.html st.check_duplicates (replicate (length st.starts) 0) (replicate (length st.ends) 0) (replicate (length st.hashes) 0) short short_ends short_hashes n ∙ rw (le-ltb (length out) 10 (omega arith))

  room_some : answers_room out ≡ suc (answers_room out - 1)
  unfolding answers_room
  room_some = omega arith

  bad_is : (n : ℕ) → answers_room out ≡ suc n → read_of s st out ≡ batched (read 1 Done 0 (pick (ltb (length out) 10) OutFull AtEnd)) (replicate (length st.starts) 0) (replicate (length st.ends) 0) (replicate (length st.hashes) 0) (over out 0 (five_of (Some (Err BadState))))
  unfolding read_of batch_shown fives_of
  bad_is n e = rw (e, bad_ran n, rest n e, append-nil (five_of (Some (Err BadState))))

  pub read_bad : (starts ends hashes out' : List ℕ) (why : Why) → starts ≡ replicate (length st.starts) 0 → ends ≡ replicate (length st.ends) 0 → hashes ≡ replicate (length st.hashes) 0 → out' ≡ over out 0 (five_of (Some (Err BadState))) → why ≡ pick (ltb (length out') 10) OutFull AtEnd → length out' ≡ length out → batched (read 1 Done 0 why) starts ends hashes out' ≡ batch_of s st out
  read_bad starts ends hashes out' why es ee eh eo ew size =
      rw (es, ee, eh, ew, size, eo) (sym (sym (lent_read s st out fit) ∙ bad_is (answers_room out - 1) room_some))
