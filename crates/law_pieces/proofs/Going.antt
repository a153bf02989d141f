-- What holds of every reader that was opened and then used, by induction over what was done to it: its iterator is good on what is
-- held, its phase is true, and for each tag that begins with what is held the answers are what was told and what its
-- iterator still has to tell. A step that looks at no more than what is held is the step on that tag (`next_stable`).
use Prim.Native.Nat.{ℕ, suc, ◌+◌, ◌≤◌, ◌<◌}
use mathlib.Core.Path.{◌≡◌, refl, sym, ap, subst, ◌∙◌}
use mathlib.Core.Bool.{Bool, true, false, not, ◌&&◌, ◌||◌, true≢false, false≢true}
use mathlib.Core.List.{List, [], ◌∷◌, ◌++◌, append-nil, append_assoc}
use native.Mathlib.Omega.{arith}
use lib.ListN.{length, get_or, take, length-append, length-replicate, get_or-append}
use lib.Seq.{length-take-le, take-length, take-append_seam}
use lib.Dec.{eqb, ltb, leb}
use borrow.Author.Tests.{lt-ltb, le-leb, leb-false, ltb-true}
use Rattle.std.specs.Prelude.{None, Some}
use Rattle.scan.specs.First.{pick}
use Rattle.scan.specs.Lists.{over}
use Rattle.scan.proofs.Bytes.{both}
use Rattle.scan.proofs.Lists.{over_length, take_over}
use Rattle.tag_keys.specs.Keys.{KeysIn, table_good}
use Rattle.tag_keys.proofs.Laws.{in_table, keys_longer}
use Rattle.tag_step.specs.declared.Place.{Place}
use Rattle.tag_step.specs.declared.Place.TheVariants.{Done, Next, SkipValue, SkipEqValue}
use Rattle.tag_step.specs.Answer.{Answer}
use Rattle.tag_step.specs.declared.IterState.{IterState}
use Rattle.tag_step.specs.declared.Step.{Step}
use Rattle.tag_step.specs.Read.{is_at}
use Rattle.tag_step.specs.Next.{keys_of, place_good, state_good, no_keys, leaves, next_of, opened}
use Rattle.tag_step.specs.Look.{look_next}
use Rattle.tag_step.specs.Run.{is_end, cons_unless, run_of, answers_of}
use Rattle.tag_step.proofs.Good.{Sized, sized_inside, next_stays_good, next_sized, opened_sized, opened_good}
use Rattle.tag_step.proofs.Run.{run_whole}
use Rattle.tag_phase.specs.Phase.{carried_of, waits_on}
use Rattle.tag_phase.specs.Truth.{True, unknown}
use Rattle.tag_phase.proofs.Truth.{carry_true, true_looks}
use Rattle.tag_pieces.specs.declared.Reader.{Reader}
use Rattle.std.specs.Prelude.{Result, Ok, Err}
use Rattle.tag_pieces.specs.declared.FeedError.{FeedError}
use Rattle.tag_pieces.specs.declared.FeedError.TheVariants.{Finished}
use Rattle.tag_pieces.specs.Reader.{hold, held_of, iterator_of, fed_of, grown_by, piece_in, fed_with, feeding, finished_as, piece_of, finish_of, reader_good, waits_for, moved, phase_after, take_of, opened_reader}
use Rattle.law_damage.proofs.Stable.{next_stable, grown}
use Rattle.law_steps.specs.Steps.{EndStays}
use Rattle.law_steps.proofs.Steps.{end_stays}
use Rattle.law_pieces.specs.Pieces.{Event, Piece, Finish, Ask, after, after_all, told_by, told_at, told_of, LastByte}
use Rattle.law_pieces.proofs.Takes.{take_waits, take_answers, fed_accepted}
use Rattle.law_pieces.proofs.Looks.{look_of_answer}

-- An iterator over a tag that grows.

place_grows : (s u : List ℕ) (place : Place) → place_good s place ≡ true → place_good (s ++ u) place ≡ true
unfolding place_good is_at
place_grows s u Done g = refl
place_grows s u (Next o) g = refl
place_grows s u (SkipValue o) g =
    let l = ltb-true o (length s) g in
    lt-ltb o (length (s ++ u)) (omega (arith, length-append s u))
place_grows s u (SkipEqValue o) g =
    let b = both (ltb o (length s)) (eqb (get_or s o 0) 61) g in
    let l = ltb-true o (length s) b.0 in
    rw (lt-ltb o (length (s ++ u)) (omega (arith, length-append s u)), get_or-append s u 0 o l) b.1

module _ (s : List ℕ) (st : IterState) (sized : Sized st) (good : state_good s st ≡ true) where
  pub place_good_lem : place_good s st.place ≡ true
  unfolding state_good
  place_good_lem = (both (table_good s st.starts st.ends st.hashes st.count) (place_good s st.place) good).1

  module _ (u : List ℕ) where
    keys_grow : KeysIn st.starts st.ends st.hashes st.count (s ++ u)
    keys_grow =
        keys_longer st.starts st.ends st.hashes st.count s (s ++ u) (omega (arith, length-append s u)) (take-length s ∙ sym (take-append_seam s u))
        (sized_inside s st sized good)

    pub good_grows : state_good (s ++ u) st ≡ true
    unfolding state_good
    good_grows = rw (in_table (s ++ u) st.starts st.ends st.hashes st.count keys_grow) (place_grows s u st.place place_good_lem)

    -- a step that looks at no more than s
    pub step_grows : look_next s st < length s → next_of (s ++ u) st ≡ next_of s st
    step_grows l =
        next_stable s (s ++ u) (length s) st (grown s u)
        (record { keys = rw (take-length s) (sized_inside s st sized good); place = place_good_lem }) l

-- the end, and no other answer
is_end_lem : (a : Answer) → is_end a ≡ true → a ≡ None
unfolding is_end
is_end_lem None e = refl
is_end_lem (Some x) e = absurd (false≢true e)

-- A step that looks at no more than what is held is not the end.
pub ready_no_end : (s : List ℕ) (st : IterState) → state_good s st ≡ true → look_next s st < length s → is_end (next_of s st).answer ≡ false
unfolding LastByte
ready_no_end s st good l = by (is_end (next_of s st).answer) refl where
  by : (t : Bool) → is_end (next_of s st).answer ≡ t → is_end (next_of s st).answer ≡ false
  by false e = e
  by true e =
      let h : length s ≤ look_next s st = subst (LastByte s (look_next s st)) (is_end_lem (next_of s st).answer e) (look_of_answer s st good) in
      absurd (omega arith)

-- All answers are the first one, unless that is the end, and those after it.
module _ (s : List ℕ) (st : IterState) (sized : Sized st) where
  first_then : answers_of s st ≡ cons_unless (is_end (next_of s st).answer) (next_of s st).answer (answers_of s (next_of s st).state)
  unfolding answers_of run_of
  first_then =
      let e : suc (length s) + 1 ≡ suc (suc (length s)) = omega arith in
      sym (rw e at (run_whole 1 s st sized))

  none_at_end : is_end (next_of s st).answer ≡ true → answers_of s st ≡ []
  unfolding cons_unless
  none_at_end e = first_then ∙ rw e

pub answers_step : (s : List ℕ) (st : IterState) → Sized st → answers_of s st ≡ cons_unless (is_end (next_of s st).answer) (next_of s st).answer [] ++ answers_of s (next_of s st).state
unfolding cons_unless EndStays
answers_step s st sized = by (is_end (next_of s st).answer) refl where
  by : (t : Bool) → is_end (next_of s st).answer ≡ t → answers_of s st ≡ cons_unless t (next_of s st).answer [] ++ answers_of s (next_of s st).state
  by true e =
      let same = end_stays s st (is_end_lem (next_of s st).answer e) in
      none_at_end s st sized e ∙ sym (none_at_end s (next_of s st).state (next_sized s st sized) (ap (λ (x : Step). is_end x.answer) same ∙ e))
  by false e = first_then s st sized ∙ rw e

-- A reader that was opened so, and used, and has told so much.
pub record Going (o : ℕ) (html checks : Bool) (told : List Answer) (r : Reader) : Type 0 where
  pub text : length r.text ≡ hold
  pub room : r.held ≤ hold
  pub sized : Sized (iterator_of r)
  pub good : state_good (held_of r) (iterator_of r) ≡ true
  -- After the finish the phase is not read.
  pub phase : r.finished ≡ false → True (held_of r) r.place r.phase
  -- While the tag is not finished any bytes may follow.
  pub agrees : (u : List ℕ) → (r.finished ≡ true → u ≡ []) → answers_of (held_of r ++ u) (opened o html checks) ≡ told ++ answers_of (held_of r ++ u) (iterator_of r)

-- A new reader.
pub going_opened : (o : ℕ) (html checks : Bool) → Going o html checks [] (opened_reader o html checks)
unfolding opened_reader opened held_of no_keys
going_opened o html checks =
    record {
      text = length-replicate {A = ℕ} hold 0;
      room = omega arith;
      sized = opened_sized o html checks;
      good = opened_good [] o html checks;
      phase = λ _. unknown refl;
      agrees = λ u _. refl;
    }

module _ (o : ℕ) (html checks : Bool) (told : List Answer) (r : Reader) (g : Going o html checks told r) where
  pub held_length : length (held_of r) ≡ r.held
  unfolding held_of
  held_length = length-take-le r.held r.text (omega (arith, g.text, g.room))

  pub going_good : reader_good r ≡ true
  unfolding reader_good
  going_good = rw (le-leb r.held (length r.text) (omega (arith, g.text, g.room))) g.good

  -- A piece.
  module _ (p : List ℕ) where
    abbrev fed : Result (Unit {0}) FeedError → Reader
    fed f = (fed_with r (grown_by f r.text r.held r.place r.phase p)).reader

    pub held_grows : r.held + length p ≤ hold → take (r.held + length p) (over r.text r.held p) ≡ held_of r ++ p
    unfolding held_of
    held_grows h = take_over r.text r.held p (omega (arith, g.text))

    module _ (f : r.finished ≡ false) where
      phase_grows : True (held_of r ++ p) r.place (carried_of (held_of r ++ p) r.held r.place r.phase)
      phase_grows =
          subst (λ (n : ℕ). True (held_of r ++ p) r.place (carried_of (held_of r ++ p) n r.place r.phase)) held_length
          (carry_true (held_of r) p r.place r.phase (place_good_lem (held_of r) (iterator_of r) g.sized g.good) (g.phase f))

      agrees_grown : (u : List ℕ) → answers_of (held_of r ++ p ++ u) (opened o html checks) ≡ told ++ answers_of (held_of r ++ p ++ u) (iterator_of r)
      agrees_grown u = rw (append_assoc (held_of r) p u) (g.agrees (p ++ u) (λ e. absurd (false≢true (sym f ∙ e))))

      going_accepted : r.held + length p ≤ hold → Going o html checks told (fed (Ok tt))
      unfolding grown_by held_of
      going_accepted h =
          record {
            text = over_length r.text r.held p (omega (arith, g.text)) ∙ g.text;
            room = h;
            sized = g.sized;
            good = rw (held_grows h) (good_grows (held_of r) (iterator_of r) g.sized g.good p);
            phase = λ _. rw (held_grows h) phase_grows;
            agrees = λ u _. rw (held_grows h) (agrees_grown u);
          }

    pub going_piece : Going o html checks told (piece_of p r).reader
    unfolding piece_of piece_in grown_by
    going_piece = by (fed_of r.finished (length r.text) r.held (length p)) refl where
      by : (f : Result (Unit {0}) FeedError) → fed_of r.finished (length r.text) r.held (length p) ≡ f → Going o html checks told (fed f)
      by (Ok u) e =
          let a = fed_accepted (length r.text) r.held (length p) r.finished e in
          going_accepted a.0 a.1
      by (Err x) e = g

  -- A finish.
  going_ends : Going o html checks told (finished_as r)
  unfolding finished_as held_of
  going_ends =
      record {
        text = g.text;
        room = g.room;
        sized = g.sized;
        good = g.good;
        phase = λ e. absurd (true≢false e);
        agrees = λ u n. g.agrees u (λ _. n refl);
      }

  pub going_finish : Going o html checks told (finish_of r).reader
  unfolding finish_of
  going_finish = by r.finished where
    by : (t : Bool) → Going o html checks told (pick t (feeding (Err Finished) r) (feeding (Ok tt) (finished_as r))).reader
    by true = g
    by false = going_ends

-- A take.

-- a phase that waits only where the step looks past what is held says nothing of its own
phase_adds_none : (finished phase looks : Bool) → (finished ≡ false → phase ≡ true → looks ≡ true) → (not finished && (phase || looks)) ≡ (not finished && looks)
phase_adds_none true phase looks h = refl
phase_adds_none false true looks h = sym (h refl refl)
phase_adds_none false false looks h = refl

module _ (o : ℕ) (html checks : Bool) (told : List Answer) (r : Reader) (g : Going o html checks told r) where
  abbrev step : Step
  step = next_of (held_of r) (iterator_of r)

  -- whether the step looks at or past the end of what is held
  abbrev looks : Bool
  looks = leb (length (held_of r)) (look_next (held_of r) (iterator_of r))

  pub waits_is : waits_for r ≡ (not r.finished && looks)
  unfolding waits_for
  waits_is =
      phase_adds_none r.finished (waits_on (held_of r) r.html r.check_duplicates (keys_of (iterator_of r)) r.phase) looks
      (λ f w. le-leb (length (held_of r)) (look_next (held_of r) (iterator_of r)) (true_looks (held_of r) r.html r.check_duplicates (keys_of (iterator_of r)) r.place r.phase (g.phase f) w))

  module _ (w : waits_for r ≡ false) where
    pub ready : r.finished ≡ false → look_next (held_of r) (iterator_of r) < length (held_of r)
    unfolding held_of
    ready f =
        let e : looks ≡ false = rw f at (sym waits_is ∙ w) in
        leb-false (length (held_of r)) (look_next (held_of r) (iterator_of r)) e

    -- the step on each tag that may still come
    same_step : (u : List ℕ) → (r.finished ≡ true → u ≡ []) → next_of (held_of r ++ u) (iterator_of r) ≡ step
    same_step u n = by r.finished refl where
      by : (t : Bool) → r.finished ≡ t → next_of (held_of r ++ u) (iterator_of r) ≡ step
      by true f = rw (n f, append-nil (held_of r))
      by false f = step_grows (held_of r) (iterator_of r) g.sized g.good u (ready f)

    agrees_after : (u : List ℕ) → (r.finished ≡ true → u ≡ []) → answers_of (held_of r ++ u) (opened o html checks) ≡ (told ++ cons_unless (is_end step.answer) step.answer []) ++ answers_of (held_of r ++ u) step.state
    agrees_after u n =
        g.agrees u n
        ∙ ap (λ (l : List Answer). told ++ l) (rw (same_step u n) at (answers_step (held_of r ++ u) (iterator_of r) g.sized))
        ∙ sym (append_assoc told (cons_unless (is_end step.answer) step.answer []) (answers_of (held_of r ++ u) step.state))

    pub going_answered : Going o html checks (told ++ cons_unless (is_end step.answer) step.answer []) (moved r step.state r.held (phase_after step.answer r.phase))
    unfolding held_of next_of leaves
    going_answered =
        record {
          text = g.text;
          room = g.room;
          sized = next_sized (held_of r) (iterator_of r) g.sized;
          good = next_stays_good (held_of r) (iterator_of r) g.sized;
          phase = λ f. unknown (rw (ready_no_end (held_of r) (iterator_of r) g.good (ready f)));
          agrees = agrees_after;
        }

  pub going_ask : Going o html checks (told ++ told_by (take_of r).taken) (take_of r).reader
  unfolding told_by
  going_ask = by (waits_for r) refl where
    by : (t : Bool) → waits_for r ≡ t → Going o html checks (told ++ told_by (take_of r).taken) (take_of r).reader
    by true w = rw (take_waits r (going_good o html checks told r g) w, append-nil told) g
    by false w = rw (take_answers r g.sized (going_good o html checks told r g) w) (going_answered w)

-- Any event, and any number of them.

pub going_after : (o : ℕ) (html checks : Bool) (told : List Answer) (r : Reader) (e : Event) → Going o html checks told r → Going o html checks (told ++ told_at e r) (after e r)
unfolding after told_at
going_after o html checks told r (Piece p) g = rw (append-nil told) (going_piece o html checks told r g p)
going_after o html checks told r Finish g = rw (append-nil told) (going_finish o html checks told r g)
going_after o html checks told r Ask g = going_ask o html checks told r g

pub going_all : (o : ℕ) (html checks : Bool) (events : List Event) (told : List Answer) (r : Reader) → Going o html checks told r → Going o html checks (told ++ told_of events r) (after_all events r)
unfolding after_all told_of
going_all o html checks [] told r g = rw (append-nil told) g
going_all o html checks (e ∷ es) told r g =
    subst (λ (l : List Answer). Going o html checks l (after_all es (after e r))) (append_assoc told (told_at e r) (told_of es (after e r)))
    (going_all o html checks es (told ++ told_at e r) (after e r) (going_after o html checks told r e g))
