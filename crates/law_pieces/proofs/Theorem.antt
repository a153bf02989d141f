-- The theorems over readers that were opened and then used, from what holds of each of them (`Going`).
use Prim.Native.Nat.{ℕ, zero, suc, ◌+◌, ◌-◌, ◌≤◌, ◌<◌}
use mathlib.Core.Path.{◌≡◌, refl, sym, ap, subst, ◌∙◌}
use mathlib.Core.Bool.{Bool, true, false, not, ◌&&◌, ◌||◌, true≢false, false≢true}
use mathlib.Core.List.{List, [], ◌∷◌, ◌++◌, append-nil, append_assoc}
use native.Mathlib.Omega.{arith}
use lib.ListN.{length, length-append}
use lib.Dec.{leb}
use borrow.Author.Tests.{leb-true, not-true}
use Rattle.std.specs.Prelude.{None, Some, Err, Option, Result, Ok}
use Rattle.tag_pieces.specs.declared.FeedError.TheVariants.{Finished}
use Rattle.tag_pieces.specs.declared.MoreKeys.{MoreKeys}
use Rattle.scan.specs.First.{pick}
use Rattle.scan.proofs.Bytes.{both}
use Rattle.tag_step.specs.Answer.{Answer}
use Rattle.tag_step.specs.declared.AttrError.TheVariants.{BadState}
use Rattle.tag_step.specs.declared.Step.{Step}
use Rattle.tag_step.specs.Next.{keys_of, leaves, next_of, opened}
use Rattle.tag_step.specs.Look.{look_next}
use Rattle.tag_step.specs.Run.{is_end, cons_unless, run_of, answers_of}
use Rattle.tag_step.proofs.Run.{run_whole}
use Rattle.tag_batch.specs.declared.Why.TheVariants.{AtEnd}
use Rattle.tag_phase.specs.Phase.{waits_on}
use Rattle.tag_pieces.specs.declared.Reader.{Reader}
use Rattle.tag_pieces.specs.declared.Take.{Take}
use Rattle.tag_pieces.specs.Reader.{hold, held_of, iterator_of, fed_of, grown_by, piece_in, feeding, finished_as, piece_of, finish_of, waits_for, moved, phase_after, take_of, opened_reader}
use Rattle.tag_takes.specs.Takes.{Takes, takes, takes_by, takes_of}
use Rattle.law_pieces.specs.Pieces.{Event, Piece, Finish, Ask, after, after_all, reached, told_of, pieces_of, no_piece, pieces_first, NotReady, AnswersExactly, LastByte, PiecesAgree, HeldWhole, PiecesWhole, TakeExactly, ReaderStaysGood}
use Rattle.law_pieces.proofs.Takes.{take_waits, take_answers, never_early, accepts}
use Rattle.law_pieces.proofs.Looks.{look_of_answer}
use Rattle.law_pieces.proofs.Going.{ready_no_end, Going, going_opened, held_length, going_good, held_grows, going_piece, going_finish, waits_is, ready, going_answered, going_ask, going_all}

-- each reader that events lead to
going : (o : ℕ) (html checks : Bool) (events : List Event) → Going o html checks (told_of events (opened_reader o html checks)) (reached o html checks events)
going o html checks events = going_all o html checks events [] (opened_reader o html checks) (going_opened o html checks)

-- two things that a take can give, told apart
gives_more : {a : Answer} → ◌≡◌ {A = Result (Option Answer) MoreKeys} (Ok (Some a)) (Ok None) → ⊥
gives_more e = let z : ◌≡◌ {A = ℕ} 0 1 = cc in omega arith

module _ (o : ℕ) (html checks : Bool) (told : List Answer) (r : Reader) (g : Going o html checks told r) where
  abbrev step : Step
  step = next_of (held_of r) (iterator_of r)

  waits_more : waits_for r ≡ true → (take_of r).taken ≡ Ok None
  waits_more w = ap (λ (t : Take). t.taken) (take_waits r (going_good o html checks told r g) w)

  goes_gives : waits_for r ≡ false → (take_of r).taken ≡ Ok (Some step.answer)
  goes_gives w = ap (λ (t : Take). t.taken) (take_answers r g.sized (going_good o html checks told r g) w)

  -- the phase says no more than the look
  waits_unready : waits_for r ≡ true → NotReady r
  waits_unready w =
      let b = both (not r.finished) (leb (length (held_of r)) (look_next (held_of r) (iterator_of r))) (sym (waits_is o html checks told r g) ∙ w) in
      record { unfinished = not-true r.finished b.0; looks = leb-true (length (held_of r)) (look_next (held_of r) (iterator_of r)) b.1 }

  exactly : AnswersExactly r
  unfolding is_end
  exactly =
      record {
        waits = never_early r (going_good o html checks told r g);
        more = λ e. more (waits_for r) refl e;
        gives = λ n. gives (waits_for r) refl n;
        end = λ e. end r.finished refl (waits_for r) refl e;
        keys = λ e. keys (waits_for r) refl e;
      } where
        more : (t : Bool) → waits_for r ≡ t → (take_of r).taken ≡ Ok None → NotReady r
        more true w e = waits_unready w
        more false w e = absurd (gives_more (sym (goes_gives w) ∙ e))

        gives : (t : Bool) → waits_for r ≡ t → (NotReady r → ⊥) → (take_of r).taken ≡ Ok (Some step.answer)
        gives true w n = absurd (n (waits_unready w))
        gives false w n = goes_gives w

        end : (f : Bool) → r.finished ≡ f → (t : Bool) → waits_for r ≡ t → (take_of r).taken ≡ Ok (Some None) → f ≡ true
        end true f t w e = refl
        end false f true w e = absurd (gives_more (sym e ∙ waits_more w))
        end false f false w e =
            let a = goes_gives w in
            let z : step.answer ≡ None = cc in
            absurd (true≢false (sym (ap is_end z) ∙ ready_no_end (held_of r) (iterator_of r) g.good (ready o html checks told r g w f)))

        keys : (t : Bool) → waits_for r ≡ t → (take_of r).taken ≡ Err (record {}) → ⊥
        keys true w e = let a = waits_more w in let z : ◌≡◌ {A = ℕ} 0 1 = cc in omega arith
        keys false w e = let a = goes_gives w in let z : ◌≡◌ {A = ℕ} 0 1 = cc in omega arith

  never_seven : (take_of r).taken ≡ Ok (Some (Some (Err BadState))) → ⊥
  unfolding LastByte
  never_seven = by (waits_for r) refl where
    by : (t : Bool) → waits_for r ≡ t → (take_of r).taken ≡ Ok (Some (Some (Err BadState))) → ⊥
    by true w e = gives_more (sym e ∙ waits_more w)
    by false w e =
        let a = goes_gives w in
        let z : step.answer ≡ Some (Err BadState) = cc in
        subst (LastByte (held_of r) (look_next (held_of r) (iterator_of r))) z (look_of_answer (held_of r) (iterator_of r) g.good)

pub take_exactly : TakeExactly
take_exactly o html checks events = exactly o html checks (told_of events (opened_reader o html checks)) (reached o html checks events) (going o html checks events)

pub reader_stays_good : ReaderStaysGood
reader_stays_good o html checks events =
    let told = told_of events (opened_reader o html checks) in
    let r = reached o html checks events in
    let g = going o html checks events in
    (going_good o html checks told r g, never_seven o html checks told r g)

-- After the finish.

finished_goes : (r : Reader) → r.finished ≡ true → waits_for r ≡ false
unfolding waits_for
finished_goes r f = by r.finished (waits_on (held_of r) r.html r.check_duplicates (keys_of (iterator_of r)) r.phase) (leb (length (held_of r)) (look_next (held_of r) (iterator_of r))) f where
  by : (t w l : Bool) → t ≡ true → (not t && (w || l)) ≡ false
  by true w l e = refl
  by false w l e = absurd (false≢true e)

-- an answer, and those after it
takes_by_lem : (a : Answer) (r : Reader) (rest : Takes) → (takes_by (Ok (Some a)) r rest).answers ≡ cons_unless (is_end a) a rest.answers
unfolding takes_by cons_unless
takes_by_lem a r rest = by (is_end a) where
  by : (t : Bool) → (pick t (takes [] r AtEnd) (takes (a ∷ rest.answers) rest.reader rest.why)).answers ≡ cons_unless t a rest.answers
  by true = refl
  by false = refl

-- Takes give the run of the iterator over what is held.
takes_run : (n o : ℕ) (html checks : Bool) (told : List Answer) (r : Reader) → Going o html checks told r → r.finished ≡ true → (takes_of n r).answers ≡ run_of n (held_of r) (iterator_of r)
unfolding takes_of run_of held_of next_of leaves
takes_run zero o html checks told r g f = refl
takes_run (suc n) o html checks told r g f =
    let w = finished_goes r f in
    let x = next_of (held_of r) (iterator_of r) in
    let left = moved r x.state r.held (phase_after x.answer r.phase) in
    rw (take_answers r g.sized (going_good o html checks told r g) w)
    (takes_by_lem x.answer left (takes_of n left)
    ∙ ap (cons_unless (is_end x.answer) x.answer) (takes_run n o html checks (told ++ cons_unless (is_end x.answer) x.answer []) left (going_answered o html checks told r g w) f))

-- what a finish leaves
finish_held : (r : Reader) → held_of (finish_of r).reader ≡ held_of r
unfolding finish_of finished_as held_of
finish_held r = by r.finished where
  by : (t : Bool) → held_of (pick t (feeding (Err Finished) r) (feeding (Ok tt) (finished_as r))).reader ≡ held_of r
  by true = refl
  by false = refl

finish_finished : (r : Reader) → (finish_of r).reader.finished ≡ true
unfolding finish_of finished_as
finish_finished r = by r.finished refl where
  by : (t : Bool) → r.finished ≡ t → (pick t (feeding (Err Finished) r) (feeding (Ok tt) (finished_as r))).reader.finished ≡ true
  by true e = e
  by false e = refl

-- all that is left to tell comes with room enough
takes_all : (n o : ℕ) (html checks : Bool) (told : List Answer) (r : Reader) → Going o html checks told r → r.finished ≡ true → length (held_of r) < n → told ++ (takes_of n r).answers ≡ answers_of (held_of r) (opened o html checks)
takes_all n o html checks told r g f h =
    let m : suc (length (held_of r)) + (n - suc (length (held_of r))) ≡ n = omega arith in
    let whole = rw m at (run_whole (n - suc (length (held_of r))) (held_of r) (iterator_of r) g.sized) in
    ap (λ (l : List Answer). told ++ l) (takes_run n o html checks told r g f ∙ whole)
    ∙ sym (rw (append-nil (held_of r)) at (g.agrees [] (λ _. refl)))

pub pieces_agree : PiecesAgree
pieces_agree o html checks events n h =
    let told = told_of events (opened_reader o html checks) in
    let r = reached o html checks events in
    let e = finish_held r in
    takes_all n o html checks told (finish_of r).reader (going_finish o html checks told r (going o html checks events)) (finish_finished r) (rw e h)
    ∙ ap (λ (s : List ℕ). answers_of s (opened o html checks)) e

-- What is held.

none_come : (events : List Event) → no_piece events ≡ true → pieces_of events ≡ []
unfolding no_piece pieces_of
none_come [] h = refl
none_come (Piece p ∷ es) h = absurd (false≢true h)
none_come (Finish ∷ es) h = none_come es h
none_come (Ask ∷ es) h = none_come es h

module _ (o : ℕ) (html checks : Bool) where
  -- a take changes nothing of it
  module _ (told : List Answer) (r : Reader) (g : Going o html checks told r) where
    ask_held : held_of (take_of r).reader ≡ held_of r
    unfolding held_of
    ask_held = by (waits_for r) refl where
      by : (t : Bool) → waits_for r ≡ t → held_of (take_of r).reader ≡ held_of r
      by true w = rw (take_waits r (going_good o html checks told r g) w)
      by false w = rw (take_answers r g.sized (going_good o html checks told r g) w)

    ask_finished : (take_of r).reader.finished ≡ r.finished
    ask_finished = by (waits_for r) refl where
      by : (t : Bool) → waits_for r ≡ t → (take_of r).reader.finished ≡ r.finished
      by true w = rw (take_waits r (going_good o html checks told r g) w)
      by false w = rw (take_answers r g.sized (going_good o html checks told r g) w)

    module _ (p : List ℕ) (f : r.finished ≡ false) (h : r.held + length p ≤ hold) where
      accepted : fed_of r.finished (length r.text) r.held (length p) ≡ Ok tt
      accepted = accepts r.finished (length r.text) r.held (length p) f h (omega (arith, g.text))

      piece_held : held_of (piece_of p r).reader ≡ held_of r ++ p
      unfolding piece_of piece_in grown_by held_of
      piece_held = rw accepted (held_grows o html checks told r g p h)

      piece_finished : (piece_of p r).reader.finished ≡ false
      unfolding piece_of
      piece_finished = f

  abbrev Gone : List Answer → Reader → Type 0
  Gone = Going o html checks

  held_stays : (events : List Event) (told : List Answer) (r : Reader) → Gone told r → no_piece events ≡ true → held_of (after_all events r) ≡ held_of r
  unfolding after_all after no_piece
  held_stays [] told r g h = refl
  held_stays (Piece p ∷ es) told r g h = absurd (false≢true h)
  held_stays (Finish ∷ es) told r g h = held_stays es told (finish_of r).reader (going_finish o html checks told r g) h ∙ finish_held r
  held_stays (Ask ∷ es) told r g h = held_stays es _ (take_of r).reader (going_ask o html checks told r g) h ∙ ask_held told r g

  held_all : (events : List Event) (told : List Answer) (r : Reader) → Gone told r → r.finished ≡ false → length (held_of r ++ pieces_of events) ≤ hold → pieces_first events ≡ true → held_of (after_all events r) ≡ held_of r ++ pieces_of events
  unfolding after_all after pieces_of pieces_first
  held_all [] told r g f h b = sym (append-nil (held_of r))
  held_all (Piece p ∷ es) told r g f h b =
      let l : r.held + length p ≤ hold = omega (arith, length-append (held_of r) (p ++ pieces_of es), length-append p (pieces_of es), held_length o html checks told r g) in
      let e = piece_held told r g p f l in
      let a = append_assoc (held_of r) p (pieces_of es) in
      held_all es told (piece_of p r).reader (going_piece o html checks told r g p) (piece_finished told r g p f l) (rw (e, a) h) b ∙ rw (e, a)
  held_all (Finish ∷ es) told r g f h b =
      held_stays es told (finish_of r).reader (going_finish o html checks told r g) b ∙ finish_held r ∙ rw (none_come es b) (sym (append-nil (held_of r)))
  held_all (Ask ∷ es) told r g f h b =
      let e = ask_held told r g in
      held_all es _ (take_of r).reader (going_ask o html checks told r g) (ask_finished told r g ∙ f) (rw e h) b ∙ rw e

pub held_whole : HeldWhole
unfolding opened_reader held_of
held_whole o html checks events h b = held_all o html checks events [] (opened_reader o html checks) (going_opened o html checks) refl h b

pub pieces_whole : PiecesWhole
pieces_whole o html checks events n h b l =
    let e = held_whole o html checks events h b in
    pieces_agree o html checks events n (rw e l) ∙ ap (λ (s : List ℕ). answers_of s (opened o html checks)) e
