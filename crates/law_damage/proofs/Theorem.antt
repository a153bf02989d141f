-- The damage theorem. A good state that reads on is followed by the simulation; one that has ended, or that 7 answers, has
-- nothing that could be struck.
use Prim.Native.Nat.{ℕ, ◌+◌, ◌-◌, ◌≤◌, ◌<◌}
use mathlib.Core.Path.{◌≡◌, refl, sym, ap, subst, ◌∙◌}
use mathlib.Core.Bool.{Bool, true, false}
use mathlib.Core.List.{List, [], ◌∷◌, map}
use native.Mathlib.Omega.{arith}
use lib.ListN.{length, length-replicate}
use lib.Seq.{ext_get_or}
use Rattle.std.proofs.Common.{Option, Some, None}
use Rattle.std.specs.Prelude.{Err}
use Rattle.scan.specs.Bytes.{part}
use Rattle.scan.proofs.Lists.{part_length, part_at}
use Rattle.tag_keys.specs.Keys.{capacity, KeysIn, table_good}
use Rattle.tag_keys.proofs.Laws.{in_table, keys_none}
use Rattle.tag_step.specs.declared.Place.{Place}
use Rattle.tag_step.specs.declared.Place.TheVariants.{Done, Next, SkipValue, SkipEqValue}
use Rattle.tag_step.specs.declared.AttrError.TheVariants.{BadState}
use Rattle.tag_step.specs.declared.IterState.{IterState}
use Rattle.tag_step.specs.declared.Step.{Step}
use Rattle.tag_step.specs.Read.{recover_of}
use Rattle.tag_step.specs.Next.{Keys, place_good, keys_of, state_good, bad_reading, leaves, next_of, no_keys, opened}
use Rattle.tag_step.specs.Run.{is_end, cons_unless, run_of, answers_of, run_from, answers_from}
use Rattle.tag_step.proofs.Whole.{StartIn, starts_in, next_bad}
use Rattle.tag_step.proofs.Good.{Sized, next_stays_good, next_sized}
use Rattle.tag_step.proofs.Run.{left, from_more, lent_resumes, run_lent_lem, answers_resume, run_ended}
use Rattle.law_damage.specs.Damage.{NoneRecorded, Marked, kept, struck, was, Cut, cuts, damaged, AllFit, added, taken_out, moved, move_answer, move_place, becomes, Apart, RunsStand, Hurt, DamageMoves}
use Rattle.law_damage.proofs.Recorded.{like_none}
use Rattle.law_damage.proofs.Step.{move_start, start_at, recover_move}
use Rattle.law_damage.proofs.Begin.{position, begins, good_move}
use Rattle.law_damage.proofs.Cuts.{quoted_good, apart_before, cuts_apart}
use Rattle.law_damage.proofs.Sim.{Rel, bound, window_of, bound_past, sim}
use Rattle.law_damage.proofs.Cutting.{rel_of, moved_before, taken_less, outside_before, rel_as}

-- the place where reading begins does not move
place_stays : (len o : ℕ) (cs : List Cut) (p : Place) → Apart len o cs → position p ≤ o → move_place (moved cs) p ≡ p
unfolding move_place
place_stays len o cs Done d h = refl
place_stays len o cs (Next x) d h = ap Next (moved_before len o x cs d h)
place_stays len o cs (SkipValue x) d h = ap SkipValue (moved_before len o x cs d h)
place_stays len o cs (SkipEqValue x) d h = ap SkipEqValue (moved_before len o x cs d h)

-- What holds of the cuts.

module _ (f : ℕ → ℕ) (s t : List ℕ) where
  runs_stand : (o : ℕ) (cs : List Cut) → Rel f s t o cs → RunsStand f t cs
  unfolding Rel RunsStand
  runs_stand o [] r = tt
  runs_stand o (c ∷ cs) r =
      let p = r.1 in
      let w = window_of f s t c.to cs r.2 in
      let l = part_length t (f c.at) (f c.at + length c.run) (omega arith) (omega (arith, p.size, w.inside')) in
      let n : length (part t (f c.at) (f c.at + length c.run)) ≡ length c.run = omega arith in
      (ext_get_or 0 _ _ n (λ i h. part_at t (f c.at) (f c.at + length c.run) i (omega arith) ∙ p.bytes i (omega arith)), runs_stand c.to cs r.2)

signed_by : (len o : ℕ) (cs : List Cut) → Apart len o cs → (p : ℕ) → moved cs p + taken_out cs p ≡ p + added cs p
unfolding moved
signed_by len o cs d p = omega (arith, taken_less len 0 p cs (apart_before len 0 o cs (omega arith) d) (omega arith))

-- Nothing is struck.

nothing_cut : (s : List ℕ) (st : IterState) (ms : List Marked) → cuts ms ≡ [] → ((f : ℕ → ℕ) → map (becomes f) ms ≡ map was ms)
    → map was ms ≡ answers_of s st → Hurt s st ms
unfolding Apart RunsStand damaged
nothing_cut s st ms d same e =
    record {
      answers = rw d (sym (same (moved []) ∙ e));
      signed = rw d (signed_by 0 0 [] tt);
      stands = rw d tt;
      apart = rw d tt;
      clear = λ f _. same f ∙ sym (same (moved (cuts ms)));
      begins = rw d (place_stays 0 (position st.place) [] st.place tt (omega arith));
    }

-- the state of these parts
abbrev state_of : Bool → Bool → Keys → Place → IterState
state_of html checks k p = record { place = p; html = html; check_duplicates = checks; starts = k.starts; ends = k.ends; hashes = k.hashes; count = k.count }

-- more budget than bytes changes nothing
run_whole : (n : ℕ) (s : List ℕ) (checks : Bool) (k : Keys) (x : Option ℕ) → StartIn (length s) x → length s ≤ n
    → run_from n s false checks k x ≡ answers_from s false checks k x
unfolding answers_from
run_whole n s checks k x i h =
    let e : length s + (n - length s) ≡ n = omega arith in
    rw e at (from_more (n - length s) (length s) s false checks k x i (most x)) where
      most : (x : Option ℕ) → left (length s) x ≤ length s
      most (Some o) = omega arith
      most None = omega arith

-- The three ways to begin.

module _ (s : List ℕ) (checks : Bool) (k : Keys) (p : Place) (ms : List Marked) (none : k.count ≡ 0) (starts : length k.starts ≡ capacity) (ends : length k.ends ≡ capacity) (hashes : length k.hashes ≡ capacity) where
  abbrev reader : IterState
  reader = state_of false checks k p

  sized : Sized reader
  sized = record { starts = starts; ends = ends; hashes = hashes }

  table : (t : List ℕ) → table_good t k.starts k.ends k.hashes k.count ≡ true
  table t = in_table t k.starts k.ends k.hashes k.count (subst (λ (n : ℕ). KeysIn k.starts k.ends k.hashes n t) (sym none) (keys_none k.starts k.ends k.hashes t))

  resumes : (t : List ℕ) → place_good t p ≡ true → answers_of t reader ≡ answers_from t false checks k (recover_of t p)
  unfolding state_good keys_of
  resumes t g = answers_resume t reader sized (rw (table t) g)

  -- reading goes on
  goes_on : (o : ℕ) → place_good s p ≡ true → recover_of s p ≡ Some o → map was ms ≡ answers_from s false checks k (Some o)
      → AllFit s (cuts ms) → Hurt s reader ms
  unfolding StartIn
  goes_on o g x e al =
      let f = moved (cuts ms) in
      let t = damaged s 0 (cuts ms) in
      let b = begins s o p g x in
      let in_s = starts_in s p o x in
      let n = length s + length t in
      let run-s = run_whole n s checks k (Some o) in_s (omega arith) in
      let d = cuts_apart n s checks k (Some o) ms in_s (e ∙ sym run-s) in
      let d₀ = apart_before (length s) 0 o (cuts ms) (omega arith) d in
      let w₀ = window_of f s t 0 (cuts ms) (rel_of s 0 (cuts ms) (omega arith) d₀) in
      let rel = rel_of s o (cuts ms) in_s d in
      let far = bound_past (length s) o (cuts ms) in_s d in
      let in_t = (window_of f s t o (cuts ms) rel).inside' in
      let stays = place_stays (length s) o (cuts ms) p d b.upto in
      let good : place_good t p ≡ true = ap (place_good t) (sym stays) ∙ good_move w₀ p (omega (arith, b.upto)) ∙ g in
      let goes : recover_of t p ≡ Some (f o) = ap (recover_of t) (sym stays) ∙ recover_move w₀ p b.within (subst (λ (y : Option ℕ). start_at (length s) y < bound (length s) (cuts ms)) (sym x) far) ∙ ap (move_start f) x in
      let said : (g : ℕ → ℕ) → Rel g s t o (cuts ms) → run_from n t false checks k (Some (g o)) ≡ map (becomes g) ms = λ g r. sim g s t checks n ms al k k o (like_none g s t k none starts ends) r (e ∙ sym run-s) in
      record {
        answers = resumes t good ∙ ap (answers_from t false checks k) goes ∙ sym (run_whole n t checks k (Some (f o)) in_t (omega arith)) ∙ said f rel;
        signed = signed_by (length s) o (cuts ms) d;
        stands = runs_stand f s t o (cuts ms) rel;
        apart = d₀;
        clear = λ g as-f.
            let same : g o ≡ f o = as-f o (outside_before (length s) o o (cuts ms) d (omega arith)) in
            sym (said g (rel_as f g s t o (cuts ms) in_s d (λ q _. as-f q) rel)) ∙ ap (λ (y : ℕ). run_from n t false checks k (Some y)) same ∙ said f rel;
        begins = stays;
      }

  -- reading has ended: there are no answers
  ended : map was ms ≡ [] → map was ms ≡ answers_of s reader → Hurt s reader ms
  unfolding cuts
  ended z e = by ms z e where
    by : (ms : List Marked) → map was ms ≡ [] → map was ms ≡ answers_of s reader → Hurt s reader ms
    by [] z e = nothing_cut s reader [] refl (λ f. refl) e
    by (m ∷ ms) z e = let y : ◌≡◌ {A = ℕ} 0 1 = cc in absurd (omega arith)

  -- 7 answers, and then there is no more
  bad_answers : place_good s p ≡ false → answers_of s reader ≡ Some (Err BadState) ∷ []
  unfolding answers_of run_of state_good leaves bad_reading is_end cons_unless recover_of
  bad_answers g =
      let e = next_bad s reader (rw (table s) g) in
      let y = (next_of s reader).state in
      let rest : run_of (length s) s y ≡ [] =
      run_lent_lem (length s) s y (next_sized s reader sized) (next_stays_good s reader sized)
      ∙ lent_resumes (length s) s y.html y.check_duplicates (keys_of y) y.place
      ∙ ap (λ (z : Step). run_from (length s) s y.html y.check_duplicates (keys_of y) (recover_of s z.state.place)) (sym e)
      ∙ run_ended (length s) s y.html y.check_duplicates (keys_of y) in
      rw rest (ap (λ (z : Step). cons_unless (is_end z.answer) z.answer []) (sym e))

  bad : place_good s p ≡ false → map was ms ≡ answers_of s reader → Hurt s reader ms
  unfolding cuts was becomes move_answer
  bad g e = by ms (e ∙ bad_answers g) e where
    by : (ms : List Marked) → map was ms ≡ Some (Err BadState) ∷ [] → map was ms ≡ answers_of s reader → Hurt s reader ms
    by [] z e = let y : ◌≡◌ {A = ℕ} 0 1 = cc in absurd (omega arith)
    by (kept a ∷ []) z e =
        let same : a ≡ Some (Err BadState) = cc in
        nothing_cut s reader (kept a ∷ []) refl (λ f. rw same) e
    by (struck q key value run ∷ []) z e = absurd (quoted_good q key value cc)
    by (m ∷ n ∷ ms) z e = let y : ◌≡◌ {A = ℕ} 0 1 = cc in absurd (omega arith)

  starts_from : (x : Option ℕ) → place_good s p ≡ true → recover_of s p ≡ x → map was ms ≡ answers_of s reader → AllFit s (cuts ms)
      → Hurt s reader ms
  unfolding answers_from
  starts_from (Some o) g x e al = goes_on o g x (e ∙ resumes s g ∙ ap (answers_from s false checks k) x) al
  starts_from None g x e al = ended (e ∙ resumes s g ∙ ap (answers_from s false checks k) x ∙ run_ended (length s) s false checks k) e

  moves : map was ms ≡ answers_of s reader → AllFit s (cuts ms) → Hurt s reader ms
  moves e al = by (place_good s p) refl where
    by : (b : Bool) → place_good s p ≡ b → Hurt s reader ms
    by true g = starts_from (recover_of s p) g refl e al
    by false g = bad g e

pub damage_moves : DamageMoves
unfolding keys_of
damage_moves s st ms h e al =
    let of : Bool → IterState = λ html. state_of html st.check_duplicates (keys_of st) st.place in
    let is : of false ≡ st = ap of (sym h.xml) in
    subst (λ (x : IterState). Hurt s x ms) is
    (moves s st.check_duplicates (keys_of st) st.place ms h.count h.starts h.ends h.hashes (e ∙ ap (answers_of s) (sym is)) al)

-- such a state: a reader that is opened anywhere
pub opened_none : (o : ℕ) (checks : Bool) → NoneRecorded (opened o false checks)
unfolding opened no_keys
opened_none o checks = record { xml = refl; count = refl; starts = length-replicate {A = ℕ} capacity 0; ends = length-replicate {A = ℕ} capacity 0; hashes = length-replicate {A = ℕ} capacity 0 }
