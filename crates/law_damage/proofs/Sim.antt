-- The simulation: a tag and the same with the cuts made, read side by side. Before the next cut both readers take the same
-- steps; at a cut the one answers the quoted value and the other its run, and both go on at the whitespace after it.
use Prim.Native.Nat.{ℕ, zero, suc, ◌+◌, ◌-◌, ◌≤◌, ◌<◌}
use mathlib.Core.Path.{◌≡◌, refl, sym, ap, subst, ◌∙◌}
use mathlib.Core.Bool.{Bool, true, false}
use mathlib.Core.List.{List, [], ◌∷◌, map}
use native.Mathlib.Omega.{arith}
use lib.ListN.{length, get_or}
use lib.Dec.{ltb}
use borrow.Author.Tests.{ltb-false}
use Rattle.std.proofs.Common.{Option, Some, None}
use Rattle.std.specs.Prelude.{Ok, Err}
use Rattle.scan.specs.First.{first_from, pick}
use Rattle.scan.specs.Bytes.{is_space, not_space}
use Rattle.scan.proofs.Laws.{first, first_only, past}
use Rattle.scan.proofs.Move.{Window, lt_back, f_suc, narrow, scan_to}
use Rattle.tag_step.specs.declared.Span.{Span}
use Rattle.tag_step.specs.declared.Place.TheVariants.{SkipValue}
use Rattle.tag_step.specs.Answer.{Answer}
use Rattle.tag_step.specs.declared.Attr.TheVariants.{DoubleQ, SingleQ, Unquoted, Empty}
use Rattle.tag_step.specs.declared.AttrError.TheVariants.{ExpectedEq, ExpectedValue, UnquotedValue, ExpectedQuote, Duplicated, KeyTableFull, BadState}
use Rattle.tag_step.specs.Read.{found, is_quote, skip_to, skip_of, recover_of, quoted, closed_of, value_at}
use Rattle.tag_step.specs.Next.{Keys, Reading, reading, check_of, kept_by, valued_by, valued_to, valued_of, read_key, read_at}
use Rattle.tag_step.specs.Run.{is_end, cons_unless, run_from}
use Rattle.tag_step.proofs.Paths.{next_from, value_bad}
use Rattle.tag_step.proofs.Whole.{StartIn, recover_in}
use Rattle.tag_step.proofs.Progress.{StartPast, read_forward}
use Rattle.tag_step.proofs.Run.{run_end, run_ended}
use Rattle.law_damage.specs.Damage.{Marked, kept, struck, was, Cut, whole_value, cuts, Fits, AllFit, move_span, move_answer, becomes, Apart}
use Rattle.law_damage.proofs.Recorded.{KeysLike, move_checked}
use Rattle.law_damage.proofs.Step.{move_start, start_at, after_in, key_move, recover_move, ReadLike, checks_move, keeps_move, read_move, read_stops}
use Rattle.law_damage.proofs.Cuts.{Closed, closed_order, read_cut, next_start, next_keys, uncons, cut_closed, ApartStart, none_apart, read_past, cuts_apart}

-- the run of a cut stands in t
pub record Put (f : ℕ → ℕ) (t : List ℕ) (c : Cut) : Type 0 where
  pub size : f c.to ≡ f c.at + length c.run
  pub bytes : (j : ℕ) → j < length c.run → get_or t (f c.at + j) 0 ≡ get_or c.run j 0

-- from o on, t is s with the cuts made, and f moves the positions between them
unfoldable pub Rel : (ℕ → ℕ) → List ℕ → List ℕ → ℕ → List Cut → Type 0
Rel f s t o [] = Window f s t o (suc (length s))
Rel f s t o (c ∷ cs) = Window f s t o c.at × Put f t c × Rel f s t c.to cs

-- how far nothing is cut
unfoldable pub bound : ℕ → List Cut → ℕ
bound len [] = suc len
bound len (c ∷ cs) = c.at

module _ (f : ℕ → ℕ) (s t : List ℕ) where
  pub window_of : (o : ℕ) (cs : List Cut) → Rel f s t o cs → Window f s t o (bound (length s) cs)
  unfolding Rel bound
  window_of o [] r = r
  window_of o (c ∷ cs) r = r.0

  -- reading has moved on to w, before the next cut
  pub advance : (o w : ℕ) (cs : List Cut) → o ≤ w → w ≤ length s → Apart (length s) w cs → Rel f s t o cs → Rel f s t w cs
  unfolding Rel Apart
  advance o w [] a h d r = narrow r w a (omega arith) h
  advance o w (c ∷ cs) a h d r = (narrow r.0 w a (omega (arith, d.0)) h, r.1, r.2)

pub bound_past : (len o : ℕ) (cs : List Cut) → o ≤ len → Apart len o cs → o < bound len cs
unfolding bound Apart
bound_past len o [] h d = omega arith
bound_past len o (c ∷ cs) h d = d.0

pub bound_start : (len : ℕ) (x : Option ℕ) (cs : List Cut) → StartIn len x → ApartStart len x cs → start_at len x < bound len cs
unfolding bound StartIn
bound_start len (Some w) cs i d = bound_past len w cs i d
bound_start len None cs i d = rw d (omega arith)

not_space_lem : (b : ℕ) → is_space b ≡ false → not_space b ≡ true
unfolding not_space
not_space_lem b h = rw h

abbrev cut_at : ℕ → ℕ → List ℕ → Cut
cut_at v e r = record { at = v; to = e + 1; run = r }

-- the damaged step
module _ {f : ℕ → ℕ} {s t : List ℕ} {o : ℕ} {checks : Bool} {ks kt : Keys} {key : Span} {eq v e m : ℕ} {r : List ℕ}
    (like : KeysLike f s t ks kt) (cl : Closed s checks ks o key eq v e) (w : Window f s t o v) (put : Put f t (cut_at v e r)) (fits : Fits s (cut_at v e r))
    (w₂ : Window f s t (e + 1) m) (far : e + 1 < m) where
  head : get_or t (f v) 0 ≡ get_or r 0 0
  head = let z : f v + 0 ≡ f v = omega arith in subst (λ (x : ℕ). get_or t x 0 ≡ get_or r 0 0) z (put.bytes 0 fits.run.some)

  v_found : f v ≡ first_from not_space t (f eq + 1)
  v_found =
      let ord = closed_order cl in
      let l = cl.eq_in in
      let g = first not_space s (eq + 1) (omega arith) in
      sym (ap (first_from not_space t) (sym (f_suc w eq (omega arith) (omega arith)))
      ∙ scan_to w not_space (eq + 1) v (omega arith) (omega arith) (omega arith) (omega (arith, cl.v_in)) (λ k lo hi. g.before k lo (omega (arith, cl.here)))
      (λ _. not_space_lem _ (ap is_space head ∙ fits.run.solid 0 fits.run.some)))

  in_t : f v < length t
  in_t = omega (arith, put.size, fits.run.some, w₂.inside')

  value_hurt : found (Some (Err (UnquotedValue (f v)))) (SkipValue (f v)) ≡ value_at t false (move_span f key) (f eq)
  value_hurt = value_bad t false (move_span f key) (f eq) (f v) v_found in_t (ap is_quote head ∙ fits.run.plain) refl

  -- the keys that the step leaves
  hurt_keys : Keys
  hurt_keys = kept_by t checks kt (move_span f key) (move_checked f (check_of s checks ks key))

  keys_hurt : KeysLike f s t (kept_by s checks ks key (check_of s checks ks key)) hurt_keys
  unfolding hurt_keys
  keys_hurt = keeps_move w checks key eq cl.key_by (omega (arith, (closed_order cl).1)) like

  read_hurt : read_at t false checks kt (f o) ≡ reading (found (Some (Err (UnquotedValue (f v)))) (SkipValue (f v))) hurt_keys
  unfolding hurt_keys read_at read_key valued_of valued_to valued_by
  read_hurt =
      let at : eq < v = (closed_order cl).1 in
      rw (key_move w (rw cl.read at), cl.read, checks_move w checks key eq cl.key_by at like.names, cl.fresh, sym value_hurt)

  -- the skip from the run stops after it
  skip_hurt : first_from is_space t (f v) ≡ f (e + 1)
  skip_hurt =
      first_only (λ j. is_space (get_or t j 0)) (f v) (length t) (first_from is_space t (f v)) (f (e + 1)) (first is_space t (f v) (omega (arith, in_t)))
      (record {
        ahead = omega (arith, put.size);
        inside = w₂.inside';
        found = λ l. ap is_space (sym (w₂.same (e + 1) (omega arith) far).byte) ∙ fits.after (lt_back w₂ (e + 1) (omega arith) far l);
        before = λ k lo hi.
            let j = k - f v in
            let z : f v + j ≡ k = omega arith in
            subst (λ (x : ℕ). is_space (get_or t x 0) ≡ false) z (ap is_space (put.bytes j (omega (arith, put.size))) ∙ fits.run.solid j (omega (arith, put.size)));
      })

  recover_hurt : recover_of t (SkipValue (f v)) ≡ pick (ltb (e + 1) (length s)) (Some (f (e + 1))) None
  unfolding recover_of skip_of skip_to
  recover_hurt = rw (skip_hurt, sym (w₂.same (e + 1) (omega arith) far).within)

end_moved : (f : ℕ → ℕ) (a : Answer) → is_end (move_answer f a) ≡ is_end a
unfolding move_answer is_end
end_moved f None = refl
end_moved f (Some (Ok (DoubleQ k v))) = refl
end_moved f (Some (Ok (SingleQ k v))) = refl
end_moved f (Some (Ok (Unquoted k v))) = refl
end_moved f (Some (Ok (Empty k))) = refl
end_moved f (Some (Err (ExpectedEq p))) = refl
end_moved f (Some (Err (ExpectedValue l))) = refl
end_moved f (Some (Err (UnquotedValue p))) = refl
end_moved f (Some (Err (ExpectedQuote l q))) = refl
end_moved f (Some (Err (Duplicated this earlier))) = refl
end_moved f (Some (Err (KeyTableFull this))) = refl
end_moved f (Some (Err BadState)) = refl

none_marked : (f : ℕ → ℕ) (ms : List Marked) → map was ms ≡ [] → map (becomes f) ms ≡ []
none_marked f [] e = refl
none_marked f (m ∷ ms) e = let z : ◌≡◌ {A = ℕ} 0 1 = cc in absurd (omega arith)

unless_nil : (t : Bool) (a : Answer) (rest : List Answer) → [] ≡ cons_unless t a rest → t ≡ true
unfolding cons_unless
unless_nil true a rest e = refl
unless_nil false a rest e = let z : ◌≡◌ {A = ℕ} 0 1 = cc in absurd (omega arith)

module _ (f : ℕ → ℕ) (s t : List ℕ) (checks : Bool) where
  -- the answers of the tag, and of the damaged one
  abbrev run_s : ℕ → Keys → Option ℕ → List Answer
  run_s n k x = run_from n s false checks k x

  abbrev run_t : ℕ → Keys → Option ℕ → List Answer
  run_t n k x = run_from n t false checks k x

  -- what is to be shown of the answers that are left
  abbrev pub Later : ℕ → List Marked → Type 0
  Later n ms =
      (ks kt : Keys) (o : ℕ)
      → KeysLike f s t ks kt
      → Rel f s t o (cuts ms)
      → map was ms ≡ run_s n ks (Some o)
      → run_t n kt (Some (f o)) ≡ map (becomes f) ms

  -- a step before the next cut
  step_like : (ks kt : Keys) (o : ℕ) (cs : List Cut) → KeysLike f s t ks kt → Rel f s t o cs
      → ApartStart (length s) (next_start s checks ks o) cs
      → ReadLike f s t (read_at s false checks ks o) (read_at t false checks kt (f o)) × (next_start t checks kt (f o) ≡ move_start f (next_start s checks ks o))
  step_like ks kt o cs like rel d =
      let w = window_of f s t o cs rel in
      let p = (read_at s false checks ks o).place in
      let far = bound_start (length s) (next_start s checks ks o) cs (recover_in s p) d in
      let y = read_move w false checks like (omega (arith, read_stops s checks ks o w.inside)) in
      (y, ap (recover_of t) y.place ∙ recover_move w p (after_in s o p (read_forward s false checks ks o w.inside)) far)

  -- the end comes in both
  at_end : (n : ℕ) (ks kt : Keys) (o : ℕ) → KeysLike f s t ks kt → Rel f s t o [] → is_end (read_at s false checks ks o).answer ≡ true
      → run_t (suc n) kt (Some (f o)) ≡ []
  unfolding run_from cons_unless
  at_end n ks kt o like rel e =
      let y = step_like ks kt o [] like rel (none_apart (length s) (next_start s checks ks o)) in
      rw (y.0.answer, end_moved f (read_at s false checks ks o).answer, e)

  module _ (n : ℕ) (ms : List Marked) (later : Later n ms) where
    later_start : (x : Option ℕ) (ks kt : Keys) (o : ℕ) → KeysLike f s t ks kt → Rel f s t o (cuts ms) → map was ms ≡ run_s n ks x
        → StartPast (length s) o x → ApartStart (length s) x (cuts ms) → run_t n kt (move_start f x) ≡ map (becomes f) ms
    unfolding StartPast
    later_start (Some w) ks kt o like rel e past d = later ks kt w like (advance f s t o w (cuts ms) (omega arith) past.1 d rel) e
    later_start None ks kt o like rel e past d = run_ended n t false checks kt ∙ sym (none_marked f ms (e ∙ run_ended n s false checks ks))

    -- after the damaged value reading goes on in both, or is at the end in both
    after_hurt : (ks kt : Keys) (o : ℕ) → KeysLike f s t ks kt → Rel f s t o (cuts ms) → map was ms ≡ run_s n ks (Some o)
        → (b : Bool) → ltb o (length s) ≡ b → run_t n kt (pick b (Some (f o)) None) ≡ map (becomes f) ms
    after_hurt ks kt o like rel rest true e = later ks kt o like rel rest
    after_hurt ks kt o like rel rest false e = run_ended n t false checks kt ∙ sym (none_marked f ms (rest ∙ run_end n s false checks ks o (ltb-false _ _ e)))

    module _ (ks kt : Keys) (o : ℕ) (like : KeysLike f s t ks kt) where
      -- an answer that is kept
      kept_moves : (a : Answer) → Rel f s t o (cuts ms) → is_end (read_at s false checks ks o).answer ≡ false
          → a ≡ (read_at s false checks ks o).answer
          → map was ms ≡ run_s n (next_keys s checks ks o) (next_start s checks ks o)
          → ApartStart (length s) (next_start s checks ks o) (cuts ms)
          → run_t (suc n) kt (Some (f o)) ≡ move_answer f a ∷ map (becomes f) ms
      unfolding run_from cons_unless
      kept_moves a rel go e rest d =
          let x = read_at s false checks ks o in
          let past = read_past s checks ks o (window_of f s t o (cuts ms) rel).inside in
          let y = step_like ks kt o (cuts ms) like rel d in
          rw (y.0.answer, y.1, end_moved f x.answer, go, later_start (next_start s checks ks o) x.keys _ o y.0.keys rel rest past d, e)

      -- one that is struck, over the numbers found
      closed_hurt : (r : List ℕ) (key : Span) (eq v e : ℕ) → Closed s checks ks o key eq v e → Rel f s t o (cut_at v e r ∷ cuts ms)
          → Fits s (cut_at v e r)
          → map was ms ≡ run_s n (kept_by s checks ks key (check_of s checks ks key)) (Some (e + 1))
          → Apart (length s) (e + 1) (cuts ms)
          → run_t (suc n) kt (Some (f o)) ≡ Some (Err (UnquotedValue (f v))) ∷ map (becomes f) ms
      unfolding Rel run_from is_end cons_unless
      closed_hurt r key eq v e cl rel fits rest d =
          let w₂ = window_of f s t (e + 1) (cuts ms) rel.2 in
          let far = bound_past (length s) (e + 1) (cuts ms) w₂.inside d in
          let keys = keys_hurt like cl rel.0 rel.1 fits w₂ far in
          rw (
            read_hurt like cl rel.0 rel.1 fits w₂ far,
            recover_hurt like cl rel.0 rel.1 fits w₂ far,
            after_hurt (kept_by s checks ks key (check_of s checks ks key)) _ (e + 1) keys rel.2 rest (ltb (e + 1) (length s)) refl,
          )

      struck_hurt : (q : ℕ) (key value : Span) (run : List ℕ) → o ≤ length s → Rel f s t o (whole_value value run ∷ cuts ms)
          → Fits s (whole_value value run)
          → quoted q key value ≡ (read_at s false checks ks o).answer
          → map was ms ≡ run_s n (next_keys s checks ks o) (next_start s checks ks o)
          → ApartStart (length s) (next_start s checks ks o) (cuts ms)
          → run_t (suc n) kt (Some (f o)) ≡ Some (Err (UnquotedValue (f (whole_value value run).at))) ∷ map (becomes f) ms
      unfolding closed_of
      struck_hurt q key value run h rel fits =
          read_cut s checks ks o h q key value
          (λ (x : Reading).
          map was ms ≡ run_s n x.keys (recover_of s x.place)
          → ApartStart (length s) (recover_of s x.place) (cuts ms)
          → run_t (suc n) kt (Some (f o)) ≡ Some (Err (UnquotedValue (f (whole_value value run).at))) ∷ map (becomes f) ms)
          (λ k eq v e cl same rest d.
          let l = cl.e_in in
          let z = sym (next_from s (e + 1) (omega arith)) in
          let one = cut_closed value v e run same in
          rw one
          (closed_hurt run k eq v e cl (rw one at rel) (rw one at fits)
          (rest ∙ ap (run_s n (kept_by s checks ks k (check_of s checks ks k))) z)
          (subst (λ (x : Option ℕ). ApartStart (length s) x (cuts ms)) z d)))

  next_apart : (n : ℕ) (ms : List Marked) (ks : Keys) (o : ℕ) → map was ms ≡ run_s n (next_keys s checks ks o) (next_start s checks ks o)
      → ApartStart (length s) (next_start s checks ks o) (cuts ms)
  next_apart n ms ks o rest =
      cuts_apart n s checks (next_keys s checks ks o) (next_start s checks ks o) ms (recover_in s (read_at s false checks ks o).place) rest

  pub sim : (n : ℕ) (ms : List Marked) → AllFit s (cuts ms) → Later n ms
  unfolding run_from was becomes cuts AllFit whole_value
  sim zero [] al ks kt o like rel e = refl
  sim zero (m ∷ ms) al ks kt o like rel e = let z : ◌≡◌ {A = ℕ} 0 1 = cc in absurd (omega arith)
  sim (suc n) [] al ks kt o like rel e = at_end n ks kt o like rel (unless_nil _ _ _ e)
  sim (suc n) (kept a ∷ ms) al ks kt o like rel e =
      let u = uncons _ _ _ _ _ e in
      kept_moves n ms (sim n ms al) ks kt o like a rel u.0 u.1 u.2 (next_apart n ms ks o u.2)
  sim (suc n) (struck q key value run ∷ ms) al ks kt o like rel e =
      let u = uncons _ _ _ _ _ e in
      let i = (window_of f s t o (whole_value value run ∷ cuts ms) rel).inside in
      struck_hurt n ms (sim n ms al.1) ks kt o like q key value run i rel al.0 u.1 u.2 (next_apart n ms ks o u.2)
