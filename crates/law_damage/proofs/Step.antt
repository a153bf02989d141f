-- One step on two tags that agree on all that the step looks at: the same answer, moved.
use Prim.Native.Nat.{ℕ, ◌+◌, ◌≤◌, ◌<◌}
use mathlib.Core.Path.{◌≡◌, refl, sym, ap, ◌∙◌}
use mathlib.Core.Bool.{Bool, true, false, false≢true}
use mathlib.Core.List.{List}
use native.Mathlib.Omega.{arith}
use lib.ListN.{length, get_or}
use lib.Dec.{eqb, ltb}
use borrow.Author.Tests.{lt-ltb, ltb-true, ltb-false, le-leb}
use Rattle.std.proofs.Common.{Result, Ok, Err, Option, Some, None}
use Rattle.scan.specs.First.{first_from, pick}
use Rattle.scan.specs.Bytes.{is_space, not_space, ends_key, is_byte, part}
use Rattle.scan.proofs.Laws.{first, picks}
use Rattle.scan.proofs.Move.{pick_ap, Window, lt_move, ge_move, f_suc, le_move, end_move, scan_move, scan_next, part_move}
use Rattle.tag_keys.specs.declared.KeyRefusal.{KeyRefusal}
use Rattle.tag_keys.specs.declared.KeyRefusal.TheVariants.{Same, Full}
use Rattle.tag_step.specs.declared.Span.{Span}
use Rattle.tag_step.specs.declared.Place.{Place}
use Rattle.tag_step.specs.declared.Place.TheVariants.{Done, Next, SkipValue, SkipEqValue}
use Rattle.tag_step.specs.declared.KeyRead.{KeyRead}
use Rattle.tag_step.specs.declared.KeyRead.TheVariants.{Bare, Valued}
use Rattle.tag_step.specs.declared.Attr.TheVariants.{DoubleQ, SingleQ, Unquoted}
use Rattle.tag_step.specs.declared.AttrError.TheVariants.{ExpectedValue, UnquotedValue, ExpectedQuote}
use Rattle.tag_step.specs.declared.Found.{Found}
use Rattle.tag_step.specs.Read.{span, found, is_at, is_quote, skip_to, skip_of, recover_of, key_eq, key_to, key_from, key_at, quoted, closed_of, quoted_of, value_at}
use Rattle.tag_step.specs.Next.{Keys, Reading, check_of, kept_by, place_at, bare_by, bare_to, bare_of, valued_by, valued_to, valued_of, read_key, read_at}
use Rattle.tag_step.specs.Look.{look_value, look_by, look_at}
use Rattle.tag_step.proofs.Paths.{quoted_open, quoted_closed, value_none, value_quoted, value_unquoted, value_bad}
use Rattle.tag_step.proofs.Whole.{KeyBy, at_in}
use Rattle.tag_step.proofs.Ways.{value_ways, step_ways}
use Rattle.tag_step.proofs.Progress.{After}
use Rattle.law_damage.specs.Damage.{move_span, move_answer, move_place}
use Rattle.law_damage.proofs.Recorded.{NamesLike, KeysLike, move_checked, check_move, kept_move}

abbrev pub move_key : (ℕ → ℕ) → Option KeyRead → Option KeyRead
move_key f None = None
move_key f (Some (Bare key at)) = Some (Bare (move_span f key) (f at))
move_key f (Some (Valued key eq)) = Some (Valued (move_span f key) (f eq))

abbrev pub move_start : (ℕ → ℕ) → Option ℕ → Option ℕ
move_start f (Some o) = Some (f o)
move_start f None = None

abbrev pub move_found : (ℕ → ℕ) → Found → Found
move_found f x = found (move_answer f x.answer) (move_place f x.place)

-- how far the reading of a key looks
abbrev reach : ℕ → Option KeyRead → ℕ
reach len None = len
reach len (Some (Bare key at)) = at
reach len (Some (Valued key eq)) = eq

-- where reading goes on, or the length
abbrev pub start_at : ℕ → Option ℕ → ℕ
start_at len (Some w) = w
start_at len None = len

-- the place is done, or lies at or after lo, and within the tag or at its end
unfoldable pub PlaceIn : ℕ → ℕ → Place → Type 0
PlaceIn len lo Done = Unit {0}
PlaceIn len lo (Next x) = (lo ≤ x) × (x ≤ len)
PlaceIn len lo (SkipValue x) = (lo ≤ x) × (x < len)
PlaceIn len lo (SkipEqValue x) = (lo ≤ x) × (x < len)

pub after_in : (s : List ℕ) (o : ℕ) (p : Place) → After s o p → PlaceIn (length s) o p
unfolding After PlaceIn
after_in s o Done a = tt
after_in s o (Next x) a = (omega arith, a.1)
after_in s o (SkipValue x) a = (omega arith, a.1)
after_in s o (SkipEqValue x) a = (omega (arith, a.0), at_in s 61 x a.1)

quoted_move : (f : ℕ → ℕ) (q : ℕ) (k v : Span) → move_answer f (quoted q k v) ≡ quoted q (move_span f k) (move_span f v)
unfolding move_answer quoted
quoted_move f q k v = sym (pick_ap (move_answer f) (eqb q 34) (Some (Ok (DoubleQ k v))) (Some (Ok (SingleQ k v))))

-- a skip stops where reading goes on
skip_stops : (s : List ℕ) (x : ℕ) → x ≤ length s → start_at (length s) (skip_of s x) ≡ first_from is_space s x
unfolding skip_of skip_to
skip_stops s x h =
    picks (λ (y : Option ℕ). start_at (length s) y ≡ first_from is_space s x) (ltb (first_from is_space s x) (length s)) (λ e. refl)
    (λ e. omega (arith, ltb-false (first_from is_space s x) (length s) e, (first is_space s x h).inside))

next_stops : (s : List ℕ) (x : ℕ) → x ≤ length s → start_at (length s) (recover_of s (Next x)) ≡ x
unfolding recover_of
next_stops s x h = rw (le-leb x (length s) h)

at_stops : (s : List ℕ) (at : ℕ) → at ≤ length s → at ≤ start_at (length s) (recover_of s (place_at s at))
unfolding place_at recover_of
at_stops s at h = picks (λ (p : Place). at ≤ start_at (length s) (recover_of s p)) (ltb at (length s)) (λ _. omega (arith, next_stops s at h)) (λ _. h)

module _ {f : ℕ → ℕ} {s t : List ℕ} {o m : ℕ} (w : Window f s t o m) where
  pub at_move : (b x : ℕ) → o ≤ x → x < m → is_at t b (f x) ≡ is_at s b x
  unfolding is_at
  at_move b x lo hi = rw ((w.same x lo hi).within, (w.same x lo hi).byte)

  -- where reading goes on
  skip_move : (x : ℕ) → o ≤ x → x ≤ length s → start_at (length s) (skip_of s x) < m → skip_of t (f x) ≡ move_start f (skip_of s x)
  unfolding skip_of skip_to
  skip_move x a h c =
      let r = first_from is_space s x in
      let b : r < m = omega (arith, skip_stops s x h) in
      rw (scan_move w is_space x a h b, sym (w.same r (omega (arith, (first is_space s x h).ahead)) b).within)
      (pick_ap (move_start f) (ltb r (length s)) (Some r) None)

  pub recover_move : (p : Place) → PlaceIn (length s) o p → start_at (length s) (recover_of s p) < m
      → recover_of t (move_place f p) ≡ move_start f (recover_of s p)
  unfolding PlaceIn recover_of move_place
  recover_move Done a c = refl
  recover_move (Next x) a c =
      let k : x < m = omega (arith, next_stops s x a.1) in
      rw (le-leb x (length s) a.1, le-leb (f x) (length t) (le_move w x a.0 (omega arith) a.1))
  recover_move (SkipValue x) a c = skip_move x a.0 (omega arith) c
  recover_move (SkipEqValue x) a c = skip_move x a.0 (omega arith) c

  -- the key, over the numbers found
  key_from_move : (start end x : ℕ) → end ≡ first_from ends_key s (start + 1) → x ≡ first_from not_space s end → o ≤ start → start < length s
      → x < m → key_from t (f start) ≡ move_key f (key_eq s (span start end) x)
  unfolding key_from key_to key_eq
  key_from_move start end x b d lo hi h =
      let fb = first ends_key s (start + 1) (omega arith) in
      let fd = first not_space s end (omega (arith, fb.inside)) in
      let lt : start < m = omega (arith, fb.ahead, fd.ahead) in
      let e₁ : f end ≡ first_from ends_key t (f start + 1) = scan_next w ends_key start end b lo hi (omega (arith, fd.ahead)) in
      let e₂ : first_from not_space t (f end) ≡ f x = scan_move w not_space end (omega (arith, fb.ahead)) (omega (arith, fb.inside)) (omega arith) ∙ ap f (sym d) in
      rw (lt-ltb (f start) (length t) (lt_move w start lo lt hi), sym e₁, e₂, at_move 61 x (omega (arith, fb.ahead, fd.ahead)) h)
      (pick_ap (move_key f) (is_at s 61 x) (Some (Valued (span start end) x)) (Some (Bare (span start end) x)))

  reach_eq : (key : Span) (x : ℕ) → reach (length s) (key_eq s key x) < m → x < m
  unfolding key_eq
  reach_eq key x h = by (is_at s 61 x) h where
    by : (b : Bool) → reach (length s) (pick b (Some (Valued key x)) (Some (Bare key x))) < m → x < m
    by true h = h
    by false h = h

  key_by : (start : ℕ) → first_from not_space s o ≡ start → (x : Bool) → ltb start (length s) ≡ x
      → reach (length s) (pick x (key_to s start (first_from ends_key s (start + 1))) None) < m
      → key_from t (first_from not_space t (f o)) ≡ move_key f (pick x (key_to s start (first_from ends_key s (start + 1))) None)
  unfolding key_from key_to
  key_by start e true b h =
      let a = first not_space s o w.inside in
      let l : start < length s = ltb-true _ _ b in
      let fb = first ends_key s (start + 1) (omega arith) in
      let fd = first not_space s (first_from ends_key s (start + 1)) fb.inside in
      let r = reach_eq (span start (first_from ends_key s (start + 1))) (first_from not_space s (first_from ends_key s (start + 1))) h in
      ap (key_from t) (scan_move w not_space o (omega arith) w.inside (omega (arith, fb.ahead, fd.ahead)) ∙ ap f e)
      ∙ key_from_move start _ _ refl refl (omega (arith, a.ahead)) l r
  key_by start e false b h =
      let a = first not_space s o w.inside in
      let l : length s ≤ start = ltb-false _ _ b in
      let k : start < m = omega (arith, a.inside) in
      rw (scan_move w not_space o (omega arith) w.inside (omega arith), e, sym (w.same start (omega (arith, a.ahead)) k).within, b)

  pub key_move : reach (length s) (key_at s o) < m → key_at t (f o) ≡ move_key f (key_at s o)
  unfolding key_at key_from
  key_move h = key_by (first_from not_space s o) refl _ refl h

  -- a bare key
  pub place_move : (at : ℕ) → o ≤ at → at < m → place_at t (f at) ≡ move_place f (place_at s at)
  unfolding place_at move_place
  place_move at a h = rw (sym (w.same at a h).within) (pick_ap (move_place f) (ltb at (length s)) (Next at) Done)

  pub bare_move : (key : Span) (at : ℕ) (c : Result ℕ KeyRefusal) → o ≤ at → at < m
      → bare_by t (move_span f key) (f at) (move_checked f c) ≡ move_found f (bare_by s key at c)
  unfolding bare_by move_answer move_place
  bare_move key at (Ok n) a h = rw (place_move at a h)
  bare_move key at (Err (Same p)) a h = rw (place_move at a h)
  bare_move key at (Err Full) a h = refl

  -- a value
  closed_move : (b : ℕ) (key : Span) (v e : ℕ) → o ≤ v → v < m → o ≤ e → e < m
      → closed_of b (move_span f key) (span (f v + 1) (f e)) ≡ move_found f (closed_of b key (span (v + 1) e))
  unfolding closed_of move_place
  closed_move b key v e ov vm oe em = rw (quoted_move f b key (span (v + 1) e), f_suc w v ov vm, f_suc w e oe em)

  module _ (html : Bool) (key : Span) (eq v : ℕ) (here : v ≡ first_from not_space s (eq + 1)) (a : o ≤ eq) (h : eq < length s) where
    on : eq < v
    on = omega (arith, (first not_space s (eq + 1) (omega arith)).ahead)

    inside : v ≤ length s
    inside = omega (arith, (first not_space s (eq + 1) (omega arith)).inside)

    ov : o ≤ v
    ov = omega (arith, on)

    there : v < m → f v ≡ first_from not_space t (f eq + 1)
    there = scan_next w not_space eq v here a h

    Moves : Found → Type 0
    Moves x = value_at t html (move_span f key) (f eq) ≡ move_found f x

    same_none : length s ≤ v → v < m → Moves (found (Some (Err (ExpectedValue (length s)))) Done)
    unfolding Moves move_answer move_place
    same_none l k =
        sym (value_none t html (move_span f key) (f eq) (f v) (there k) (ge_move w v ov k l)) ∙ rw (end_move w (omega (arith, inside)))

    module _ (e : ℕ) (l : v < length s) (q : is_quote (get_or s v 0) ≡ true) (i : e ≡ first_from (is_byte (get_or s v 0)) s (v + 1)) where
      ve : v < e
      ve = omega (arith, (first (is_byte (get_or s v 0)) s (v + 1) (omega arith)).ahead)

      -- the same quotes in t
      value_there : e < m → quoted_of t (get_or s v 0) (move_span f key) (f v + 1) ≡ value_at t html (move_span f key) (f eq)
      value_there c =
          let vm : v < m = omega (arith, ve) in
          let byte = (w.same v ov vm).byte in
          rw byte (value_quoted t html (move_span f key) (f eq) (f v) (there vm) (lt_move w v ov vm l) (ap is_quote (sym byte) ∙ q))

      quote_there : e < m → f e ≡ first_from (is_byte (get_or s v 0)) t (f v + 1)
      quote_there = scan_next w (is_byte (get_or s v 0)) v e i ov l

      same_closed : e < length s → e < m → Moves (closed_of (get_or s v 0) key (span (v + 1) e))
      unfolding Moves
      same_closed g c =
          sym (quoted_closed t (get_or s v 0) (move_span f key) (f v + 1) (f e) (quote_there c) (lt_move w e (omega (arith, ov, ve)) c g) ∙ value_there c)
          ∙ closed_move (get_or s v 0) key v e ov (omega (arith, ve)) (omega (arith, ov, ve)) c

      same_open : length s ≤ e → e < m → Moves (found (Some (Err (ExpectedQuote (length s) (get_or s v 0)))) Done)
      unfolding Moves move_answer move_place
      same_open g c =
          sym (quoted_open t (get_or s v 0) (move_span f key) (f v + 1) (f e) (quote_there c) (ge_move w e (omega (arith, ov, ve)) c g) ∙ value_there c)
          ∙ rw (end_move w (omega arith))

    other_there : is_quote (get_or s v 0) ≡ false → v < m → is_quote (get_or t (f v) 0) ≡ false
    other_there n k = ap is_quote (sym (w.same v ov k).byte) ∙ n

    same_unquoted : (e : ℕ) → v < length s → is_quote (get_or s v 0) ≡ false → html ≡ true → e ≡ first_from is_space s v → e < m
        → Moves (found (Some (Ok (Unquoted key (span v e)))) (Next e))
    unfolding Moves move_answer move_place
    same_unquoted e l n mode i c =
        let k : v < m = omega (arith, (first is_space s v inside).ahead) in
        let z : f e ≡ first_from is_space t (f v) = ap f i ∙ sym (scan_move w is_space v ov inside (omega arith)) in
        sym (value_unquoted t html (move_span f key) (f eq) (f v) (there k) (lt_move w v ov k l) (other_there n k) mode (f e) z)

    same_bad : v < length s → is_quote (get_or s v 0) ≡ false → html ≡ false → v < m → Moves (found (Some (Err (UnquotedValue v))) (SkipValue v))
    unfolding Moves move_answer move_place
    same_bad l n mode k = sym (value_bad t html (move_span f key) (f eq) (f v) (there k) (lt_move w v ov k l) (other_there n k) mode)

    value_move : look_value s html eq < m → Moves (value_at s html key eq)
    value_move = value_ways s html key eq v here (λ (x : Found) (n : ℕ). n < m → Moves x) same_none same_closed same_open same_unquoted same_bad

    pub valued_move : (c : Result ℕ KeyRefusal) → look_by s html eq c < m
        → valued_by t html (move_span f key) (f eq) (move_checked f c) ≡ move_found f (valued_by s html key eq c)
    unfolding valued_by look_by move_answer move_place Moves
    valued_move (Ok n) c = value_move c
    valued_move (Err (Same p)) c = refl
    valued_move (Err Full) c = refl

-- a value is looked at past its `=`
pub look_past : (s : List ℕ) (html : Bool) (key : Span) (eq : ℕ) → eq < length s → (c : Result ℕ KeyRefusal) → eq ≤ look_by s html eq c
unfolding look_by
look_past s html key eq l (Ok n) =
    let v = first_from not_space s (eq + 1) in
    let a = (first not_space s (eq + 1) (omega arith)).ahead in
    value_ways s html key eq v refl (λ (x : Found) (n : ℕ). eq ≤ n)
    (λ _. omega arith)
    (λ e l _ i _. omega (arith, (first (is_byte (get_or s v 0)) s (v + 1) (omega arith)).ahead))
    (λ e l _ i _. omega (arith, (first (is_byte (get_or s v 0)) s (v + 1) (omega arith)).ahead))
    (λ e l _ _ i. omega (arith, (first is_space s v (omega arith)).ahead))
    (λ _ _ _. omega arith)
look_past s html key eq l (Err (Same p)) = omega arith
look_past s html key eq l (Err Full) = omega arith

-- the reading of t is that of s, moved
pub record ReadLike (f : ℕ → ℕ) (s t : List ℕ) (x y : Reading) : Type 0 where
  pub answer : y.answer ≡ move_answer f x.answer
  pub place : y.place ≡ move_place f x.place
  pub keys : KeysLike f s t x.keys y.keys

-- the check of a key that was read before m
module _ {f : ℕ → ℕ} {s t : List ℕ} {o m : ℕ} (w : Window f s t o m) (checks : Bool) (key : Span) (x : ℕ) (i : KeyBy (length s) o key x) (l : x < m) where
  pub alike : part s key.start key.end ≡ part t (f key.start) (f key.end)
  alike = part_move w key.start key.end (omega arith) (omega arith) (omega arith) (omega arith)

  pub checks_move : {ks kt : Keys} → NamesLike f s t ks kt → check_of t checks kt (move_span f key) ≡ move_checked f (check_of s checks ks key)
  checks_move like = check_move like key alike checks

  pub keeps_move : {ks kt : Keys} → KeysLike f s t ks kt
      → KeysLike f s t (kept_by s checks ks key (check_of s checks ks key)) (kept_by t checks kt (move_span f key) (move_checked f (check_of s checks ks key)))
  keeps_move like = kept_move like key alike checks

module _ {f : ℕ → ℕ} {s t : List ℕ} {o m : ℕ} (w : Window f s t o m) (html checks : Bool) {ks kt : Keys} (like : KeysLike f s t ks kt) where
  -- two tags that agree as far as the step looks
  pub read_move : look_at s html checks ks o < m → ReadLike f s t (read_at s html checks ks o) (read_at t html checks kt (f o))
  unfolding read_at read_key bare_of bare_to valued_of valued_to move_answer move_place
  read_move =
      step_ways s html checks ks o w.inside (λ (x : Reading) (n : ℕ). n < m → ReadLike f s t x (read_at t html checks kt (f o)))
      (λ e l. rw (key_move w (rw e l), e) (record { answer = refl; place = refl; keys = like }))
      (λ key at e i mode l. rw (key_move w (rw e l), e, mode) (record { answer = refl; place = place_move w at (omega arith) l; keys = like }))
      (λ key at c e i mode is l.
      rw (is, key_move w (rw e l), e, mode, checks_move w checks key at i l like.names, bare_move w key at (check_of s checks ks key) (omega arith) l)
      (record { answer = refl; place = refl; keys = keeps_move w checks key at i l like }))
      (λ key eq c e i a is l.
      let h = at_in s 61 eq a in
      let r : eq < m = omega (arith, look_past s html key eq h c) in
      rw (is, key_move w (rw e r), e, checks_move w checks key eq i r like.names, valued_move w html key eq _ refl (omega arith) h (check_of s checks ks key) (rw is at l))
      (record { answer = refl; place = refl; keys = keeps_move w checks key eq i r like }))

-- in XML mode a step looks no further than to where reading goes on
valued_stops : (s : List ℕ) (key : Span) (eq : ℕ) → eq < length s → (c : Result ℕ KeyRefusal)
    → look_by s false eq c ≤ start_at (length s) (recover_of s (valued_by s false key eq c).place)
unfolding valued_by look_by closed_of recover_of
valued_stops s key eq l (Ok n) =
    let v = first_from not_space s (eq + 1) in
    let a = first not_space s (eq + 1) (omega arith) in
    value_ways s false key eq v refl (λ (x : Found) (n : ℕ). n ≤ start_at (length s) (recover_of s x.place))
    (λ l. a.inside)
    (λ e l _ i g. omega (arith, next_stops s (e + 1) (omega arith)))
    (λ e l _ i g. omega (arith, (first (is_byte (get_or s v 0)) s (v + 1) (omega arith)).inside))
    (λ e l _ h i. absurd (false≢true h))
    (λ l _ _. omega (arith, skip_stops s v a.inside, (first is_space s v a.inside).ahead))
valued_stops s key eq l (Err (Same p)) = omega (arith, skip_stops s eq (omega arith), (first is_space s eq (omega arith)).ahead)
valued_stops s key eq l (Err Full) = omega arith

pub read_stops : (s : List ℕ) (checks : Bool) (k : Keys) (o : ℕ) → o ≤ length s
    → look_at s false checks k o ≤ start_at (length s) (recover_of s (read_at s false checks k o).place)
unfolding recover_of valued_to
read_stops s checks k o h =
    step_ways s false checks k o h (λ (x : Reading) (n : ℕ). n ≤ start_at (length s) (recover_of s x.place))
    (λ _. omega arith)
    (λ key at e i _. at_stops s at i.inside)
    (λ key at c e i mode is. absurd (false≢true mode))
    (λ key eq c e i a is. valued_stops s key eq (at_in s 61 eq a) c)
