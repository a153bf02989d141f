-- A step that looks only at what two tags share is the same in both: the law of moving, where nothing moves.
use Prim.Native.Nat.{ℕ, ◌≤◌, ◌<◌}
use mathlib.Core.Path.{◌≡◌, refl, sym, ap, ◌∙◌}
use mathlib.Core.Bool.{Bool, true}
use mathlib.Core.List.{List, ◌++◌}
use native.Mathlib.Omega.{arith}
use lib.ListN.{length, get_or, take, length-append, get_or-append}
use lib.Seq.{length-take-le, get_or-take, take-take, ext_get_or}
use borrow.Author.Tests.{lt-ltb}
use Rattle.std.proofs.Common.{Result, Ok, Err, Option, Some, None}
use Rattle.scan.specs.Bytes.{part}
use Rattle.scan.proofs.Move.{Window, part_move}
use Rattle.tag_keys.specs.declared.KeyRefusal.{KeyRefusal}
use Rattle.tag_keys.specs.declared.KeyRefusal.TheVariants.{Same, Full}
use Rattle.tag_keys.specs.Keys.{KeysIn, table_good, name_at}
use Rattle.tag_keys.proofs.Laws.{in_table, keys_longer}
use Rattle.tag_step.specs.declared.Span.{Span}
use Rattle.tag_step.specs.declared.Place.{Place}
use Rattle.tag_step.specs.declared.Place.TheVariants.{Done, Next, SkipValue, SkipEqValue}
use Rattle.tag_step.specs.Answer.{Answer}
use Rattle.tag_step.specs.declared.Attr.TheVariants.{DoubleQ, SingleQ, Unquoted, Empty}
use Rattle.tag_step.specs.declared.AttrError.TheVariants.{ExpectedEq, ExpectedValue, UnquotedValue, ExpectedQuote, Duplicated, KeyTableFull, BadState}
use Rattle.tag_step.specs.declared.Found.{Found}
use Rattle.tag_step.specs.Read.{recover_of}
use Rattle.tag_step.specs.Next.{Keys, Reading, check_of, kept_by, bare_by, bare_of, bare_to, valued_by, valued_of, valued_to, read_key, read_at, step_from, step_of, place_good, keys_of, state_good, next_of}
use Rattle.tag_step.specs.Look.{look_at, look_start, look_of}
use Rattle.tag_step.proofs.Whole.{at_in, starts_in}
use Rattle.tag_step.proofs.Ways.{step_ways}
use Rattle.law_damage.specs.Damage.{move_answer, move_place}
use Rattle.law_damage.specs.Stable.{Agree, NextStable}
use Rattle.law_damage.proofs.Recorded.{NamesLike, move_checked}
use Rattle.law_damage.proofs.Step.{move_found, key_move, place_move, bare_move, valued_move, look_past, alike, checks_move, recover_move}
use Rattle.law_damage.proofs.Begin.{begins, good_move}

abbrev same : ℕ → ℕ
same n = n

-- moved by nothing, all is as it was
answer_same : (a : Answer) → move_answer same a ≡ a
unfolding move_answer
answer_same None = refl
answer_same (Some (Ok (DoubleQ k v))) = refl
answer_same (Some (Ok (SingleQ k v))) = refl
answer_same (Some (Ok (Unquoted k v))) = refl
answer_same (Some (Ok (Empty k))) = refl
answer_same (Some (Err (ExpectedEq p))) = refl
answer_same (Some (Err (ExpectedValue l))) = refl
answer_same (Some (Err (UnquotedValue p))) = refl
answer_same (Some (Err (ExpectedQuote l q))) = refl
answer_same (Some (Err (Duplicated this earlier))) = refl
answer_same (Some (Err (KeyTableFull this))) = refl
answer_same (Some (Err BadState)) = refl

place_same : (p : Place) → move_place same p ≡ p
unfolding move_place
place_same Done = refl
place_same (Next o) = refl
place_same (SkipValue o) = refl
place_same (SkipEqValue o) = refl

checked_same : (c : Result ℕ KeyRefusal) → move_checked same c ≡ c
checked_same (Ok n) = refl
checked_same (Err (Same p)) = refl
checked_same (Err Full) = refl

found_same : (x : Found) → move_found same x ≡ x
found_same x = rw (answer_same x.answer, place_same x.place)

module _ (s t : List ℕ) (m : ℕ) (agree : Agree s t m) where
  window : (o : ℕ) → o ≤ m → Window same s t o m
  window o h =
      let a = agree.in_s in
      let b = agree.in_t in
      record {
        same = λ k lo hi. record { within = lt-ltb k (length s) (omega arith) ∙ sym (lt-ltb k (length t) (omega arith)); byte = agree.byte k hi };
        near = λ k lo hi. refl;
        inside = omega arith;
        inside' = omega arith;
      }

  -- what they share, as a tag
  front_length : length (take m s) ≡ m
  front_length = length-take-le m s agree.in_s

  front_same : take m s ≡ take m t
  front_same =
      ext_get_or 0 (take m s) (take m t) (front_length ∙ sym (length-take-le m t agree.in_t))
      (λ k h. get_or-take m s k 0 (omega (arith, front_length)) ∙ agree.byte k (omega (arith, front_length)) ∙ sym (get_or-take m t k 0 (omega (arith, front_length))))

  -- a tag that begins so goes on with keys recorded there
  keys_there : (u : List ℕ) → m ≤ length u → take m s ≡ take m u → (k : Keys) → KeysIn k.starts k.ends k.hashes k.count (take m s) → table_good u k.starts k.ends k.hashes k.count ≡ true
  keys_there u h e k i =
      in_table u k.starts k.ends k.hashes k.count
      (keys_longer k.starts k.ends k.hashes k.count (take m s) u (omega (arith, front_length)) (rw front_length (take-take m m s (omega arith) ∙ e)) i)

  names_like : (k : Keys) → KeysIn k.starts k.ends k.hashes k.count (take m s) → NamesLike same s t k k
  unfolding name_at
  names_like k i =
      record {
        count = refl;
        start = λ j h. refl;
        bytes = λ j h. part_move (window 0 (omega arith)) (get_or k.starts j 0) (get_or k.ends j 0) (omega arith) (omega (arith, (i.inside j h).0)) (omega (arith, (i.inside j h).1, front_length)) (omega (arith, (i.inside j h).1, front_length, agree.in_s));
      }

  kept_same : (checks : Bool) (k : Keys) (key : Span) (c : Result ℕ KeyRefusal) → part s key.start key.end ≡ part t key.start key.end → kept_by t checks k key c ≡ kept_by s checks k key c
  unfolding kept_by
  kept_same checks k key c e = rw e

  read_same : (html checks : Bool) (k : Keys) (o : ℕ) → o ≤ m → NamesLike same s t k k → look_at s html checks k o < m
      → read_at t html checks k o ≡ read_at s html checks k o
  unfolding read_at read_key bare_of bare_to valued_of valued_to
  read_same html checks k o h like =
      let w = window o h in
      step_ways s html checks k o w.inside (λ (x : Reading) (n : ℕ). n < m → read_at t html checks k o ≡ x)
      (λ e l. rw (key_move w (rw e l), e))
      (λ key at e i mode l. rw (key_move w (rw e l), e, mode, place_move w at (omega arith) l, place_same _))
      (λ key at c e i mode is l.
      let found = ap (bare_by t key at) (sym (checked_same (check_of s checks k key))) ∙ bare_move w key at (check_of s checks k key) (omega arith) l ∙ found_same _ in
      rw (is, key_move w (rw e l), e, mode, checks_move w checks key at i l like, checked_same (check_of s checks k key), kept_same checks k key (check_of s checks k key) (alike w checks key at i l), found))
      (λ key eq c e i a is l.
      let g = at_in s 61 eq a in
      let r : eq < m = omega (arith, look_past s html key eq g c) in
      let found = ap (valued_by t html key eq) (sym (checked_same (check_of s checks k key))) ∙ valued_move w html key eq _ refl (omega arith) g (check_of s checks k key) (rw is at l) ∙ found_same _ in
      rw (is, key_move w (rw e r), e, checks_move w checks key eq i r like, checked_same (check_of s checks k key), kept_same checks k key (check_of s checks k key) (alike w checks key eq i r), found))

-- a step looks no less far than to where it begins
look_from_lem : (s : List ℕ) (html checks : Bool) (k : Keys) (o : ℕ) → o ≤ length s → o ≤ look_at s html checks k o
look_from_lem s html checks k o h =
    step_ways s html checks k o h (λ (x : Reading) (n : ℕ). o ≤ n)
    (λ e. h)
    (λ key at e i mode. omega arith)
    (λ key at c e i mode is. omega arith)
    (λ key eq c e i a is. omega (arith, look_past s html key eq (at_in s 61 eq a) c))

pub next_stable : NextStable
unfolding look_of look_start next_of state_good keys_of step_of step_from
next_stable s t m st agree b = by (recover_of s st.place) refl where
  by : (x : Option ℕ) → recover_of s st.place ≡ x → look_start s st.html st.check_duplicates (keys_of st) x < m
      → next_of t st ≡ next_of s st
  by None e l = absurd (omega (arith, agree.in_s))
  by (Some o) e l =
      let w = window s t m agree 0 (omega arith) in
      let x = begins s o st.place b.place e in
      let lt : o < m = omega (arith, look_from_lem s st.html st.check_duplicates (keys_of st) o (starts_in s st.place o e)) in
      let still = place_same st.place in
      let good : place_good t st.place ≡ true = ap (place_good t) (sym still) ∙ good_move w st.place (omega (arith, x.upto)) ∙ b.place in
      let goes : recover_of t st.place ≡ Some o = ap (recover_of t) (sym still) ∙ recover_move w st.place x.within (rw e lt) ∙ rw e in
      let in_s = keys_there s t m agree s agree.in_s refl (keys_of st) b.keys in
      let in_t = keys_there s t m agree t agree.in_t (front_same s t m agree) (keys_of st) b.keys in
      rw (in_s, in_t, good, b.place, goes, e, read_same s t m agree st.html st.check_duplicates (keys_of st) o (omega arith) (names_like s t m agree (keys_of st) b.keys) l)

-- a tag that grows
pub grown : (s u : List ℕ) → Agree s (s ++ u) (length s)
grown s u = record { in_s = omega arith; in_t = omega (arith, length-append s u); byte = λ k h. sym (get_or-append s u 0 k h) }
