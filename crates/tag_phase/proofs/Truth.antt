-- A phase that is true stays so: what comes in carries it on to where a scan of all that is held stands (`carry_true`). And a
-- true phase waits only where the step looks at or past the end of what is held (`waits_look`).
use Prim.Native.Nat.{ℕ, ◌+◌, ◌≤◌, ◌<◌}
use mathlib.Core.Path.{◌≡◌, refl, sym, ap, ◌∙◌}
use mathlib.Core.Bool.{Bool, true, false, ◌||◌, true≢false, false≢true}
use mathlib.Core.List.{List, ◌++◌}
use native.Mathlib.Omega.{arith}
use lib.ListN.{length, get_or, length-append, get_or-append}
use lib.Dec.{eqb, ltb, leb}
use borrow.Author.Tests.{lt-ltb, ltb-true, ltb-false, le-leb, leb-true, eqb-true, not-true}
use Rattle.std.proofs.Common.{Result, Ok, Err, Some, None, Option}
use Rattle.scan.specs.First.{first_from, pick}
use Rattle.scan.specs.Bytes.{is_space, not_space, ends_key, is_byte}
use Rattle.scan.proofs.Laws.{first, first_only, skip, past}
use Rattle.tag_keys.specs.declared.KeyRefusal.{KeyRefusal}
use Rattle.tag_keys.specs.declared.KeyRefusal.TheVariants.{Same, Full}
use Rattle.tag_keys.specs.Keys.{key_good}
use Rattle.tag_step.specs.declared.Span.{Span}
use Rattle.tag_step.specs.declared.Place.{Place}
use Rattle.tag_step.specs.declared.Place.TheVariants.{Done, Next, SkipValue, SkipEqValue}
use Rattle.tag_step.specs.declared.KeyRead.{KeyRead}
use Rattle.tag_step.specs.declared.KeyRead.TheVariants.{Bare, Valued}
use Rattle.tag_step.specs.Read.{span, is_quote, skip_to, skip_of, recover_of, key_at}
use Rattle.tag_step.specs.Next.{Keys, check_of, place_good}
use Rattle.tag_step.specs.Look.{look_in, look_from, look_value, look_by, look_key, look_at, look_start, look_of}
use Rattle.tag_step.proofs.Paths.{key_none, key_end, key_valued}
use Rattle.tag_step.proofs.Whole.{at_in}
use Rattle.tag_phase.specs.declared.Phase.{Phase}
use Rattle.tag_phase.specs.declared.Phase.TheVariants.{Begin, Due, InSkip, InSpace, InKey, AfterKey, BeforeValue, InDouble, InSingle, InUnquoted}
use Rattle.tag_phase.specs.Phase.{unquoted_from, open_in, quoted_from, value_by, value_on, value_from, after_by, after_on, after_from, key_on, key_from, space_on, space_from, skip_on, skip_from, begin_at, carried_of, waiting_of, is_refused, refused_of, waits_by, waits_on}
use Rattle.tag_phase.specs.Truth.{True, unknown, known}

-- A scan over a tag that grows: what it finds it finds again, and where it came to the end it goes on from there.
module _ (s u : List ℕ) (p : ℕ → Bool) (o : ℕ) (h : o ≤ length s) where
  longer : length s ≤ length (s ++ u)
  longer = omega (arith, length-append s u)

  early : first_from p s o < length s → first_from p (s ++ u) o ≡ first_from p s o
  early l =
      let f = first p s o h in
      first_only (λ j. p (get_or (s ++ u) j 0)) o (length (s ++ u)) (first_from p (s ++ u) o) (first_from p s o) (first p (s ++ u) o (omega (arith, longer)))
      (record {
        ahead = f.ahead;
        inside = omega (arith, longer);
        found = λ _. ap p (get_or-append s u 0 (first_from p s o) l) ∙ f.found l;
        before = λ k a b. ap p (get_or-append s u 0 k (omega arith)) ∙ f.before k a b;
      })

  late : length s ≤ first_from p s o → first_from p (s ++ u) o ≡ first_from p (s ++ u) (length s)
  late l =
      let f = first p s o h in
      skip p (s ++ u) o (length s) h longer
      (λ k a b. ap p (get_or-append s u 0 k b) ∙ f.before k a (omega arith))

-- each part of the scan, carried on, is that part over all that is held then
module _ (s u : List ℕ) (place : Place) where
  abbrev carried : Phase → Phase
  carried = carried_of (s ++ u) (length s) place

  inside : (x : ℕ) → x < length s → ltb x (length (s ++ u)) ≡ true
  inside x l = lt-ltb x (length (s ++ u)) (omega (arith, length-append s u))

  carry_unquoted : (key : Span) (o : ℕ) → o ≤ length s → carried (unquoted_from s key o) ≡ unquoted_from (s ++ u) key o
  unfolding unquoted_from carried_of
  carry_unquoted key o h = by (ltb (first_from is_space s o) (length s)) refl where
    by : (t : Bool) → ltb (first_from is_space s o) (length s) ≡ t → carried (pick t Due (InUnquoted key)) ≡ pick (ltb (first_from is_space (s ++ u) o) (length (s ++ u))) Due (InUnquoted key)
    by true e = let l = ltb-true _ _ e in rw (early s u is_space o h l, inside (first_from is_space s o) l)
    by false e = rw (late s u is_space o h (ltb-false _ _ e))

  -- the two quotes
  open_carried : (q : ℕ) (key : Span) → is_quote q ≡ true → carried (open_in q key) ≡ quoted_from (s ++ u) q key (length s)
  unfolding open_in carried_of is_quote
  open_carried q key = by (eqb q 34) refl where
    by : (t : Bool) → eqb q 34 ≡ t → (t || eqb q 39) ≡ true → carried (pick t (InDouble key) (InSingle key)) ≡ quoted_from (s ++ u) q key (length s)
    by true e i = rw (eqb-true q 34 e)
    by false e i = rw (eqb-true q 39 i)

  carry_quoted : (q : ℕ) (key : Span) (o : ℕ) → is_quote q ≡ true → o ≤ length s → carried (quoted_from s q key o) ≡ quoted_from (s ++ u) q key o
  unfolding quoted_from carried_of
  carry_quoted q key o i h = by (ltb (first_from (is_byte q) s o) (length s)) refl where
    by : (t : Bool) → ltb (first_from (is_byte q) s o) (length s) ≡ t → carried (pick t Due (open_in q key)) ≡ pick (ltb (first_from (is_byte q) (s ++ u) o) (length (s ++ u))) Due (open_in q key)
    by true e = let l = ltb-true _ _ e in rw (early s u (is_byte q) o h l, inside (first_from (is_byte q) s o) l)
    by false e = rw (late s u (is_byte q) o h (ltb-false _ _ e)) (open_carried q key i)

  carry_first : (key : Span) (v b : ℕ) → v < length s → carried (value_by s key v b) ≡ value_by (s ++ u) key v b
  unfolding value_by
  carry_first key v b l = by (is_quote b) refl where
    by : (q : Bool) → is_quote b ≡ q → carried (pick q (quoted_from s b key (v + 1)) (unquoted_from s key v)) ≡ pick q (quoted_from (s ++ u) b key (v + 1)) (unquoted_from (s ++ u) key v)
    by true i = carry_quoted b key (v + 1) i (omega arith)
    by false i = carry_unquoted key v (omega arith)

  carry_value : (key : Span) (o : ℕ) → o ≤ length s → carried (value_from s key o) ≡ value_from (s ++ u) key o
  unfolding value_from value_on carried_of
  carry_value key o h = by (ltb (first_from not_space s o) (length s)) refl where
    by : (t : Bool) → ltb (first_from not_space s o) (length s) ≡ t → carried (pick t (value_by s key (first_from not_space s o) (get_or s (first_from not_space s o) 0)) (BeforeValue key)) ≡ value_on (s ++ u) key (first_from not_space (s ++ u) o)
    by true e =
        let v = first_from not_space s o in
        let l = ltb-true _ _ e in
        rw (early s u not_space o h l, inside v l, get_or-append s u 0 v l) (carry_first key v (get_or s v 0) l)
    by false e = rw (late s u not_space o h (ltb-false _ _ e))

  carry_behind : (key : Span) (x b : ℕ) → x < length s → carried (after_by s key x b) ≡ after_by (s ++ u) key x b
  unfolding after_by carried_of
  carry_behind key x b l = by (eqb b 61) where
    by : (q : Bool) → carried (pick q (value_from s key (x + 1)) Due) ≡ pick q (value_from (s ++ u) key (x + 1)) Due
    by true = carry_value key (x + 1) (omega arith)
    by false = refl

  carry_after : (key : Span) (o : ℕ) → o ≤ length s → carried (after_from s key o) ≡ after_from (s ++ u) key o
  unfolding after_from after_on carried_of
  carry_after key o h = by (ltb (first_from not_space s o) (length s)) refl where
    by : (t : Bool) → ltb (first_from not_space s o) (length s) ≡ t → carried (pick t (after_by s key (first_from not_space s o) (get_or s (first_from not_space s o) 0)) (AfterKey key)) ≡ after_on (s ++ u) key (first_from not_space (s ++ u) o)
    by true e =
        let x = first_from not_space s o in
        let l = ltb-true _ _ e in
        rw (early s u not_space o h l, inside x l, get_or-append s u 0 x l) (carry_behind key x (get_or s x 0) l)
    by false e = rw (late s u not_space o h (ltb-false _ _ e))

  carry_key : (start o : ℕ) → o ≤ length s → carried (key_from s start o) ≡ key_from (s ++ u) start o
  unfolding key_from key_on carried_of
  carry_key start o h = by (ltb (first_from ends_key s o) (length s)) refl where
    by : (t : Bool) → ltb (first_from ends_key s o) (length s) ≡ t → carried (pick t (after_from s (span start (first_from ends_key s o)) (first_from ends_key s o)) (InKey start)) ≡ key_on (s ++ u) start (first_from ends_key (s ++ u) o)
    by true e =
        let l = ltb-true _ _ e in
        rw (early s u ends_key o h l, inside (first_from ends_key s o) l) (carry_after (span start (first_from ends_key s o)) (first_from ends_key s o) (omega arith))
    by false e = rw (late s u ends_key o h (ltb-false _ _ e))

  carry_space : (o : ℕ) → o ≤ length s → carried (space_from s o) ≡ space_from (s ++ u) o
  unfolding space_from space_on carried_of
  carry_space o h = by (ltb (first_from not_space s o) (length s)) refl where
    by : (t : Bool) → ltb (first_from not_space s o) (length s) ≡ t → carried (pick t (key_from s (first_from not_space s o) (first_from not_space s o + 1)) InSpace) ≡ space_on (s ++ u) (first_from not_space (s ++ u) o)
    by true e =
        let k = first_from not_space s o in
        let l = ltb-true _ _ e in
        rw (early s u not_space o h l, inside k l) (carry_key k (k + 1) (omega arith))
    by false e = rw (late s u not_space o h (ltb-false _ _ e))

  carry_skip : (o : ℕ) → o ≤ length s → carried (skip_from s o) ≡ skip_from (s ++ u) o
  unfolding skip_from skip_on carried_of
  carry_skip o h = by (ltb (first_from is_space s o) (length s)) refl where
    by : (t : Bool) → ltb (first_from is_space s o) (length s) ≡ t → carried (pick t (space_from s (first_from is_space s o)) InSkip) ≡ skip_on (s ++ u) (first_from is_space (s ++ u) o)
    by true e =
        let l = ltb-true _ _ e in
        rw (early s u is_space o h l, inside (first_from is_space s o) l) (carry_space (first_from is_space s o) (omega arith))
    by false e = rw (late s u is_space o h (ltb-false _ _ e))

-- The scan from its beginning. A skip place lies in what is held: at one past the end, bytes that are skipped over would be read.
carry_begun : (s u : List ℕ) (place : Place) → place_good s place ≡ true → carried_of (s ++ u) (length s) place (begin_at s place) ≡ begin_at (s ++ u) place
unfolding begin_at place_good carried_of
carry_begun s u Done g = refl
carry_begun s u (Next o) g = by (leb o (length s)) refl where
  by : (t : Bool) → leb o (length s) ≡ t → carried_of (s ++ u) (length s) (Next o) (pick t (space_from s o) Begin) ≡ pick (leb o (length (s ++ u))) (space_from (s ++ u) o) Begin
  by true e =
      let l = leb-true o (length s) e in
      rw (le-leb o (length (s ++ u)) (omega (arith, length-append s u))) (carry_space s u (Next o) o l)
  by false e = refl
carry_begun s u (SkipValue o) g = let l = ltb-true o (length s) g in carry_skip s u (SkipValue o) o (omega arith)
carry_begun s u (SkipEqValue o) g = let l = at_in s 61 o g in carry_skip s u (SkipEqValue o) o (omega arith)

-- What comes in carries a true phase on to a true one.
pub carry_true : (s p : List ℕ) (place : Place) (phase : Phase) → place_good s place ≡ true → True s place phase → True (s ++ p) place (carried_of (s ++ p) (length s) place phase)
unfolding carried_of
carry_true s p place phase g (unknown e) = known (rw e)
carry_true s p place phase g (known e) = known (rw e (carry_begun s p place g))

-- What a phase waits for, the step looks at: part by part, the value first.
module _ (s : List ℕ) (html checks : Bool) (keys : Keys) where
  abbrev Waits : Phase → Type 0
  Waits phase = waits_on s html checks keys phase ≡ true

  -- behind the `=` a phase waits for the value of a key that is not refused
  abbrev ForValue : Span → ℕ → Type 0
  ForValue key x = (refused_of s checks keys key ≡ false) × (length s ≤ look_value s html x)

  quoted_waits : (key : Span) (q o : ℕ) → Waits (quoted_from s q key o) → (refused_of s checks keys key ≡ false) × (length s ≤ first_from (is_byte q) s o)
  unfolding quoted_from open_in waits_on waiting_of waits_by
  quoted_waits key q o = by (ltb (first_from (is_byte q) s o) (length s)) refl where
    by_quote : (d : Bool) → Waits (pick d (InDouble key) (InSingle key)) → refused_of s checks keys key ≡ false
    by_quote true w = not-true _ w
    by_quote false w = not-true _ w

    by : (t : Bool) → ltb (first_from (is_byte q) s o) (length s) ≡ t → Waits (pick t Due (open_in q key)) → (refused_of s checks keys key ≡ false) × (length s ≤ first_from (is_byte q) s o)
    by true e w = absurd (false≢true w)
    by false e w = (by_quote (eqb q 34) w, ltb-false _ _ e)

  unquoted_waits : (key : Span) (o : ℕ) → Waits (unquoted_from s key o) → (html ≡ true) × (refused_of s checks keys key ≡ false) × (length s ≤ first_from is_space s o)
  unfolding unquoted_from waits_on waiting_of waits_by
  unquoted_waits key o = by (ltb (first_from is_space s o) (length s)) refl html refl where
    by : (t : Bool) → ltb (first_from is_space s o) (length s) ≡ t → (m : Bool) → html ≡ m → waits_on s m checks keys (pick t Due (InUnquoted key)) ≡ true → (m ≡ true) × (refused_of s checks keys key ≡ false) × (length s ≤ first_from is_space s o)
    by true e m h w = absurd (false≢true w)
    by false e true h w = (refl, not-true _ w, ltb-false _ _ e)
    by false e false h w = absurd (false≢true w)

  first_waits : (key : Span) (x v : ℕ) → v ≡ first_from not_space s (x + 1) → v < length s → Waits (value_by s key v (get_or s v 0)) → ForValue key x
  unfolding value_by look_value look_from look_in
  first_waits key x v here l = by (is_quote (get_or s v 0)) refl where
    by : (q : Bool) → is_quote (get_or s v 0) ≡ q → Waits (pick q (quoted_from s (get_or s v 0) key (v + 1)) (unquoted_from s key v)) → ForValue key x
    by true i w =
        let z = quoted_waits key (get_or s v 0) (v + 1) w in
        (z.0, rw (sym here, lt-ltb v (length s) l, i) z.1)
    by false i w =
        let z = unquoted_waits key v w in
        (z.1, rw (sym here, lt-ltb v (length s) l, i, z.0) z.2)

  value_waits : (key : Span) (x : ℕ) → Waits (value_from s key (x + 1)) → ForValue key x
  unfolding value_from value_on waits_on waiting_of waits_by look_value look_from
  value_waits key x = by (ltb (first_from not_space s (x + 1)) (length s)) refl where
    by : (t : Bool) → ltb (first_from not_space s (x + 1)) (length s) ≡ t → Waits (pick t (value_by s key (first_from not_space s (x + 1)) (get_or s (first_from not_space s (x + 1)) 0)) (BeforeValue key)) → ForValue key x
    by true e w = first_waits key x (first_from not_space s (x + 1)) refl (ltb-true _ _ e) w
    by false e w = (not-true _ w, rw e (ltb-false _ _ e))

  -- a key that is not refused is a new one
  fresh_look : (start e x : ℕ) → start < e → e ≤ length s → refused_of s checks keys (span start e) ≡ false → look_by s html x (check_of s checks keys (span start e)) ≡ look_value s html x
  unfolding refused_of key_good is_refused look_by
  fresh_look start e x l h r = by (check_of s checks keys (span start e)) (rw (lt-ltb start e l, le-leb e (length s) h) at r) where
    by : (c : Result ℕ KeyRefusal) → is_refused c ≡ false → look_by s html x c ≡ look_value s html x
    by (Ok n) z = refl
    by (Err (Same p)) z = absurd (true≢false z)
    by (Err Full) z = absurd (true≢false z)

  look_is : (o : ℕ) (k : Option KeyRead) → k ≡ key_at s o → look_key s html checks keys k ≡ look_at s html checks keys o
  unfolding look_at
  look_is o k e = rw e

  -- a key that starts at k
  module _ (o k : ℕ) (here : k ≡ first_from not_space s o) (l : k < length s) where
    after_waits : (e : ℕ) → e ≡ first_from ends_key s (k + 1) → e < length s → Waits (after_from s (span k e) e) → length s ≤ look_at s html checks keys o
    unfolding after_from after_on after_by waits_on waiting_of waits_by look_key
    after_waits e ends g = by (ltb (first_from not_space s e) (length s)) refl where
      by_byte : first_from not_space s e < length s → (q : Bool) → eqb (get_or s (first_from not_space s e) 0) 61 ≡ q → Waits (pick q (value_from s (span k e) (first_from not_space s e + 1)) Due) → length s ≤ look_at s html checks keys o
      by_byte i true q w =
          let z = value_waits (span k e) (first_from not_space s e) w in
          let f = (first ends_key s (k + 1) (omega arith)).ahead in
          let a = fresh_look k e (first_from not_space s e) (omega arith) (omega arith) z.0 in
          let b = look_is o (Some (Valued (span k e) (first_from not_space s e))) (key_valued s o k here l e (first_from not_space s e) ends refl i (eqb-true _ _ q)) in
          omega (arith, z.1)
      by_byte i false q w = absurd (false≢true w)

      by : (t : Bool) → ltb (first_from not_space s e) (length s) ≡ t → Waits (pick t (after_by s (span k e) (first_from not_space s e) (get_or s (first_from not_space s e) 0)) (AfterKey (span k e))) → length s ≤ look_at s html checks keys o
      by true t w = by_byte (ltb-true _ _ t) (eqb (get_or s (first_from not_space s e) 0) 61) refl w
      by false t w =
          let i = ltb-false _ _ t in
          let b = look_is o (Some (Bare (span k e) (first_from not_space s e))) (key_end s o k here l e (first_from not_space s e) ends refl i) in
          omega arith

    key_waits : Waits (key_from s k (k + 1)) → length s ≤ look_at s html checks keys o
    unfolding key_from key_on look_key
    key_waits = by (ltb (first_from ends_key s (k + 1)) (length s)) refl where
      by : (t : Bool) → ltb (first_from ends_key s (k + 1)) (length s) ≡ t → Waits (pick t (after_from s (span k (first_from ends_key s (k + 1))) (first_from ends_key s (k + 1))) (InKey k)) → length s ≤ look_at s html checks keys o
      by true t w = after_waits (first_from ends_key s (k + 1)) refl (ltb-true _ _ t) w
      by false t w =
          let e = first_from ends_key s (k + 1) in
          let i : length s ≤ e = ltb-false _ _ t in
          let p = past not_space s e i in
          let b = look_is o (Some (Bare (span k e) (first_from not_space s e))) (key_end s o k here l e (first_from not_space s e) refl refl (omega arith)) in
          omega arith

  space_waits : (o : ℕ) → Waits (space_from s o) → length s ≤ look_at s html checks keys o
  unfolding space_from space_on look_key
  space_waits o = by (ltb (first_from not_space s o) (length s)) refl where
    by : (t : Bool) → ltb (first_from not_space s o) (length s) ≡ t → Waits (pick t (key_from s (first_from not_space s o) (first_from not_space s o + 1)) InSpace) → length s ≤ look_at s html checks keys o
    by true t w = key_waits o (first_from not_space s o) refl (ltb-true _ _ t) w
    by false t w =
        let b = look_is o None (key_none s o (first_from not_space s o) refl (ltb-false _ _ t)) in
        omega arith

  skip_waits : (o : ℕ) → Waits (skip_from s o) → length s ≤ look_start s html checks keys (skip_of s o)
  unfolding skip_from skip_on skip_of skip_to look_start
  skip_waits o = by (ltb (first_from is_space s o) (length s)) where
    by : (t : Bool) → Waits (pick t (space_from s (first_from is_space s o)) InSkip) → length s ≤ look_start s html checks keys (pick t (Some (first_from is_space s o)) None)
    by true w = space_waits (first_from is_space s o) w
    by false w = omega arith

-- A phase that is where the scan stands waits only for bytes that the step looks at.
pub waits_look : (s : List ℕ) (html checks : Bool) (keys : Keys) (place : Place) → waits_on s html checks keys (begin_at s place) ≡ true → length s ≤ look_of s html checks keys place
unfolding begin_at look_of recover_of look_start waits_on waiting_of waits_by
waits_look s html checks keys Done w = absurd (false≢true w)
waits_look s html checks keys (Next o) w = by (leb o (length s)) w where
  by : (t : Bool) → waits_on s html checks keys (pick t (space_from s o) Begin) ≡ true → length s ≤ look_start s html checks keys (pick t (Some o) None)
  by true w = space_waits s html checks keys o w
  by false w = absurd (false≢true w)
waits_look s html checks keys (SkipValue o) w = skip_waits s html checks keys o w
waits_look s html checks keys (SkipEqValue o) w = skip_waits s html checks keys o w

-- So does any phase that is true.
pub true_looks : (s : List ℕ) (html checks : Bool) (keys : Keys) (place : Place) (phase : Phase) → True s place phase → waits_on s html checks keys phase ≡ true → length s ≤ look_of s html checks keys place
unfolding waits_on waiting_of waits_by
true_looks s html checks keys place phase (unknown e) w = absurd (false≢true (rw e at w))
true_looks s html checks keys place phase (known e) w = waits_look s html checks keys place (rw e at w)
