-- The ways that reading can go: what holds of each way, and of how far it looks, holds of the reading. One eliminator for
-- a value, one for a step.
use Prim.Native.Nat.{ℕ, ◌+◌, ◌≤◌, ◌<◌}
use mathlib.Core.Path.{◌≡◌, refl, sym, subst₂, ◌∙◌}
use mathlib.Core.Bool.{Bool, true, false}
use mathlib.Core.List.{List}
use lib.ListN.{length, get_or}
use lib.Dec.{ltb}
use borrow.Author.Tests.{lt-ltb, le-ltb, ltb-true, ltb-false}
use Rattle.std.proofs.Common.{Result, Option, Some, None}
use Rattle.std.specs.Prelude.{Ok, Err}
use Rattle.scan.specs.First.{first_from, pick}
use Rattle.scan.specs.Bytes.{is_space, not_space, is_byte}
use Rattle.tag_keys.specs.declared.KeyRefusal.{KeyRefusal}
use Rattle.tag_step.specs.declared.Span.{Span}
use Rattle.tag_step.specs.declared.Place.TheVariants.{Done, Next, SkipValue}
use Rattle.tag_step.specs.declared.KeyRead.{KeyRead}
use Rattle.tag_step.specs.declared.KeyRead.TheVariants.{Bare, Valued}
use Rattle.tag_step.specs.declared.Attr.TheVariants.{Unquoted}
use Rattle.tag_step.specs.declared.AttrError.TheVariants.{ExpectedEq, ExpectedValue, UnquotedValue, ExpectedQuote}
use Rattle.tag_step.specs.declared.Found.{Found}
use Rattle.tag_step.specs.Read.{span, found, is_at, is_quote, key_at, closed_of, value_at}
use Rattle.tag_step.specs.Next.{Keys, Reading, reading, check_of, place_at, bare_to, bare_of, valued_to, valued_of, read_key, read_at}
use Rattle.tag_step.specs.Look.{look_in, look_from, look_value, look_by, look_key, look_at}
use Rattle.tag_step.proofs.Paths.{quoted_open, quoted_closed, value_none, value_quoted, value_unquoted, value_bad}
use Rattle.tag_step.proofs.Whole.{KeyBy, KeyIn, key_in}

-- the value whose first byte stands at v
module _ (s : List ℕ) (html : Bool) (key : Span) (eq v : ℕ) (here : v ≡ first_from not_space s (eq + 1)) where
  pub look_none : length s ≤ v → v ≡ look_value s html eq
  unfolding look_value look_from
  look_none l = rw (sym here, le-ltb v (length s) l)

  pub look_quoted : v < length s → is_quote (get_or s v 0) ≡ true → first_from (is_byte (get_or s v 0)) s (v + 1) ≡ look_value s html eq
  unfolding look_value look_from look_in
  look_quoted l q = rw (sym here, lt-ltb v (length s) l, q)

  pub look_other : v < length s → is_quote (get_or s v 0) ≡ false → (h : Bool) → html ≡ h → pick h (first_from is_space s v) v ≡ look_value s html eq
  unfolding look_value look_from look_in
  look_other l q h m = rw (sym here, lt-ltb v (length s) l, q, m)

  pub value_ways : (P : Found → ℕ → Type 0)
      → (length s ≤ v → P (found (Some (Err (ExpectedValue (length s)))) Done) v)
      → ((e : ℕ) → v < length s → is_quote (get_or s v 0) ≡ true → e ≡ first_from (is_byte (get_or s v 0)) s (v + 1) → e < length s → P (closed_of (get_or s v 0) key (span (v + 1) e)) e)
      → ((e : ℕ) → v < length s → is_quote (get_or s v 0) ≡ true → e ≡ first_from (is_byte (get_or s v 0)) s (v + 1) → length s ≤ e → P (found (Some (Err (ExpectedQuote (length s) (get_or s v 0)))) Done) e)
      → ((e : ℕ) → v < length s → is_quote (get_or s v 0) ≡ false → html ≡ true → e ≡ first_from is_space s v → P (found (Some (Ok (Unquoted key (span v e)))) (Next e)) e)
      → (v < length s → is_quote (get_or s v 0) ≡ false → html ≡ false → P (found (Some (Err (UnquotedValue v))) (SkipValue v)) v)
      → P (value_at s html key eq) (look_value s html eq)
  value_ways P none closed unclosed unquoted bad = by (ltb v (length s)) refl where
    by_quote : v < length s → is_quote (get_or s v 0) ≡ true → (t : Bool) → ltb (first_from (is_byte (get_or s v 0)) s (v + 1)) (length s) ≡ t → P (value_at s html key eq) (look_value s html eq)
    by_quote l q true e =
        subst₂ P (quoted_closed s (get_or s v 0) key (v + 1) _ refl (ltb-true _ _ e) ∙ value_quoted s html key eq v here l q) (look_quoted l q)
        (closed _ l q refl (ltb-true _ _ e))
    by_quote l q false e =
        subst₂ P (quoted_open s (get_or s v 0) key (v + 1) _ refl (ltb-false _ _ e) ∙ value_quoted s html key eq v here l q) (look_quoted l q)
        (unclosed _ l q refl (ltb-false _ _ e))

    by_mode : v < length s → is_quote (get_or s v 0) ≡ false → (h : Bool) → html ≡ h → P (value_at s html key eq) (look_value s html eq)
    by_mode l q true m = subst₂ P (value_unquoted s html key eq v here l q m _ refl) (look_other l q true m) (unquoted _ l q m refl)
    by_mode l q false m = subst₂ P (value_bad s html key eq v here l q m) (look_other l q false m) (bad l q m)

    by_byte : v < length s → (q : Bool) → is_quote (get_or s v 0) ≡ q → P (value_at s html key eq) (look_value s html eq)
    by_byte l true q = by_quote l q _ refl
    by_byte l false q = by_mode l q html refl

    by : (t : Bool) → ltb v (length s) ≡ t → P (value_at s html key eq) (look_value s html eq)
    by true e = by_byte (ltb-true _ _ e) _ refl
    by false e = subst₂ P (value_none s html key eq v here (ltb-false _ _ e)) (look_none (ltb-false _ _ e)) (none (ltb-false _ _ e))

-- a step from o: no key; a bare one in XML mode; one in HTML mode, with its verdict; one that has a value, with its verdict
module _ (s : List ℕ) (html checks : Bool) (keys : Keys) (o : ℕ) (h : o ≤ length s) where
  pub step_ways : (P : Reading → ℕ → Type 0)
      → (key_at s o ≡ None → P (reading (found None Done) keys) (length s))
      → ((key : Span) (at : ℕ) → key_at s o ≡ Some (Bare key at) → KeyBy (length s) o key at → html ≡ false → P (reading (found (Some (Err (ExpectedEq at))) (place_at s at)) keys) at)
      → ((key : Span) (at : ℕ) (c : Result ℕ KeyRefusal) → key_at s o ≡ Some (Bare key at) → KeyBy (length s) o key at → html ≡ true → c ≡ check_of s checks keys key → P (bare_to s checks keys key at c) at)
      → ((key : Span) (eq : ℕ) (c : Result ℕ KeyRefusal) → key_at s o ≡ Some (Valued key eq) → KeyBy (length s) o key eq → is_at s 61 eq ≡ true → c ≡ check_of s checks keys key → P (valued_to s html checks keys key eq c) (look_by s html eq c))
      → P (read_at s html checks keys o) (look_at s html checks keys o)
  unfolding read_at look_at read_key look_key KeyIn bare_of valued_of
  step_ways P none xml bare valued = by (key_at s o) refl (key_in s o h) where
    by_mode : (key : Span) (at : ℕ) → key_at s o ≡ Some (Bare key at) → KeyBy (length s) o key at → (m : Bool) → html ≡ m → P (pick m (bare_to s checks keys key at (check_of s checks keys key)) (reading (found (Some (Err (ExpectedEq at))) (place_at s at)) keys)) at
    by_mode key at e i true m = bare key at _ e i m refl
    by_mode key at e i false m = xml key at e i m

    by : (k : Option KeyRead) → key_at s o ≡ k → KeyIn s o k → P (read_key s html checks keys k) (look_key s html checks keys k)
    by None e i = none e
    by (Some (Bare key at)) e i = by_mode key at e i html refl
    by (Some (Valued key eq)) e i = valued key eq _ e i.0 i.1 refl
