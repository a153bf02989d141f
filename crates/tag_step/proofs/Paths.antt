-- What each definition of specs/Read and specs/Next is, for each way that the code can go: a law for each `return`.
use Prim.Native.Nat.{ℕ, ◌+◌, ◌≤◌, ◌<◌}
use mathlib.Core.Path.{◌≡◌, sym, ◌∙◌}
use mathlib.Core.Bool.{Bool, true, false}
use mathlib.Core.List.{List}
use lib.ListN.{length, get_or}
use borrow.Author.Tests.{lt-ltb, le-ltb, le-leb, eq-eqb}
use Rattle.std.proofs.Common.{Some, None, Ok, Err}
use Rattle.scan.specs.First.{first_from}
use Rattle.scan.specs.Bytes.{is_space, not_space, ends_key, is_byte}
use Rattle.tag_step.specs.declared.Span.{Span}
use Rattle.tag_step.specs.declared.Place.TheVariants.{Done, Next, SkipValue}
use Rattle.tag_step.specs.declared.KeyRead.TheVariants.{Bare, Valued}
use Rattle.tag_step.specs.declared.Attr.TheVariants.{Unquoted}
use Rattle.tag_step.specs.declared.AttrError.TheVariants.{ExpectedValue, UnquotedValue, ExpectedQuote}
use Rattle.tag_step.specs.Read.{span, found, is_at, is_quote, recover_of, key_eq, key_to, key_from, key_at, closed_of, quoted_to, quoted_of, unquoted_to, other_of, value_by, value_from, value_at}

-- recover_of

pub next_from : (s : List ℕ) (o : ℕ) → o ≤ length s → Some o ≡ recover_of s (Next o)
unfolding recover_of
next_from s o h = rw (le-leb o (length s) h)

-- key_at

module _ (s : List ℕ) (from start : ℕ) (a : start ≡ first_from not_space s from) where
  pub key_none : length s ≤ start → None ≡ key_at s from
  unfolding key_at key_from
  key_none h = rw (sym a, le-ltb start (length s) h)

  module _ (in-tag : start < length s) (end at : ℕ) (b : end ≡ first_from ends_key s (start + 1)) (d : at ≡ first_from not_space s end) where
    key_is : key_at s from ≡ key_eq s (span start end) at
    unfolding key_at key_from key_to
    key_is = rw (sym a, lt-ltb start (length s) in-tag, sym b, sym d)

    pub key_end : length s ≤ at → Some (Bare (span start end) at) ≡ key_at s from
    unfolding key_eq is_at
    key_end h = sym (key_is ∙ rw (le-ltb at (length s) h))

    pub key_valued : at < length s → get_or s at 0 ≡ 61 → Some (Valued (span start end) at) ≡ key_at s from
    unfolding key_eq is_at
    key_valued h e = sym (key_is ∙ rw (lt-ltb at (length s) h, eq-eqb (get_or s at 0) 61 e))

-- quoted_of

module _ (s : List ℕ) (q : ℕ) (key : Span) (a e : ℕ) (here : e ≡ first_from (is_byte q) s a) where
  pub quoted_open : length s ≤ e → found (Some (Err (ExpectedQuote (length s) q))) Done ≡ quoted_of s q key a
  unfolding quoted_of quoted_to
  quoted_open h = rw (sym here, le-ltb e (length s) h)

  pub quoted_closed : e < length s → closed_of q key (span a e) ≡ quoted_of s q key a
  unfolding quoted_of quoted_to
  quoted_closed h = rw (sym here, lt-ltb e (length s) h)

-- value_at

module _ (s : List ℕ) (html : Bool) (key : Span) (eq v : ℕ) (a : v ≡ first_from not_space s (eq + 1)) where
  pub value_none : length s ≤ v → found (Some (Err (ExpectedValue (length s)))) Done ≡ value_at s html key eq
  unfolding value_at value_from
  value_none h = rw (sym a, le-ltb v (length s) h)

  module _ (in-tag : v < length s) where
    value_is : value_at s html key eq ≡ value_by s html key v (get_or s v 0)
    unfolding value_at value_from
    value_is = rw (sym a, lt-ltb v (length s) in-tag)

    pub value_quoted : is_quote (get_or s v 0) ≡ true → quoted_of s (get_or s v 0) key (v + 1) ≡ value_at s html key eq
    unfolding value_by
    value_quoted q = sym (value_is ∙ rw q)

    module _ (other : is_quote (get_or s v 0) ≡ false) where
      pub value_unquoted : html ≡ true → (e : ℕ) → e ≡ first_from is_space s v → found (Some (Ok (Unquoted key (span v e)))) (Next e) ≡ value_at s html key eq
      unfolding value_by other_of unquoted_to
      value_unquoted on e b = sym (value_is ∙ rw (other, on, sym b))

      pub value_bad : html ≡ false → found (Some (Err (UnquotedValue v))) (SkipValue v) ≡ value_at s html key eq
      unfolding value_by other_of
      value_bad off = sym (value_is ∙ rw (other, off))
