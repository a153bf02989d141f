-- One law for each way out of the scan.
use Prim.Native.Nat.{ℕ, ◌+◌, ◌≤◌, ◌<◌}
use mathlib.Core.Path.{◌≡◌, refl, sym}
use mathlib.Core.Bool.{Bool, true, false}
use mathlib.Core.List.{List}
use lib.ListN.{length, get_or}
use borrow.Author.Tests.{lt-ltb, le-ltb, le-leb, lt-leb}
use Rattle.std.specs.Result.{is_err}
use Rattle.std.proofs.Common.{Result, Ok, Err}
use Rattle.scan.specs.First.{first_from}
use Rattle.scan.specs.Bytes.{is_space, not_space, ends_key, is_byte}
use Rattle.tag_keys.specs.declared.KeyRefusal.{KeyRefusal}
use Rattle.tag_keys.specs.Keys.{key_good}
use Rattle.tag_step.specs.declared.Span.{Span}
use Rattle.tag_step.specs.Read.{span, is_quote}
use Rattle.tag_step.specs.Next.{Keys, check_of}
use Rattle.tag_phase.specs.declared.Phase.TheVariants.{InSkip, InSpace, InKey, AfterKey, BeforeValue, InUnquoted}
use Rattle.tag_phase.specs.Phase.{unquoted_from, open_in, quoted_from, value_by, value_on, value_from, after_on, after_from, key_on, key_from, space_on, space_from, skip_on, skip_from, is_refused, refused_of}

module _ (s : List ℕ) (key : Span) (o e : ℕ) (here : e ≡ first_from is_space s o) where
  pub unquoted_waits : length s ≤ e → InUnquoted key ≡ unquoted_from s key o
  unfolding unquoted_from
  unquoted_waits l = rw (sym here, le-ltb e (length s) l)

module _ (s : List ℕ) (q : ℕ) (key : Span) (o e : ℕ) (here : e ≡ first_from (is_byte q) s o) where
  pub quoted_waits : length s ≤ e → open_in q key ≡ quoted_from s q key o
  unfolding quoted_from
  quoted_waits l = rw (sym here, le-ltb e (length s) l)

module _ (s : List ℕ) (key : Span) (o v : ℕ) (here : v ≡ first_from not_space s o) where
  pub value_waits : length s ≤ v → BeforeValue key ≡ value_from s key o
  unfolding value_from value_on
  value_waits l = rw (sym here, le-ltb v (length s) l)

  pub value_quoted : v < length s → is_quote (get_or s v 0) ≡ true → quoted_from s (get_or s v 0) key (v + 1) ≡ value_from s key o
  unfolding value_from value_on value_by
  value_quoted l q = rw (sym here, lt-ltb v (length s) l, q)

  pub value_unquoted : v < length s → is_quote (get_or s v 0) ≡ false → unquoted_from s key v ≡ value_from s key o
  unfolding value_from value_on value_by
  value_unquoted l q = rw (sym here, lt-ltb v (length s) l, q)

module _ (s : List ℕ) (key : Span) (o x : ℕ) (here : x ≡ first_from not_space s o) where
  pub after_waits : length s ≤ x → AfterKey key ≡ after_from s key o
  unfolding after_from after_on
  after_waits l = rw (sym here, le-ltb x (length s) l)

module _ (s : List ℕ) (start o e : ℕ) (here : e ≡ first_from ends_key s o) where
  pub key_waits : length s ≤ e → InKey start ≡ key_from s start o
  unfolding key_from key_on
  key_waits l = rw (sym here, le-ltb e (length s) l)

  pub key_ends : e < length s → after_from s (span start e) e ≡ key_from s start o
  unfolding key_from key_on
  key_ends l = rw (sym here, lt-ltb e (length s) l)

module _ (s : List ℕ) (o k : ℕ) (here : k ≡ first_from not_space s o) where
  pub space_waits : length s ≤ k → InSpace ≡ space_from s o
  unfolding space_from space_on
  space_waits l = rw (sym here, le-ltb k (length s) l)

  pub space_ends : k < length s → key_from s k (k + 1) ≡ space_from s o
  unfolding space_from space_on
  space_ends l = rw (sym here, lt-ltb k (length s) l)

module _ (s : List ℕ) (o w : ℕ) (here : w ≡ first_from is_space s o) where
  pub skip_waits : length s ≤ w → InSkip ≡ skip_from s o
  unfolding skip_from skip_on
  skip_waits l = rw (sym here, le-ltb w (length s) l)

-- whether a key is refused: by its bounds, then by the verdict
module _ (s : List ℕ) (checks : Bool) (keys : Keys) (key : Span) where
  pub refused_empty : key.end ≤ key.start → false ≡ refused_of s checks keys key
  unfolding refused_of key_good
  refused_empty l = rw (le-ltb key.start key.end l)

  pub refused_outside : key.start < key.end → length s < key.end → false ≡ refused_of s checks keys key
  unfolding refused_of key_good
  refused_outside h l = rw (lt-ltb key.start key.end h, lt-leb key.end (length s) l)

  pub refused_asked : key.start < key.end → key.end ≤ length s → (c : Result ℕ KeyRefusal) → c ≡ check_of s checks keys key → is_refused c ≡ refused_of s checks keys key
  unfolding refused_of key_good
  refused_asked h l c e = rw (lt-ltb key.start key.end h, le-leb key.end (length s) l, e)

-- a verdict that refuses is an `Err`
pub refused_err : (c : Result ℕ KeyRefusal) → is_err c ≡ is_refused c
unfolding is_refused
refused_err (Ok n) = refl
refused_err (Err why) = refl
