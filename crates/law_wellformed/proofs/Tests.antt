-- How the tests of the grammar and those of the scans agree on a byte. Two bytes that a test tells apart are not equal.
use Prim.Native.Nat.{ℕ}
use mathlib.Core.Path.{◌≡◌, refl, sym, ap, ◌∙◌}
use mathlib.Core.Bool.{Bool, true, false, not, ◌||◌, true≢false, false≢true}
use mathlib.Core.List.{List, [], ◌∷◌}
use lib.Dec.{eqb}
use borrow.Author.Tests.{not-true, eqb-true}
use Rattle.scan.specs.Bytes.{is_space, not_space, ends_key, is_byte, bytes_from, bytes}
use Rattle.scan.proofs.Bytes.{both, both_false}
use Rattle.tag_step.specs.Read.{is_quote}
use Rattle.law_wellformed.specs.Grammar.{each, is_in, one_of, name_byte, digit, hex_digit, Quote, double, single, quote_byte, value_byte}

pub apart : (p : ℕ → Bool) (b y : ℕ) → p b ≡ true → p y ≡ false → eqb b y ≡ false
apart p b y h g = by (eqb b y) refl where
  by : (t : Bool) → eqb b y ≡ t → eqb b y ≡ false
  by true e = absurd (true≢false (sym h ∙ ap p (eqb-true b y e) ∙ g))
  by false e = e

-- a byte of a list whose bytes all pass a test
pub in_passes : (p : ℕ → Bool) (xs : List ℕ) (b : ℕ) → each p xs ≡ true → is_in xs b ≡ true → p b ≡ true
unfolding each is_in
in_passes p [] b all h = absurd (false≢true h)
in_passes p (x ∷ xs) b all h = by (eqb b x) refl (in_passes p xs b a.1) h where
  a : (p x ≡ true) × (each p xs ≡ true)
  a = both (p x) (each p xs) all

  by : (t : Bool) → eqb b x ≡ t → (is_in xs b ≡ true → p b ≡ true) → (t || is_in xs b) ≡ true → p b ≡ true
  by true e later g = ap p (eqb-true b x e) ∙ a.0
  by false e later g = later g

-- Whitespace.

pub space_fails : (b : ℕ) → is_space b ≡ true → not_space b ≡ false
unfolding not_space
space_fails b h = rw h

pub space_ends : (b : ℕ) → is_space b ≡ true → ends_key b ≡ true
unfolding ends_key
space_ends b h = by (eqb b 61) where
  by : (t : Bool) → (t || is_space b) ≡ true
  by true = refl
  by false = h

pub space_no_name : (b : ℕ) → is_space b ≡ true → name_byte b ≡ false
unfolding name_byte
space_no_name b h = rw h

-- Bytes of a name.

pub name_no_space : (b : ℕ) → name_byte b ≡ true → is_space b ≡ false
unfolding name_byte
name_no_space b h = (both_false (is_space b) _ (not-true _ h)).0

pub eq_no_name : name_byte 61 ≡ false
unfolding name_byte is_space one_of is_in bytes bytes_from
eq_no_name = refl

pub name_content : (b : ℕ) → name_byte b ≡ true → not_space b ≡ true
unfolding not_space
name_content b h = rw (name_no_space b h)

pub name_goes_on : (b : ℕ) → name_byte b ≡ true → ends_key b ≡ false
unfolding ends_key
name_goes_on b h = rw (apart name_byte b 61 h eq_no_name, name_no_space b h)

no_names : (name_byte 34 ≡ false) × (name_byte 39 ≡ false) × (name_byte 60 ≡ false) × (name_byte 38 ≡ false)
unfolding name_byte is_space one_of is_in bytes bytes_from
no_names = (refl, refl, refl, refl)

quote_no_name : (q : Quote) → name_byte (quote_byte q) ≡ false
unfolding quote_byte
quote_no_name double = no_names.0
quote_no_name single = no_names.1

-- a byte of a name may stand in a value, whatever its quotes
pub name_value : (q : Quote) (b : ℕ) → name_byte b ≡ true → value_byte q b ≡ true
unfolding value_byte one_of is_in bytes bytes_from
name_value q b h = rw (apart name_byte b 60 h no_names.2, apart name_byte b 38 h no_names.3, apart name_byte b (quote_byte q) h (quote_no_name q))

digits_are : each name_byte (bytes "0123456789") ≡ true
unfolding each name_byte is_space one_of is_in bytes bytes_from
digits_are = refl

pub digit_name : (b : ℕ) → digit b ≡ true → name_byte b ≡ true
unfolding digit one_of
digit_name b h = in_passes name_byte (bytes "0123456789") b digits_are h

hex_are : each name_byte (bytes "0123456789abcdefABCDEF") ≡ true
unfolding each name_byte is_space one_of is_in bytes bytes_from
hex_are = refl

pub hex_name : (b : ℕ) → hex_digit b ≡ true → name_byte b ≡ true
unfolding hex_digit one_of
hex_name b h = in_passes name_byte (bytes "0123456789abcdefABCDEF") b hex_are h

-- `=`, and quotes.

pub eq_ends : ends_key 61 ≡ true
unfolding ends_key
eq_ends = refl

pub quote_content : (q : Quote) → not_space (quote_byte q) ≡ true
unfolding not_space is_space quote_byte
quote_content double = refl
quote_content single = refl

pub quote_is : (q : Quote) → is_quote (quote_byte q) ≡ true
unfolding is_quote quote_byte
quote_is double = refl
quote_is single = refl

pub quote_closes : (q : Quote) → is_byte (quote_byte q) (quote_byte q) ≡ true
unfolding is_byte quote_byte
quote_closes double = refl
quote_closes single = refl

pub no_quote : (q : Quote) (b : ℕ) → not (eqb b (quote_byte q)) ≡ true → is_byte (quote_byte q) b ≡ false
unfolding is_byte
no_quote q b h = not-true (eqb b (quote_byte q)) h

quote_no_value : (q : Quote) → value_byte q (quote_byte q) ≡ false
unfolding value_byte one_of is_in bytes bytes_from quote_byte
quote_no_value double = refl
quote_no_value single = refl

-- a byte of a value is not its quote
pub value_no_quote : (q : Quote) (b : ℕ) → value_byte q b ≡ true → not (eqb b (quote_byte q)) ≡ true
value_no_quote q b h = rw (apart (value_byte q) b (quote_byte q) h (quote_no_value q))
