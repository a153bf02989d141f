-- Reading a tag: where reading goes on, the key that stands there, and its value. Positions count from 0; each
-- definition takes the position that the one before it found.
use Rattle.std.specs.Prelude.{ℕ, ◌+◌, Bool, ◌&&◌, ◌||◌, List, length, get_or, eqb, ltb, leb, Some, Ok, Err, Option, None}
use Rattle.scan.specs.First.{first_from, pick}
use Rattle.scan.specs.Bytes.{is_space, not_space, ends_key, is_byte}
use Rattle.tag_step.specs.declared.Span.{Span}
use Rattle.tag_step.specs.declared.Place.{Place}
use Rattle.tag_step.specs.declared.Place.TheVariants.{Done, Next, SkipValue, SkipEqValue}
use Rattle.tag_step.specs.declared.KeyRead.{KeyRead}
use Rattle.tag_step.specs.declared.KeyRead.TheVariants.{Bare, Valued}
use Rattle.tag_step.specs.Answer.{Answer}
use Rattle.tag_step.specs.declared.Attr.TheVariants.{DoubleQ, SingleQ, Unquoted}
use Rattle.tag_step.specs.declared.AttrError.TheVariants.{ExpectedValue, UnquotedValue, ExpectedQuote}
use Rattle.tag_step.specs.declared.Found.{Found}

abbrev pub span : ℕ → ℕ → Span
span a e = record { start = a; end = e }

abbrev pub found : Answer → Place → Found
found a p = record { answer = a; place = p }

-- whether position x is in the tag and has the byte b
unfoldable pub is_at : List ℕ → ℕ → ℕ → Bool
is_at s b x = ltb x (length s) && eqb (get_or s x 0) b

-- the two quotes, `"` and `'`
unfoldable pub is_quote : ℕ → Bool
is_quote b = eqb b 34 || eqb b 39

-- Where reading goes on.

-- Resuming after 3 or a valued 5 goes to the first whitespace at or after the stated place, w; with none, iteration
-- ends.
unfoldable pub skip_to : List ℕ → ℕ → Option ℕ
skip_to s w = pick (ltb w (length s)) (Some w) None

unfoldable pub skip_of : List ℕ → ℕ → Option ℕ
skip_of s o = skip_to s (first_from is_space s o)

-- From a next place reading goes on right there, unless it lies past the end; from done, nowhere.
unfoldable pub recover_of : List ℕ → Place → Option ℕ
recover_of s Done = None
recover_of s (Next o) = pick (leb o (length s)) (Some o) None
recover_of s (SkipValue o) = skip_of s o
recover_of s (SkipEqValue o) = skip_of s o

-- The key.

-- A key has a value where the first byte at or after its end that is no whitespace, x, is `=`. Where it is another
-- byte, or the end, the key is bare.
unfoldable pub key_eq : List ℕ → Span → ℕ → Option KeyRead
key_eq s key x = pick (is_at s 61 x) (Some (Valued key x)) (Some (Bare key x))

unfoldable pub key_to : List ℕ → ℕ → ℕ → Option KeyRead
key_to s start end = key_eq s (span start end) (first_from not_space s end)

-- A key runs to the next `=` or whitespace after its first byte, so it may begin with `=`.
unfoldable pub key_from : List ℕ → ℕ → Option KeyRead
key_from s start = pick (ltb start (length s)) (key_to s start (first_from ends_key s (start + 1))) None

-- From the place, skip whitespace; the key starts there.
unfoldable pub key_at : List ℕ → ℕ → Option KeyRead
key_at s o = key_from s (first_from not_space s o)

-- The value.

-- an attribute whose value stands in the quotes q
unfoldable pub quoted : ℕ → Span → Span → Answer
quoted q key value = pick (eqb q 34) (Some (Ok (DoubleQ key value))) (Some (Ok (SingleQ key value)))

-- Reading goes on directly after the closing quote.
unfoldable pub closed_of : ℕ → Span → Span → Found
closed_of q key value = found (quoted q key value) (Next (value.end + 1))

-- A quote opens a value up to the same quote, at e. Where there is none, 4 leaves done.
unfoldable pub quoted_to : List ℕ → ℕ → Span → ℕ → ℕ → Found
quoted_to s q key a e = pick (ltb e (length s)) (closed_of q key (span a e)) (found (Some (Err (ExpectedQuote (length s) q))) Done)

unfoldable pub quoted_of : List ℕ → ℕ → Span → ℕ → Found
quoted_of s q key a = quoted_to s q key a (first_from (is_byte q) s a)

-- In HTML mode an unquoted value runs up to whitespace or the end, e, and that is the new place.
unfoldable pub unquoted_to : Span → ℕ → ℕ → Found
unquoted_to key v e = found (Some (Ok (Unquoted key (span v e)))) (Next e)

-- Another byte than a quote, at v, is 3, or in HTML mode an unquoted value.
unfoldable pub other_of : List ℕ → Bool → Span → ℕ → Found
other_of s html key v = pick html (unquoted_to key v (first_from is_space s v)) (found (Some (Err (UnquotedValue v))) (SkipValue v))

unfoldable pub value_by : List ℕ → Bool → Span → ℕ → ℕ → Found
value_by s html key v b = pick (is_quote b) (quoted_of s b key (v + 1)) (other_of s html key v)

-- Nothing after the `=` is 2, and leaves done.
unfoldable pub value_from : List ℕ → Bool → Span → ℕ → Found
value_from s html key v = pick (ltb v (length s)) (value_by s html key v (get_or s v 0)) (found (Some (Err (ExpectedValue (length s)))) Done)

-- The value is what stands after the `=` and whitespace.
unfoldable pub value_at : List ℕ → Bool → Span → ℕ → Found
value_at s html key eq = value_from s html key (first_from not_space s (eq + 1))
