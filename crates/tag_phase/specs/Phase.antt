-- How far the scan for the next answer has come in what is held of a tag that arrives in pieces. Mode and checks do not enter:
-- whoever has the key tables asks whether a phase waits (`waits_on`).
use Rattle.std.specs.Prelude.{ℕ, ◌+◌, Bool, true, false, not, ◌&&◌, List, length, get_or, eqb, ltb, leb, Result, Ok, Err}
use Rattle.scan.specs.First.{first_from, pick}
use Rattle.scan.specs.Bytes.{is_space, not_space, ends_key, is_byte}
use Rattle.tag_keys.specs.declared.KeyRefusal.{KeyRefusal}
use Rattle.tag_keys.specs.Keys.{key_good}
use Rattle.tag_step.specs.declared.Span.{Span}
use Rattle.tag_step.specs.declared.Place.{Place}
use Rattle.tag_step.specs.declared.Place.TheVariants.{Done, Next, SkipValue, SkipEqValue}
use Rattle.tag_step.specs.Read.{span, is_quote}
use Rattle.tag_step.specs.Next.{Keys, check_of}
use Rattle.tag_phase.specs.declared.Phase.{Phase}
use Rattle.tag_phase.specs.declared.Phase.TheVariants.{Begin, Due, InSkip, InSpace, InKey, AfterKey, BeforeValue, InDouble, InSingle, InUnquoted}
use Rattle.tag_phase.specs.declared.Waiting.{Waiting}
use Rattle.tag_phase.specs.declared.Waiting.TheVariants.{Never, Always, UnlessRefused}

-- The scan, from the middle on. Each definition takes the position from which it looks, and stops where the bytes end.

-- an unquoted value, up to whitespace
unfoldable pub unquoted_from : List ℕ → Span → ℕ → Phase
unquoted_from s key o = pick (ltb (first_from is_space s o) (length s)) Due (InUnquoted key)

-- inside the quotes q
unfoldable pub open_in : ℕ → Span → Phase
open_in q key = pick (eqb q 34) (InDouble key) (InSingle key)

-- a value in the quotes q, up to the same quote
unfoldable pub quoted_from : List ℕ → ℕ → Span → ℕ → Phase
quoted_from s q key o = pick (ltb (first_from (is_byte q) s o) (length s)) Due (open_in q key)

-- a value whose first byte, b, stands at v
unfoldable pub value_by : List ℕ → Span → ℕ → ℕ → Phase
value_by s key v b = pick (is_quote b) (quoted_from s b key (v + 1)) (unquoted_from s key v)

unfoldable pub value_on : List ℕ → Span → ℕ → Phase
value_on s key v = pick (ltb v (length s)) (value_by s key v (get_or s v 0)) (BeforeValue key)

-- behind the `=`: whitespace, and then the value
unfoldable pub value_from : List ℕ → Span → ℕ → Phase
value_from s key o = value_on s key (first_from not_space s o)

-- what follows a key, at x: its `=`, or a byte that makes it bare
unfoldable pub after_by : List ℕ → Span → ℕ → ℕ → Phase
after_by s key x b = pick (eqb b 61) (value_from s key (x + 1)) Due

unfoldable pub after_on : List ℕ → Span → ℕ → Phase
after_on s key x = pick (ltb x (length s)) (after_by s key x (get_or s x 0)) (AfterKey key)

unfoldable pub after_from : List ℕ → Span → ℕ → Phase
after_from s key o = after_on s key (first_from not_space s o)

-- a key, whose end is e
unfoldable pub key_on : List ℕ → ℕ → ℕ → Phase
key_on s start e = pick (ltb e (length s)) (after_from s (span start e) e) (InKey start)

unfoldable pub key_from : List ℕ → ℕ → ℕ → Phase
key_from s start o = key_on s start (first_from ends_key s o)

-- whitespace, and then a key, which starts at k
unfoldable pub space_on : List ℕ → ℕ → Phase
space_on s k = pick (ltb k (length s)) (key_from s k (k + 1)) InSpace

unfoldable pub space_from : List ℕ → ℕ → Phase
space_from s o = space_on s (first_from not_space s o)

-- a skip, up to whitespace at w
unfoldable pub skip_on : List ℕ → ℕ → Phase
skip_on s w = pick (ltb w (length s)) (space_from s w) InSkip

unfoldable pub skip_from : List ℕ → ℕ → Phase
skip_from s o = skip_on s (first_from is_space s o)

-- The scan from its beginning, at a place. Where reading is over, or the place is not reached yet, nothing is known.
unfoldable pub begin_at : List ℕ → Place → Phase
begin_at s Done = Begin
begin_at s (Next o) = pick (leb o (length s)) (space_from s o) Begin
begin_at s (SkipValue o) = skip_from s o
begin_at s (SkipEqValue o) = skip_from s o

-- What comes in from position o on carries a phase on: each goes on with what it waits for.
unfoldable pub carried_of : List ℕ → ℕ → Place → Phase → Phase
carried_of s o place Begin = begin_at s place
carried_of s o place Due = Due
carried_of s o place InSkip = skip_from s o
carried_of s o place InSpace = space_from s o
carried_of s o place (InKey start) = key_from s start o
carried_of s o place (AfterKey key) = after_from s key o
carried_of s o place (BeforeValue key) = value_from s key o
carried_of s o place (InDouble key) = quoted_from s 34 key o
carried_of s o place (InSingle key) = quoted_from s 39 key o
carried_of s o place (InUnquoted key) = unquoted_from s key o

-- Whether a phase waits, by mode: behind the `=` it does unless the key is refused, and an unquoted value is due in XML mode.
unfoldable pub waiting_of : Bool → Phase → Waiting
waiting_of html Begin = Never
waiting_of html Due = Never
waiting_of html InSkip = Always
waiting_of html InSpace = Always
waiting_of html (InKey start) = Always
waiting_of html (AfterKey key) = Always
waiting_of html (BeforeValue key) = UnlessRefused key
waiting_of html (InDouble key) = UnlessRefused key
waiting_of html (InSingle key) = UnlessRefused key
waiting_of html (InUnquoted key) = pick html (UnlessRefused key) Never

unfoldable pub is_refused : Result ℕ KeyRefusal → Bool
is_refused (Ok n) = false
is_refused (Err why) = true

-- 5 or 6 answers this key. Bounds that are no key's are those of a phase made by hand.
unfoldable pub refused_of : List ℕ → Bool → Keys → Span → Bool
refused_of s checks keys key =
    key_good (length s) key.start key.end && is_refused (check_of s checks keys key)

unfoldable pub waits_by : List ℕ → Bool → Keys → Waiting → Bool
waits_by s checks keys Never = false
waits_by s checks keys Always = true
waits_by s checks keys (UnlessRefused key) = not (refused_of s checks keys key)

-- whether a phase waits for bytes that are not held yet
unfoldable pub waits_on : List ℕ → Bool → Bool → Keys → Phase → Bool
waits_on s html checks keys phase = waits_by s checks keys (waiting_of html phase)
