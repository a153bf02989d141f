-- The crate's skip from `=`, with the branches that no state comes to, and the promise that none does: document 02, request 8.
use Rattle.std.specs.Prelude.{ℕ, ◌+◌, ◌<◌, ◌≡◌, true, false, List, length, get_or, ltb, Option, None}
use Rattle.scan.specs.First.{first_from, pick}
use Rattle.scan.specs.Bytes.{not_space, is_byte}
use Rattle.tag_step.specs.declared.Place.TheVariants.{SkipEqValue}
use Rattle.tag_step.specs.declared.IterState.{IterState}
use Rattle.tag_step.specs.Read.{is_quote, skip_to, skip_of}
use Rattle.tag_step.specs.Next.{state_good}

-- `IterState::skip_eq_value`, src/events/attributes.rs, from any place in the tag or at its end (past it the crate would panic).
-- It looks for the first byte that is no whitespace; the arms of its `match` on what it finds:
pub data SkipArm : Type 0 where
  -- a quote b, at x: the two quote branches, one for `"` and one for `'`
  quote : (x b : ℕ) → SkipArm
  -- another byte, at x
  other : (x : ℕ) → SkipArm
  -- nothing
  none : SkipArm

unfoldable pub skip_arm_at : List ℕ → ℕ → SkipArm
skip_arm_at s x = pick (ltb x (length s)) (pick (is_quote (get_or s x 0)) (quote x (get_or s x 0)) (other x)) none

unfoldable pub skip_arm_of : List ℕ → ℕ → SkipArm
skip_arm_of s o = skip_arm_at s (first_from not_space s o)

-- From a quote it goes to the next one of its kind, from another byte to whitespace, as `skip_value` does; where there is none,
-- and where nothing was found, iteration ends.
unfoldable pub skip_arm_goes : List ℕ → SkipArm → Option ℕ
skip_arm_goes s (quote x b) = skip_to s (first_from (is_byte b) s (x + 1))
skip_arm_goes s (other x) = skip_of s x
skip_arm_goes s none = None

unfoldable pub crate_skip_eq_value_of : List ℕ → ℕ → Option ℕ
crate_skip_eq_value_of s o = skip_arm_goes s (skip_arm_of s o)

-- At o stands `=`, which is what that search finds first: so it finds no quote, and does what `skip_value` does.
pub record PlainSkip (s : List ℕ) (o : ℕ) : Type 0 where
  pub inside : o < length s
  pub equals : get_or s o 0 ≡ 61
  pub first : first_from not_space s o ≡ o
  pub unquoted : is_quote (get_or s (first_from not_space s o) 0) ≡ false
  pub arm : skip_arm_of s o ≡ other o
  pub skips : crate_skip_eq_value_of s o ≡ skip_of s o

-- So it is for every tag and every state that 7 does not answer, at each skip-from-`=` place.
unfoldable pub DeadQuotes : Type 0
DeadQuotes = (s : List ℕ) (st : IterState) → state_good s st ≡ true → (o : ℕ) → st.place ≡ SkipEqValue o → PlainSkip s o
