-- Phases of tags that arrive in pieces, and both laws applied to them.
use Prim.Native.Nat.{ℕ, ◌≤◌}
use mathlib.Core.Path.{◌≡◌, refl}
use mathlib.Core.Bool.{true, false}
use mathlib.Core.List.{List, [], ◌∷◌, ◌++◌}
use native.Mathlib.Omega.{arith}
use Rattle.scan.specs.First.{first_of, first_to, first_from}
use Rattle.scan.specs.Bytes.{is_space, not_space, ends_key, is_byte, part, same_bytes, bytes_from, bytes}
use Rattle.tag_keys.specs.Keys.{key_good, name_at, same_key, oldest_of, earlier_of, checked_by, checked_of}
use Rattle.tag_step.specs.declared.Place.TheVariants.{Next, SkipValue}
use Rattle.tag_step.specs.Read.{span, is_quote}
use Rattle.tag_step.specs.Next.{check_of, keys_lent, no_keys, place_good}
use Rattle.tag_step.specs.Look.{look_of}
use Rattle.tag_phase.specs.declared.Phase.TheVariants.{Due, InSkip, BeforeValue, InDouble, InUnquoted}
use Rattle.tag_phase.specs.Phase.{open_in, quoted_from, value_by, value_on, value_from, after_by, after_on, after_from, key_on, key_from, space_on, space_from, skip_on, skip_from, begin_at, carried_of, waiting_of, is_refused, refused_of, waits_by, waits_on}
use Rattle.tag_phase.specs.Truth.{True, unknown, known}
use Rattle.tag_phase.proofs.Truth.{carry_true, waits_look}

-- a value whose closing quote is not held yet
abbrev piece : List ℕ
piece = bytes " a = \"1"

pub stands_in_value : begin_at piece (Next 0) ≡ InDouble (span 1 2)
unfolding first_of first_to first_from is_space not_space ends_key is_byte bytes_from bytes is_quote open_in quoted_from value_by value_on value_from after_by after_on after_from key_on key_from space_on space_from begin_at
stands_in_value = refl

-- With the quote the answer is due, as a scan of the whole says.
pub carry_example : True (piece ++ bytes "\" b") (Next 0) Due
unfolding first_of first_to first_from is_space not_space ends_key is_byte bytes_from bytes is_quote open_in quoted_from value_by value_on value_from after_by after_on after_from key_on key_from space_on space_from begin_at place_good carried_of
carry_example = carry_true piece (bytes "\" b") (Next 0) (InDouble (span 1 2)) refl (known refl)

-- It waits for the quote, and so the step looks past what is held.
pub waits_example : 7 ≤ look_of piece false true no_keys (Next 0)
unfolding first_of first_to first_from is_space not_space ends_key is_byte part same_bytes bytes_from bytes key_good name_at same_key oldest_of earlier_of checked_by checked_of is_quote check_of no_keys open_in quoted_from value_by value_on value_from after_by after_on after_from key_on key_from space_on space_from begin_at waiting_of is_refused refused_of waits_by waits_on
waits_example = waits_look piece false true no_keys (Next 0) refl

-- A key that 5 refuses is not waited for: `a` is recorded, and comes again.
pub refused_is_due : waits_on (bytes "a='1' a=") false true (keys_lent (0 ∷ []) (1 ∷ []) (0 ∷ []) 1) (BeforeValue (span 6 7)) ≡ false
unfolding first_of first_to part same_bytes bytes_from bytes key_good name_at same_key oldest_of earlier_of checked_by checked_of check_of waiting_of is_refused refused_of waits_by waits_on
refused_is_due = refl

-- An unquoted value is waited for in HTML mode alone.
pub unquoted_by_mode : (waits_on (bytes "a=1") true false no_keys (InUnquoted (span 0 1)) ≡ true) × (waits_on (bytes "a=1") false false no_keys (InUnquoted (span 0 1)) ≡ false)
unfolding bytes_from bytes key_good checked_of check_of waiting_of is_refused refused_of waits_by waits_on
unquoted_by_mode = (refl, refl)

-- A skip place past what is held is not good, and there a phase would not be carried on rightly: the whitespace before the place
-- would end the skip.
pub carry_needs_good : True (bytes "a" ++ bytes " b") (SkipValue 2) (carried_of (bytes "a" ++ bytes " b") 1 (SkipValue 2) InSkip) → ⊥
unfolding first_of first_to first_from is_space not_space bytes_from bytes key_on key_from space_on space_from skip_on skip_from begin_at carried_of
carry_needs_good (unknown e) = let z : ◌≡◌ {A = ℕ} 0 1 = cc in omega arith
carry_needs_good (known e) = let z : ◌≡◌ {A = ℕ} 0 1 = cc in omega arith
