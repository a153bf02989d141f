-- Both theorems applied to tags that meet their premises: `damage_moves` where two values are struck, a key comes twice and
-- a quote is missing; `next_stable` to a tag that grows, and that its bound cannot be one higher.
use Prim.Native.Nat.{ℕ, zero, suc, ◌≤◌, ◌<◌}
use mathlib.Core.Path.{◌≡◌, refl, ap}
use mathlib.Core.Bool.{true, false}
use mathlib.Core.List.{List, [], ◌∷◌, ◌++◌, map}
use native.Mathlib.Omega.{arith}
use lib.ListN.{length, get_or}
use lib.Dec.{leb}
use borrow.Author.Tests.{leb-true}
use Rattle.std.specs.Prelude.{Some, Ok, Err}
use Rattle.scan.specs.First.{first_of, first_to, first_from}
use Rattle.scan.specs.Bytes.{is_space, not_space, ends_key, is_byte, part, same_bytes, bytes_from, bytes}
use Rattle.scan.proofs.Laws.{first}
use Rattle.tag_keys.specs.Hash.{times_prime, hash_from, hash_of}
use Rattle.tag_keys.specs.Keys.{key_good, hash_is, key_bad, count_good, table_good, name_at, same_key, oldest_of, earlier_of, checked_by, checked_of, written_by, count_by}
use Rattle.tag_keys.proofs.Laws.{keys_none}
use Rattle.tag_step.specs.declared.Attr.TheVariants.{SingleQ}
use Rattle.tag_step.specs.declared.AttrError.TheVariants.{UnquotedValue, ExpectedQuote, Duplicated}
use Rattle.tag_step.specs.declared.IterState.{IterState}
use Rattle.tag_step.specs.declared.Step.{Step}
use Rattle.tag_step.specs.Read.{span, is_at, is_quote, skip_to, skip_of, recover_of, key_eq, key_to, key_from, key_at, quoted, closed_of, quoted_to, quoted_of, unquoted_to, other_of, value_by, value_from, value_at}
use Rattle.tag_step.specs.Next.{check_of, kept_by, place_at, bare_by, bare_to, bare_of, valued_by, valued_to, valued_of, read_key, read_at, step_from, step_of, place_good, keys_of, state_good, no_keys, bad_reading, leaves, next_of, opened}
use Rattle.tag_step.specs.Run.{is_end, cons_unless, run_of, answers_of}
use Rattle.tag_step.specs.Look.{look_in, look_from, look_value, look_by, look_key, look_at, look_start, look_of, look_next}
use Rattle.tag_step.specs.Numbers.{numbers_of}
use Rattle.law_damage.specs.Damage.{Marked, kept, struck, was, whole_value, cuts, damaged, added, taken_out, moved, move_answer, becomes, IsRun, AllFit, Hurt}
use Rattle.law_damage.specs.Stable.{Agree, Before}
use Rattle.law_damage.proofs.Theorem.{damage_moves, opened_none}
use Rattle.law_damage.proofs.Stable.{next_stable, grown}

-- opened at 0 in XML mode with checks on
abbrev start : IterState
start = opened 0 false true

-- a run, by its tests
run_of_lem : (r : List ℕ) → leb 1 (length r) ≡ true → leb (length r) (first_from is_space r 0) ≡ true → is_quote (get_or r 0 0) ≡ false → IsRun r
run_of_lem r some solid plain =
    record {
      some = leb-true 1 (length r) some;
      solid = λ j h. (first is_space r 0 (omega arith)).before j (omega arith) (omega (arith, leb-true (length r) (first_from is_space r 0) solid));
      plain = plain;
    }

-- Damage.

abbrev tag : List ℕ
tag = bytes "a=\"12\" b='3' a=\"x\" c=\"4\" d=\""

abbrev marks : List Marked
marks =
    struck 34 (span 0 1) (span 3 5) (bytes "z")
    ∷ kept (Some (Ok (SingleQ (span 7 8) (span 10 11))))
    ∷ kept (Some (Err (Duplicated 13 0)))
    ∷ struck 34 (span 19 20) (span 22 23) (bytes "yyyyy")
    ∷ kept (Some (Err (ExpectedQuote 28 34)))
    ∷ []

marked : map was marks ≡ answers_of tag start
unfolding first_of first_to first_from is_space not_space ends_key is_byte part same_bytes bytes_from bytes times_prime hash_from hash_of key_good hash_is key_bad count_good table_good name_at same_key oldest_of earlier_of checked_by checked_of written_by count_by is_at is_quote skip_to skip_of recover_of key_eq key_to key_from key_at quoted closed_of quoted_to quoted_of unquoted_to other_of value_by value_from value_at check_of kept_by place_at bare_by bare_to bare_of valued_by valued_to valued_of read_key read_at step_from step_of place_good keys_of state_good no_keys bad_reading leaves next_of opened is_end cons_unless run_of answers_of was
marked = refl

fits : AllFit tag (cuts marks)
unfolding AllFit cuts whole_value first_of first_to first_from is_space is_quote bytes bytes_from
fits = (
  record { run = run_of_lem (bytes "z") refl refl refl; after = λ _. refl },
  (record { run = run_of_lem (bytes "yyyyy") refl refl refl; after = λ _. refl }, tt),
)

hurt : Hurt tag start marks
hurt = damage_moves tag start marks (opened_none 0 true) marked fits

-- What the theorem says of the damaged tag: the struck ones are 3, at their runs; what follows moves by -3, then by -1.
pub damage_example : answers_of (bytes "a=z b='3' a=\"x\" c=yyyyy d=\"") start ≡ Some (Err (UnquotedValue 2)) ∷ Some (Ok (SingleQ (span 4 5) (span 7 8))) ∷ Some (Err (Duplicated 10 0)) ∷ Some (Err (UnquotedValue 18)) ∷ Some (Err (ExpectedQuote 27 34)) ∷ []
unfolding cuts whole_value damaged added taken_out moved move_answer becomes part bytes bytes_from
damage_example = hurt.answers

-- Stability.

-- Whatever follows, the step is the same: it looks as far as the closing quote.
pub stable_example : (u : List ℕ) → next_of (bytes "a=\"1\" " ++ u) start ≡ next_of (bytes "a=\"1\" ") start
unfolding first_of first_to first_from is_space not_space ends_key is_byte part same_bytes bytes_from bytes times_prime hash_from hash_of key_good hash_is key_bad count_good table_good name_at same_key oldest_of earlier_of checked_by checked_of is_at is_quote skip_to skip_of recover_of key_eq key_to key_from key_at check_of place_good keys_of no_keys opened look_in look_from look_value look_by look_key look_at look_start look_of
stable_example u = next_stable (bytes "a=\"1\" ") (bytes "a=\"1\" " ++ u) 6 start (grown (bytes "a=\"1\" ") u) (record { keys = keys_none start.starts start.ends start.hashes (bytes "a=\"1\" "); place = refl }) (omega arith)

-- The last byte that is looked at has to be shared: `a=1` and `a='1'` share two, the step looks at the third.

shared : Agree (bytes "a=1") (bytes "a='1'") 2
unfolding bytes bytes_from
shared = record { in_s = omega arith; in_t = omega arith; byte = by } where
  by : (k : ℕ) → k < 2 → get_or (bytes "a=1") k 0 ≡ get_or (bytes "a='1'") k 0
  by zero h = refl
  by (suc zero) h = refl
  by (suc (suc k)) h = absurd (omega arith)

differ : numbers_of (next_of (bytes "a='1'") start).answer ≡ numbers_of (next_of (bytes "a=1") start).answer → ⊥
unfolding numbers_of first_of first_to first_from is_space not_space ends_key is_byte part same_bytes bytes_from bytes times_prime hash_from hash_of key_good hash_is key_bad count_good table_good name_at same_key oldest_of earlier_of checked_by checked_of written_by count_by is_at is_quote skip_to skip_of recover_of key_eq key_to key_from key_at quoted closed_of quoted_to quoted_of unquoted_to other_of value_by value_from value_at check_of kept_by place_at bare_by bare_to bare_of valued_by valued_to valued_of read_key read_at step_from step_of place_good keys_of state_good no_keys bad_reading leaves next_of opened
differ e = let z : ◌≡◌ {A = ℕ} 102 3 = cc in omega arith

pub stable_needs_less : ((s t : List ℕ) (m : ℕ) (st : IterState) → Agree s t m → Before s m st → look_next s st ≤ m → next_of t st ≡ next_of s st) → ⊥
unfolding first_of first_to first_from is_space not_space ends_key is_byte part same_bytes bytes_from bytes times_prime hash_from hash_of key_good hash_is key_bad count_good table_good name_at same_key oldest_of earlier_of checked_by checked_of is_at is_quote skip_to skip_of recover_of key_eq key_to key_from key_at check_of place_good keys_of no_keys opened look_in look_from look_value look_by look_key look_at look_start look_of
stable_needs_less f =
    differ (ap (λ (x : Step). numbers_of x.answer)
    (f (bytes "a=1") (bytes "a='1'") 2 start shared (record { keys = keys_none start.starts start.ends start.hashes (bytes "a="); place = refl }) (omega arith)))
