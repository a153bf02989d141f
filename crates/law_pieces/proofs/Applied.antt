-- The theorems applied to small inputs: their premises can be met, and what they say computes.
use Prim.Native.Nat.{ℕ, ◌+◌, ◌≤◌}
use mathlib.Core.Path.{◌≡◌, refl}
use mathlib.Core.Bool.{true, false}
use mathlib.Core.List.{List, [], ◌∷◌, ◌++◌}
use native.Mathlib.Omega.{arith}
use lib.ListN.{length, replicate, length-replicate}
use borrow.Author.Tests.{leb-true, ltb-true}
use Rattle.std.specs.Prelude.{Some, Ok, Err, None}
use Rattle.scan.specs.First.{first_of, first_to, first_from}
use Rattle.scan.specs.Bytes.{is_space, not_space, ends_key, is_byte, part, same_bytes, bytes_from, bytes}
use Rattle.scan.specs.Lists.{over, pad_to}
use Rattle.tag_keys.specs.Hash.{times_prime, hash_from, hash_of}
use Rattle.tag_keys.specs.Keys.{key_good, hash_is, key_bad, count_good, table_good, name_at, same_key, oldest_of, earlier_of, checked_by, checked_of, written_by, count_by}
use Rattle.tag_step.specs.declared.Attr.TheVariants.{SingleQ, Unquoted, Empty}
use Rattle.tag_step.specs.declared.AttrError.TheVariants.{ExpectedEq, Duplicated, BadState}
use Rattle.tag_step.specs.declared.Place.TheVariants.{SkipValue}
use Rattle.tag_step.specs.Read.{span, is_at, is_quote, skip_to, skip_of, recover_of, key_eq, key_to, key_from, key_at, quoted, closed_of, quoted_to, quoted_of, unquoted_to, other_of, value_by, value_from, value_at}
use Rattle.tag_step.specs.Next.{check_of, kept_by, place_at, bare_by, bare_to, bare_of, valued_by, valued_to, valued_of, read_key, read_at, step_from, step_of, place_good, keys_of, state_good, no_keys, leaves, next_of, standing, opened}
use Rattle.tag_step.specs.Look.{look_in, look_from, look_value, look_by, look_key, look_at, look_start, look_of, look_next}
use Rattle.tag_step.specs.Lent.{whole_of, whole_next, needs_more, stepped_of}
use Rattle.tag_step.specs.Run.{is_end, cons_unless, run_of, answers_of}
use Rattle.tag_phase.specs.Phase as phase
use Rattle.tag_phase.specs.declared.Phase.TheVariants.{Begin, Due}
use Rattle.tag_pieces.specs.declared.Reader.{Reader}
use Rattle.tag_pieces.specs.Reader.{held_of, iterator_of, fed_of, grown_by, piece_in, holding, piece_of, finished_as, finish_of, reader_good, moved, emptied, waits_for, took, answered_of, take_of, opened_reader, fed_number}
use Rattle.tag_takes.specs.Takes.{takes_of}
use Rattle.law_pieces.specs.Pieces.{Event, Piece, Finish, Ask, after, after_all, reached, told_by, told_at, told_of, pieces_of, no_piece, pieces_first, NotReady, LastByte}
use Rattle.law_pieces.proofs.Takes.{more_stays, seven_empties, never_early, refused_stays}
use Rattle.law_pieces.proofs.Looks.{look_of_answer}
use Rattle.law_pieces.proofs.Theorem.{pieces_agree, held_whole, pieces_whole, take_exactly, reader_stays_good}

-- Answers.

-- XML mode with checks. The first take finds no value yet, the fourth no key; the last piece comes after the finish, and is 32.
abbrev events : List Event
events = Piece (bytes "a=") ∷ Ask ∷ Piece (bytes "'1' a='2' ") ∷ Ask ∷ Ask ∷ Ask ∷ Piece (bytes "b") ∷ Finish ∷ Piece (bytes "c='3'") ∷ []

-- what was told by then
pub told_example : told_of events (opened_reader 0 false true) ≡ Some (Ok (SingleQ (span 0 1) (span 3 4))) ∷ Some (Err (Duplicated 6 0)) ∷ []
unfolding first_of first_to first_from is_space not_space ends_key is_byte part same_bytes bytes_from bytes over pad_to times_prime hash_from hash_of key_good hash_is key_bad count_good table_good name_at same_key oldest_of earlier_of checked_by checked_of written_by count_by is_at is_quote skip_to skip_of recover_of key_eq key_to key_from key_at quoted closed_of quoted_to quoted_of value_by value_from value_at check_of kept_by valued_by valued_to valued_of read_key read_at step_from step_of place_good keys_of state_good no_keys leaves next_of look_in look_from look_value look_by look_key look_at look_start look_of whole_of whole_next needs_more stepped_of is_end cons_unless phase.quoted_from phase.value_by phase.value_on phase.value_from phase.after_by phase.after_on phase.after_from phase.key_on phase.key_from phase.space_on phase.space_from phase.begin_at phase.carried_of phase.waiting_of phase.is_refused phase.refused_of phase.waits_by phase.waits_on held_of fed_of grown_by piece_in piece_of reader_good waits_for answered_of take_of opened_reader after told_by told_at told_of
told_example = refl

-- and with what comes after the finish all answers of `a='1' a='2' b`
pub pieces_example : told_of events (opened_reader 0 false true) ++ (takes_of 14 (finish_of (reached 0 false true events)).reader).answers ≡ Some (Ok (SingleQ (span 0 1) (span 3 4))) ∷ Some (Err (Duplicated 6 0)) ∷ Some (Err (ExpectedEq 13)) ∷ []
unfolding first_of first_to first_from is_space not_space ends_key is_byte part same_bytes bytes_from bytes over pad_to times_prime hash_from hash_of key_good hash_is key_bad count_good table_good name_at same_key oldest_of earlier_of checked_by checked_of written_by count_by is_at is_quote skip_to skip_of recover_of key_eq key_to key_from key_at quoted closed_of quoted_to quoted_of value_by value_from value_at check_of kept_by place_at bare_of valued_by valued_to valued_of read_key read_at step_from step_of place_good keys_of state_good no_keys leaves next_of opened look_in look_from look_value look_by look_key look_at look_start look_of whole_of whole_next needs_more stepped_of is_end cons_unless run_of answers_of phase.quoted_from phase.value_by phase.value_on phase.value_from phase.after_by phase.after_on phase.after_from phase.key_on phase.key_from phase.space_on phase.space_from phase.begin_at phase.carried_of phase.waiting_of phase.is_refused phase.refused_of phase.waits_by phase.waits_on held_of fed_of grown_by piece_in piece_of finished_as finish_of reader_good waits_for answered_of take_of opened_reader after after_all
pieces_example = pieces_agree 0 false true events 14 (ltb-true (length (held_of (reached 0 false true events))) 14 refl)

-- HTML mode without checks, cut inside a key, before a value and behind it
abbrev cut : List Event
cut = Piece (bytes "a") ∷ Ask ∷ Piece (bytes "=1") ∷ Ask ∷ Piece (bytes " b") ∷ Ask ∷ Finish ∷ Ask ∷ []

pub held_example : held_of (reached 0 true false cut) ≡ bytes "a=1 b"
unfolding bytes_from bytes pieces_of pieces_first no_piece
held_example = held_whole 0 true false cut (leb-true (length (pieces_of cut)) 65536 refl) refl

pub whole_example : told_of cut (opened_reader 0 true false) ++ (takes_of 6 (finish_of (reached 0 true false cut)).reader).answers ≡ Some (Ok (Unquoted (span 0 1) (span 2 3))) ∷ Some (Ok (Empty (span 4 5))) ∷ []
unfolding first_of first_to first_from is_space not_space ends_key bytes_from bytes count_good table_good checked_of written_by count_by is_at is_quote recover_of key_eq key_to key_from key_at unquoted_to other_of value_by value_from value_at check_of kept_by place_at bare_by bare_to bare_of valued_by valued_to valued_of read_key read_at step_from step_of place_good keys_of state_good no_keys leaves next_of opened is_end cons_unless run_of answers_of pieces_of no_piece pieces_first
whole_example = pieces_whole 0 true false cut 6 (leb-true (length (pieces_of cut)) 65536 refl) refl (ltb-true (length (pieces_of cut)) 6 refl)

-- The moment.

-- without the closing quote, and with it
abbrev unclosed : Reader
unclosed = reached 0 false true (Piece (bytes "a='1") ∷ [])

abbrev closed : Reader
closed = reached 0 false true (Piece (bytes "a='1") ∷ Piece (bytes "'") ∷ [])

-- the step on `a='1` looks at position 4, where there is no byte yet
unready : NotReady unclosed
unfolding first_of first_to first_from is_space not_space ends_key is_byte bytes_from bytes over oldest_of earlier_of checked_by checked_of is_at is_quote recover_of key_eq key_to key_from key_at check_of keys_of no_keys look_in look_from look_value look_by look_key look_at look_start look_of held_of fed_of grown_by piece_in piece_of opened_reader after after_all
unready = record { unfinished = refl; looks = leb-true (length (held_of unclosed)) (look_next (held_of unclosed) (iterator_of unclosed)) refl }

pub take_waits_example : (take_of unclosed).taken ≡ Ok None
take_waits_example = (take_exactly 0 false true (Piece (bytes "a='1") ∷ [])).waits unready

-- The last byte has come: the answer does not wait for what follows the quote.
pub take_gives_example : (take_of closed).taken ≡ Ok (Some (Some (Ok (SingleQ (span 0 1) (span 3 4)))))
unfolding first_of first_to first_from is_space not_space ends_key is_byte bytes_from bytes over count_good table_good oldest_of earlier_of checked_by checked_of is_at is_quote recover_of key_eq key_to key_from key_at quoted closed_of quoted_to quoted_of value_by value_from value_at check_of valued_by valued_to valued_of read_key read_at step_from step_of place_good keys_of state_good no_keys leaves next_of look_in look_from look_value look_by look_key look_at look_start look_of held_of fed_of grown_by piece_in piece_of opened_reader after after_all
take_gives_example = (take_exactly 0 false true (Piece (bytes "a='1") ∷ Piece (bytes "'") ∷ [])).gives (λ n. below n.looks) where
  below : 5 ≤ 4 → ⊥
  below h = omega arith

-- the same reader with a phase put in by hand, which says that the answer is due
pub early_example : (take_of (holding unclosed unclosed.text unclosed.held Due)).taken ≡ Ok None
unfolding held_of reader_good
early_example =
    never_early (holding unclosed unclosed.text unclosed.held Due) (reader_stays_good 0 false true (Piece (bytes "a='1") ∷ [])).0
    (record { unfinished = unready.unfinished; looks = unready.looks })

-- the closing quote, and for 5 the `=`
pub look_example : (look_next (bytes "a='1' a='2'") (opened 0 false true) ≡ 4) × (is_at (bytes "a='1' a='2'") 39 4 ≡ true)
unfolding first_of first_to first_from is_space not_space ends_key is_byte bytes_from bytes count_good table_good oldest_of earlier_of checked_by checked_of is_at is_quote recover_of key_eq key_to key_from key_at quoted closed_of quoted_to quoted_of value_by value_from value_at check_of valued_by valued_to valued_of read_key read_at step_from step_of place_good keys_of state_good no_keys leaves next_of opened look_in look_from look_value look_by look_key look_at look_start look_of LastByte
look_example = look_of_answer (bytes "a='1' a='2'") (opened 0 false true) refl

pub look_repeated_example : look_next (bytes "a='1' a='2'") (next_of (bytes "a='1' a='2'") (opened 0 false true)).state ≡ 7
unfolding first_of first_to first_from is_space not_space ends_key is_byte part same_bytes bytes_from bytes times_prime hash_from hash_of key_good hash_is key_bad count_good table_good name_at same_key oldest_of earlier_of checked_by checked_of written_by count_by is_at is_quote recover_of key_eq key_to key_from key_at quoted closed_of quoted_to quoted_of value_by value_from value_at check_of kept_by valued_by valued_to valued_of read_key read_at step_from step_of place_good keys_of state_good no_keys leaves next_of opened LastByte
look_repeated_example = look_of_answer (bytes "a='1' a='2'") (next_of (bytes "a='1' a='2'") (opened 0 false true)).state refl

-- What stays.

pub more_example : (take_of unclosed).reader ≡ unclosed
more_example = more_stays unclosed take_waits_example

-- after the finish, whatever the piece
abbrev ended : Reader
ended = reached 0 false true (Piece (bytes "a") ∷ Finish ∷ [])

pub refused_example : (p : List ℕ) → (fed_number (piece_of p ended).fed ≡ 32) × ((piece_of p ended).reader ≡ ended) × (fed_number (finish_of ended).fed ≡ 32)
unfolding finished_as finish_of fed_of grown_by piece_of piece_in after after_all opened_reader
refused_example p = (
  ((refused_stays ended).0 p).finished.1 refl,
  ((refused_stays ended).0 p).stays (λ e. let z : ◌≡◌ {A = ℕ} 0 1 = cc in omega arith),
  (refused_stays ended).1.finished.1 refl,
)

-- 65,536 bytes can be held, and one more cannot
pub long_example : fed_number (piece_of (replicate 65537 0) (opened_reader 0 false true)).fed ≡ 31
unfolding opened_reader
long_example = ((refused_stays (opened_reader 0 false true)).0 (replicate 65537 0)).long.1 (refl, ltb-true 65536 (0 + length (replicate {A = ℕ} 65537 0)) refl)

pub fits_example : (fed_number (piece_of (replicate 65536 0) (opened_reader 0 false true)).fed ≡ 31) → ⊥
unfolding opened_reader
fits_example e =
    let l = (((refused_stays (opened_reader 0 false true)).0 (replicate 65536 0)).long.0 e).1 in
    omega (arith, length-replicate {A = ℕ} 65536 0)

-- Refusal 7.

pub good_example : reader_good (reached 0 false true events) ≡ true
good_example = (reader_stays_good 0 false true events).0

-- a skip place where nothing is held, put in by hand
abbrev broken : Reader
broken = moved (opened_reader 0 false true) (standing (SkipValue 5) false true) 0 Begin

pub seven_example : take_of broken ≡ took (Ok (Some (Some (Err BadState)))) (emptied broken)
unfolding first_of first_to count_good table_good place_good state_good no_keys held_of reader_good opened_reader
seven_example = seven_empties broken refl
