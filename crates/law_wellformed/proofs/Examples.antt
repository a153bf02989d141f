-- Texts that are bodies and texts that are none, by computation; and each theorem on reading applied to a tag that meets its
-- premises, with the answers that it then promises.
use Prim.Native.Nat.{ℕ, ◌≤◌}
use Prim.Native.String.{String}
use mathlib.Core.Path.{◌≡◌, refl}
use mathlib.Core.Bool.{Bool, true, false}
use mathlib.Core.List.{List, [], ◌∷◌, ◌++◌, map}
use native.Mathlib.Omega.{arith}
use lib.ListN.{length, replicate, length-replicate}
use Rattle.std.proofs.Common.{Some}
use Rattle.std.specs.Prelude.{Ok, Err}
use Rattle.scan.specs.First.{first_of, first_to, first_from}
use Rattle.scan.specs.Bytes.{is_space, not_space, ends_key, is_byte, part, same_bytes, bytes_from, bytes}
use Rattle.tag_keys.specs.Hash.{times_prime, hash_from, hash_of}
use Rattle.tag_keys.specs.Keys.{capacity, key_good, hash_is, key_bad, count_good, table_good, name_at, same_key, oldest_of, earlier_of, checked_by, checked_of, written_by, count_by}
use Rattle.tag_step.specs.declared.Place.TheVariants.{SkipValue}
use Rattle.tag_step.specs.declared.Attr.TheVariants.{DoubleQ, SingleQ}
use Rattle.tag_step.specs.declared.AttrError.TheVariants.{Duplicated, BadState}
use Rattle.tag_step.specs.declared.IterState.{IterState}
use Rattle.tag_step.specs.Read.{span, is_at, is_quote, skip_to, skip_of, recover_of, key_eq, key_to, key_from, key_at, quoted, closed_of, quoted_to, quoted_of, unquoted_to, other_of, value_by, value_from, value_at}
use Rattle.tag_step.specs.Next.{check_of, kept_by, place_at, bare_by, bare_to, bare_of, valued_by, valued_to, valued_of, read_key, read_at, step_from, step_of, place_good, keys_of, lent_state, state_good, no_keys, bad_reading, leaves, next_of, opened}
use Rattle.tag_step.specs.Run.{answers_of}
use Rattle.tag_step.proofs.Good.{opened_sized, opened_good}
use Rattle.tag_parts.specs.Parts.{key_part, value_part}
use Rattle.law_wellformed.specs.Grammar.{each, some, is_in, one_of, name_byte, double, single, quote_byte, value_byte, byte, piece_text, is_piece, value_text, are_pieces, attribute_then, Body, attributes_then, body_text, AttributesBy, WellFormed, Lacks, AllQuoted, QuotedBody, Absent, Distinct}
use Rattle.law_wellformed.specs.Expected.{name_start, name_end, value_start_at, value_end_at, next, in_quotes, attribute_of, attributes_of}
use Rattle.law_wellformed.specs.Accept.{after, passes, accepts, is_body}
use Rattle.law_wellformed.specs.Resume.{from_or_ended, from_whitespace, after_key, after_duplicate, resumes_at}
use Rattle.law_wellformed.proofs.WellFormed.{well_formed_reads, quoted_reads, unchecked_reads, well_formed_parts}
use Rattle.law_wellformed.proofs.Resume.{resume_exact}
use Rattle.law_wellformed.proofs.Ends.{run_ends, bad_run_ends}

abbrev bodies : List String
bodies =
    ""
    ∷ " a=\"1\""
    ∷ " a = 'x \"y\"'\tb=\"\" "
    ∷ " xml:lang='en' title=\"R&amp;D &#65;&#x41;\""
    ∷ []

-- no whitespace before an attribute, also after a value; no value, or one with no quotes, with `<`, with a lone `&`, with
-- the wrong closing quote
abbrev others : List String
others =
    "a=\"1\""
    ∷ " a=\"1\"b='2'"
    ∷ " a"
    ∷ " a=1"
    ∷ " a='<'"
    ∷ " a=\"x & y\""
    ∷ " a='1\""
    ∷ []

abbrev verdict : String → Bool
verdict t = is_body (bytes t)

pub grammar_examples : (map verdict bodies ≡ true ∷ true ∷ true ∷ true ∷ []) × (map verdict others ≡ false ∷ false ∷ false ∷ false ∷ false ∷ false ∷ false ∷ [])
unfolding is_body accepts passes after is_space bytes bytes_from is_in one_of name_byte quote_byte value_byte
grammar_examples = (refl, refl)

-- A body of the productions, whose second value has the other quotes in it.
abbrev shown : Body
shown =
    record {
      attributes = record { before = bytes " "; name = bytes "a"; before_eq = []; after_eq = []; quote = double; value = bytes "1" }
          ∷ record { before = bytes " "; name = bytes "b"; before_eq = bytes " "; after_eq = bytes " "; quote = single; value = bytes "x \"y\"" }
          ∷ [];
      after = bytes " ";
    }

shown_text : body_text shown ≡ bytes " a=\"1\" b = 'x \"y\"' "
unfolding bytes bytes_from body_text attributes_then attribute_then quote_byte
shown_text = refl

shown_is : WellFormed shown
unfolding AttributesBy some each is_space is_in one_of name_byte bytes bytes_from are_pieces is_piece value_byte quote_byte value_text piece_text
shown_is =
    record {
      attributes = (
        record { before = refl; name = refl; before_eq = refl; after_eq = refl; value = record { pieces = byte 49 ∷ []; are = refl; text = refl } },
        (
          record {
            before = refl;
            name = refl;
            before_eq = refl;
            after_eq = refl;
            value = record { pieces = byte 120 ∷ byte 32 ∷ byte 34 ∷ byte 121 ∷ byte 34 ∷ []; are = refl; text = refl };
          },
          tt,
        ),
      );
      after = refl;
    }

-- two names that differ in their first byte
apart : (a b : ℕ) (xs ys : List ℕ) → (a ≡ b → ⊥) → a ∷ xs ≡ b ∷ ys → ⊥
apart a b xs ys n e = n cc

shown_distinct : Distinct shown.attributes
unfolding Distinct Absent bytes bytes_from
shown_distinct = ((λ e. apart 97 98 [] [] (λ n. omega arith) e, tt), (tt, tt))

-- Read after a tag's name, `el`, in XML mode with checks on.
pub well_formed_example : answers_of (bytes "el a=\"1\" b = 'x \"y\"' ") (opened 2 false true) ≡ Some (Ok (DoubleQ (span 3 4) (span 6 7))) ∷ Some (Ok (SingleQ (span 9 10) (span 14 19))) ∷ []
unfolding bytes bytes_from body_text attributes_then attribute_then quote_byte name_start name_end value_start_at value_end_at next in_quotes attribute_of attributes_of
well_formed_example = (well_formed_reads (bytes "el") shown shown_is (omega arith) shown_distinct false true).0

-- and what is marked: the names, and the values
pub parts_example :
    let s = bytes "el" ++ body_text shown in
    let answers = answers_of s (opened 2 false true) in
    (map (key_part s) answers ≡ bytes "a" ∷ bytes "b" ∷ []) × (map (value_part s) answers ≡ bytes "1" ∷ bytes "x \"y\"" ∷ [])
unfolding bytes bytes_from
parts_example = well_formed_parts (bytes "el") shown shown_is (omega arith) shown_distinct false true

-- No whitespace before the first attribute, nor between the two; and a value that the productions refuse.
abbrev close : Body
close =
    record {
      attributes = record { before = []; name = bytes "a"; before_eq = []; after_eq = []; quote = double; value = bytes "1" }
          ∷ record { before = []; name = bytes "b"; before_eq = []; after_eq = []; quote = single; value = bytes "<&" }
          ∷ [];
      after = [];
    }

close_is : QuotedBody close
unfolding AllQuoted Lacks some each is_space is_in one_of name_byte bytes bytes_from quote_byte
close_is =
    record {
      attributes = (
        record { before = refl; name = refl; before_eq = refl; after_eq = refl; value = refl },
        (record { before = refl; name = refl; before_eq = refl; after_eq = refl; value = refl }, tt),
      );
      after = refl;
    }

close_distinct : Distinct close.attributes
unfolding Distinct Absent bytes bytes_from
close_distinct = ((λ e. apart 97 98 [] [] (λ n. omega arith) e, tt), (tt, tt))

pub quoted_example : answers_of (bytes "a=\"1\"b='<&'") (opened 0 false true) ≡ Some (Ok (DoubleQ (span 0 1) (span 3 4))) ∷ Some (Ok (SingleQ (span 5 6) (span 8 10))) ∷ []
unfolding bytes bytes_from body_text attributes_then attribute_then quote_byte name_start name_end value_start_at value_end_at next in_quotes attribute_of attributes_of
quoted_example = quoted_reads [] close close_is (omega arith) close_distinct false true

-- One name twice, in HTML mode with checks off.
abbrev twice : Body
twice =
    record {
      attributes = record { before = bytes " "; name = bytes "a"; before_eq = []; after_eq = []; quote = single; value = bytes "1" }
          ∷ record { before = bytes " "; name = bytes "a"; before_eq = []; after_eq = []; quote = double; value = [] }
          ∷ [];
      after = [];
    }

twice_is : QuotedBody twice
unfolding AllQuoted Lacks some each is_space is_in one_of name_byte bytes bytes_from quote_byte
twice_is =
    record {
      attributes = (
        record { before = refl; name = refl; before_eq = refl; after_eq = refl; value = refl },
        (record { before = refl; name = refl; before_eq = refl; after_eq = refl; value = refl }, tt),
      );
      after = refl;
    }

pub unchecked_example : answers_of (bytes " a='1' a=\"\"") (opened 0 true false) ≡ Some (Ok (SingleQ (span 1 2) (span 4 5))) ∷ Some (Ok (DoubleQ (span 7 8) (span 10 10))) ∷ []
unfolding bytes bytes_from body_text attributes_then attribute_then quote_byte name_start name_end value_start_at value_end_at next in_quotes attribute_of attributes_of
unchecked_example = unchecked_reads [] twice twice_is true

-- A duplicate whose value has whitespace: reading resumes in that value, at 10, and not after it.
abbrev again : IterState
again = (next_of (bytes "a='1' a=\"2 3\" b='4'") (opened 0 false true)).state

pub resume_example :
    let s = bytes "a='1' a=\"2 3\" b='4'" in
    ((next_of s again).answer ≡ Some (Err (Duplicated 6 0))) × (recover_of s (next_of s again).state.place ≡ Some 10)
unfolding first_of first_to first_from is_space not_space ends_key is_byte part same_bytes bytes_from bytes times_prime hash_from hash_of key_good hash_is key_bad count_good table_good name_at same_key oldest_of earlier_of checked_by checked_of written_by count_by is_at is_quote skip_to skip_of recover_of key_eq key_to key_from key_at quoted closed_of quoted_to quoted_of unquoted_to other_of value_by value_from value_at check_of kept_by place_at bare_by bare_to bare_of valued_by valued_to valued_of read_key read_at step_from step_of place_good keys_of state_good no_keys bad_reading leaves next_of opened from_or_ended from_whitespace after_key after_duplicate resumes_at
resume_example = (refl, resume_exact (bytes "a='1' a=\"2 3\" b='4'") again)

-- From an opened iterator there are at most as many answers as bytes; a skip place outside the tag is answered once, by 7.
pub run_ends_example : length (answers_of (bytes "a=1 b='2'") (opened 0 false true)) ≤ 9
unfolding recover_of opened bytes bytes_from
run_ends_example = run_ends (bytes "a=1 b='2'") (opened 0 false true) (opened_sized 0 false true) (opened_good (bytes "a=1 b='2'") 0 false true)

abbrev outside : IterState
outside = lent_state (SkipValue 1) false true (replicate capacity 0) (replicate capacity 0) (replicate capacity 0) 0

pub bad_run_example : answers_of (bytes "a") outside ≡ Some (Err BadState) ∷ []
unfolding first_of first_to bytes bytes_from key_good key_bad count_good table_good place_good state_good
bad_run_example = bad_run_ends (bytes "a") outside (record { starts = length-replicate {A = ℕ} capacity 0; ends = length-replicate {A = ℕ} capacity 0; hashes = length-replicate {A = ℕ} capacity 0 }) refl
