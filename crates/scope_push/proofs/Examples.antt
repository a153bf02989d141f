-- The theorems at work: two tags that are refused with nothing declared yet, where 13 holds a value and 15 a prefix; and a tag
-- whose second declaration is not held.
use Prim.Native.Nat.{ℕ}
use mathlib.Core.Path.{◌≡◌, refl}
use mathlib.Core.List.{List, [], ◌∷◌, ◌++◌}
use native.Mathlib.Omega.{arith}
use Rattle.std.specs.Prelude.{Err}
use Rattle.scan.specs.First.{first_of, first_to, first_from}
use Rattle.scan.specs.Bytes.{is_space, not_space, ends_key, is_byte, part, inside, Marks, same_bytes, bytes_from, bytes}
use Rattle.tag_keys.specs.Keys.{key_good, key_bad, count_good, table_good, checked_of, written_by, count_by}
use Rattle.tag_step.specs.Read.{is_at, is_quote, skip_to, skip_of, recover_of, key_eq, key_to, key_from, key_at, quoted, closed_of, quoted_to, quoted_of, unquoted_to, other_of, value_by, value_from, value_at}
use Rattle.tag_step.specs.Next.{check_of, kept_by, place_at, bare_by, bare_to, bare_of, valued_by, valued_to, valued_of, read_key, read_at, step_from, step_of, place_good, keys_of, state_good, no_keys, bad_reading, leaves, next_of, opened}
use Rattle.tag_step.specs.Run.{is_end, cons_unless, run_of, answers_of}
use Rattle.tag_parts.specs.Parts.{key_part, value_part}
use Rattle.name.specs.Reserved.{xml_prefix, xmlns_prefix, xml_uri, xmlns_uri, is_xml, is_xmlns, is_xml_uri, is_xmlns_uri}
use Rattle.name.specs.Bind.{reserved_bind, refused_text}
use Rattle.name.specs.Declares.{opening, is_named, declares_of, declared_prefix}
use Rattle.scope_table.specs.Lists.{all_below, all_zero, cut}
use Rattle.scope_table.specs.Table.{built_in, text_of, level_before, is_record, opens_built_in, is_chain, is_rising, is_within, is_clear, is_table, valid_of}
use Rattle.scope_table.specs.Lent.{holds_of, fits_of, given, held_of}
use Rattle.scope_table.specs.declared.NamespaceError.TheVariants.{LendMore}
use Rattle.scope_change.specs.Change.{whole, bound_of, refusal_of, append_of}
use Rattle.scope_declare.specs.Declare.{named_of, judge_of, settle_of, declare_of}
use Rattle.scope_declare.proofs.Examples.{bare}
use Rattle.scope_push.specs.Push.{declaration_of, declaration_then, declarations_of, tag_answers, tag_declarations, then_of, declare_all, raised_of, push_of}
use Rattle.scope_push.specs.Run.{one_by_one}
use Rattle.scope_push.specs.Texts.{refused_in}
use Rattle.scope_push.proofs.Run.{Along, back_of, run_back}
use Rattle.scope_push.proofs.Texts.{push_holds}

abbrev valued : List ℕ
valued = bytes " xmlns:p='v' xmlns:xmlns='w' xmlns:q='z'"

pub holds_value : Marks valued 26 27 (bytes "w")
unfolding first_of first_to first_from is_space not_space ends_key is_byte part inside same_bytes bytes_from bytes key_good key_bad count_good table_good checked_of written_by count_by is_at is_quote skip_to skip_of recover_of key_eq key_to key_from key_at quoted closed_of quoted_to quoted_of unquoted_to other_of value_by value_from value_at check_of kept_by place_at bare_by bare_to bare_of valued_by valued_to valued_of read_key read_at step_from step_of place_good keys_of state_good no_keys bad_reading leaves next_of opened is_end cons_unless run_of answers_of key_part value_part xml_prefix xmlns_prefix xml_uri xmlns_uri is_xml is_xmlns is_xml_uri is_xmlns_uri reserved_bind refused_text opening is_named declares_of declared_prefix all_below all_zero built_in text_of level_before is_record opens_built_in is_chain is_rising is_within is_clear is_table valid_of refusal_of append_of named_of judge_of settle_of declare_of declaration_of declaration_then declarations_of tag_answers then_of declare_all raised_of push_of refused_in
holds_value = push_holds valued 0 bare

abbrev prefixed : List ℕ
prefixed = bytes "a xmlns:p='http://www.w3.org/2000/xmlns/'"

pub holds_prefix : Marks prefixed 8 9 (bytes "p")
unfolding first_of first_to first_from is_space not_space ends_key is_byte part inside same_bytes bytes_from bytes key_good key_bad count_good table_good checked_of written_by count_by is_at is_quote skip_to skip_of recover_of key_eq key_to key_from key_at quoted closed_of quoted_to quoted_of unquoted_to other_of value_by value_from value_at check_of kept_by place_at bare_by bare_to bare_of valued_by valued_to valued_of read_key read_at step_from step_of place_good keys_of state_good no_keys bad_reading leaves next_of opened is_end cons_unless run_of answers_of key_part value_part xml_prefix xmlns_prefix xml_uri xmlns_uri is_xml is_xmlns is_xml_uri is_xmlns_uri reserved_bind refused_text opening is_named declares_of declared_prefix all_below all_zero built_in text_of level_before is_record opens_built_in is_chain is_rising is_within is_clear is_table valid_of refusal_of append_of named_of judge_of settle_of declare_of declaration_of declaration_then declarations_of tag_answers then_of declare_all raised_of push_of refused_in
holds_prefix = push_holds prefixed 1 bare

-- Memory that holds one declaration more: two bytes and one record after the built-ins.
abbrev text : List ℕ
text = bare.text ++ (0 ∷ 0 ∷ [])

abbrev records : List ℕ
records = bare.records ++ (0 ∷ 0 ∷ 0 ∷ 0 ∷ [])

along : Along text records bare.head text records bare.head
unfolding bytes_from bytes built_in cut holds_of fits_of
along =
    record {
      fits = refl;
      small = omega arith;
      few = omega arith;
      bytes = refl;
      numbers = refl;
      ahead = omega arith;
      after = omega arith;
      text_back = refl;
      rows_back = refl;
    }

abbrev two : List ℕ
two = bytes " xmlns:p='v' xmlns:q='w'"

-- the first goes in, the second does not, and the first is taken back
pub run_back_instance : back_of bare.head (one_by_one whole (tag_declarations two 0) text records bare.head) ≡ given (Err LendMore) text records bare.head
unfolding first_of first_to first_from is_space not_space ends_key is_byte part inside same_bytes bytes_from bytes key_good key_bad count_good table_good checked_of written_by count_by is_at is_quote skip_to skip_of recover_of key_eq key_to key_from key_at quoted closed_of quoted_to quoted_of unquoted_to other_of value_by value_from value_at check_of kept_by place_at bare_by bare_to bare_of valued_by valued_to valued_of read_key read_at step_from step_of place_good keys_of state_good no_keys bad_reading leaves next_of opened is_end cons_unless run_of answers_of key_part value_part xml_prefix xmlns_prefix xml_uri xmlns_uri is_xml is_xmlns is_xml_uri is_xmlns_uri reserved_bind opening is_named declares_of declared_prefix built_in holds_of fits_of held_of bound_of refusal_of append_of named_of judge_of settle_of declare_of declaration_of declaration_then declarations_of tag_answers then_of declare_all
run_back_instance = run_back text records bare.head whole (omega arith) (omega arith) (tag_declarations two 0) text records bare.head along
