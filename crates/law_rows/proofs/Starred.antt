-- The starred rows of document 01 hold of the definitions, by computation.
use mathlib.Core.Path.{◌≡◌, refl}
use mathlib.Core.List.{map}
use Rattle.scan.specs.First.{first_of, first_to, first_from}
use Rattle.scan.specs.Bytes.{is_space, not_space, ends_key, is_byte, part, inside, same_bytes, bytes_from, bytes}
use Rattle.scan.specs.Lists.{over}
use Rattle.tag_keys.specs.Hash.{times_prime, hash_from, hash_of}
use Rattle.tag_keys.specs.Keys.{key_good, hash_is, key_bad, count_good, table_good, name_at, same_key, oldest_of, earlier_of, checked_by, checked_of, written_by, count_by}
use Rattle.tag_step.specs.Read.{is_at, is_quote, skip_to, skip_of, recover_of, key_eq, key_to, key_from, key_at, quoted, closed_of, quoted_to, quoted_of, unquoted_to, other_of, value_by, value_from, value_at}
use Rattle.tag_step.specs.Next.{check_of, kept_by, place_at, bare_by, bare_to, bare_of, valued_by, valued_to, valued_of, read_key, read_at, step_from, step_of, place_good, keys_of, state_good, no_keys, bad_reading, leaves, next_of, opened}
use Rattle.tag_step.specs.Run.{is_end, cons_unless, run_of, answers_of}
use Rattle.tag_parts.specs.Parts.{key_part, value_part}
use Rattle.name.specs.Reserved.{xml_prefix, xmlns_prefix, xml_uri, xmlns_uri, is_xml, is_xmlns, is_xml_uri, is_xmlns_uri}
use Rattle.name.specs.Bind.{reserved_bind}
use Rattle.name.specs.Declares.{opening, is_named, declares_of, declared_prefix}
use Rattle.name.specs.Split.{colon_at, has_colon, prefix_of}
use Rattle.scope_table.specs.Lists.{last_below, all_below, all_zero, cut}
use Rattle.scope_table.specs.Records.{prefix_in}
use Rattle.scope_table.specs.Table.{built_in, text_of, level_before, is_record, opens_built_in, is_chain, is_rising, is_within, is_clear, is_table, valid_of, fresh_of}
use Rattle.scope_table.specs.Answer.{change_numbers}
use Rattle.scope_change.specs.Change.{bound_of, refusal_of, append_of, kept_at, kept_of, dropped_of, level_of}
use Rattle.scope_declare.specs.Declare.{named_of, judge_of, settle_of, declare_of, pop_of}
use Rattle.scope_push.specs.Push.{declaration_of, declaration_then, declarations_of, tag_answers, then_of, declare_all, raised_of, push_of}
use Rattle.scope_lookup.specs.Lookup.{has_prefix, is_default, value_or, explicit_of, default_of, among_of, resolve_prefix_of, resolve_of, uri_part, prefix_part}
use Rattle.law_scopes.specs.Calls.{call_of}
use Rattle.law_rows.specs.Seen.{handed_back}
use Rattle.law_rows.specs.Rows.{call_all, looked_up, shown_by, computed, computed_of, starred_rows}

pub starred : map computed_of starred_rows ≡ starred_rows
unfolding first_of first_to first_from is_space not_space ends_key is_byte part inside same_bytes bytes_from bytes times_prime hash_from hash_of hash_is key_good key_bad count_good table_good name_at same_key oldest_of earlier_of checked_by checked_of written_by count_by is_at is_quote skip_to skip_of recover_of key_eq key_to key_from key_at quoted closed_of quoted_to quoted_of unquoted_to other_of value_by value_from value_at check_of kept_by place_at bare_by bare_to bare_of valued_by valued_to valued_of read_key read_at step_from step_of place_good keys_of state_good no_keys bad_reading leaves next_of opened is_end cons_unless run_of answers_of key_part value_part xml_prefix xmlns_prefix xml_uri xmlns_uri is_xml is_xmlns is_xml_uri is_xmlns_uri reserved_bind opening is_named declares_of declared_prefix colon_at has_colon prefix_of all_below all_zero over cut built_in text_of level_before is_record opens_built_in is_chain is_rising is_within is_clear is_table valid_of fresh_of change_numbers bound_of refusal_of append_of kept_at kept_of dropped_of level_of named_of judge_of settle_of declare_of pop_of declaration_of declaration_then declarations_of tag_answers then_of declare_all raised_of push_of last_below prefix_in has_prefix is_default value_or explicit_of default_of among_of resolve_prefix_of resolve_of uri_part prefix_part call_of handed_back call_all looked_up shown_by computed computed_of
starred = refl
