-- The theorems at work: what `has_nil` says of tags within ` xmlns:xsi="http://www.w3.org/2001/XMLSchema-instance"`.
use Prim.Native.Nat.{ℕ}
use mathlib.Core.Path.{◌≡◌, refl, sym}
use mathlib.Core.Bool.{Bool, true, false}
use mathlib.Core.List.{List, [], ◌∷◌, ◌++◌}
use lib.ListN.{length-replicate}
use Rattle.std.specs.Prelude.{Ok}
use Rattle.scan.specs.First.{first_of, first_to, first_from}
use Rattle.scan.specs.Bytes.{is_space, not_space, ends_key, is_byte, part, inside, same_bytes, bytes_from, bytes}
use Rattle.tag_keys.specs.Hash.{times_prime, hash_from, hash_of}
use Rattle.tag_keys.specs.Keys.{capacity, key_good, hash_is, key_bad, count_good, table_good, name_at, same_key, oldest_of, earlier_of, checked_by, checked_of, written_by, count_by}
use Rattle.tag_step.specs.declared.IterState.{IterState}
use Rattle.tag_step.specs.Read.{is_at, is_quote, skip_to, skip_of, recover_of, key_eq, key_to, key_from, key_at, quoted, closed_of, quoted_to, quoted_of, unquoted_to, other_of, value_by, value_from, value_at}
use Rattle.tag_step.specs.Next.{check_of, kept_by, place_at, bare_by, bare_to, bare_of, valued_by, valued_to, valued_of, read_key, read_at, step_from, step_of, place_good, keys_of, state_good, no_keys, bad_reading, leaves, next_of, opened}
use Rattle.tag_step.specs.Run.{is_end, cons_unless, run_of, answers_of}
use Rattle.tag_step.proofs.Good.{Sized, opened_good}
use Rattle.tag_parts.specs.Parts.{key_part, value_part, truth_of}
use Rattle.name.specs.Split.{colon_at, has_colon, prefix_of, local_at, local_of}
use Rattle.scope_table.specs.Lists.{last_below, all_below, all_zero}
use Rattle.scope_table.specs.Records.{prefix_in}
use Rattle.scope_table.specs.Table.{LIMIT, built_in, text_of, level_before, is_record, opens_built_in, is_chain, is_rising, is_within, is_clear, is_table, valid_of, head_of, resolver_of}
use Rattle.scope_table.specs.declared.NamespaceResolver.{NamespaceResolver}
use Rattle.scope_lookup.specs.Lookup.{has_prefix, is_default, value_or, explicit_of, default_of, among_of, resolve_of, uri_part}
use Rattle.scope_lookup.specs.declared.ResolveResult.TheVariants.{Bound}
use Rattle.scope_nil.specs.Nil.{is_yes, instance_uri, is_nil, says_nil, search_of, searched, has_nil_of}
use Rattle.scope_nil.proofs.Among.{any_nil, nil_among_answers}
use Rattle.scope_nil.proofs.Resolves.{resolves_attribute}
use Rattle.scope_nil.proofs.Turns.{search_whole}

abbrev typed : NamespaceResolver
typed =
    resolver_of (built_in ++ bytes "xsi" ++ instance_uri) (0 ∷ 3 ∷ 36 ∷ 0 ∷ 39 ∷ 5 ∷ 29 ∷ 0 ∷ 73 ∷ 3 ∷ 41 ∷ 1 ∷ [])
    (head_of 117 3 1 LIMIT)

typed_valid : valid_of typed ≡ true
unfolding same_bytes bytes_from bytes all_below all_zero built_in text_of level_before is_record opens_built_in is_chain is_rising is_within is_clear is_table valid_of instance_uri
typed_valid = refl

-- an iterator opened at 0 in XML mode
abbrev start : (checks : Bool) → IterState
start checks = opened 0 false checks

sized : (checks : Bool) → Sized (start checks)
unfolding opened no_keys
sized checks = record { starts = length-replicate {A = ℕ} capacity 0; ends = length-replicate {A = ℕ} capacity 0; hashes = length-replicate {A = ℕ} capacity 0 }

-- `nil` with no prefix is no such name, and 3 counts as no; the last one says yes, unless it is refused as a duplicate
abbrev tag : List ℕ
tag = bytes "nil='1' xsi:nil=1 xsi:nil=\"true\""

pub nil_instance : ((has_nil_of tag (start false) typed).answer ≡ Ok true) × ((has_nil_of tag (start true) typed).answer ≡ Ok false)
unfolding first_of first_to first_from is_space not_space ends_key is_byte part inside same_bytes bytes_from bytes times_prime hash_from hash_of key_good hash_is key_bad count_good table_good name_at same_key oldest_of earlier_of checked_by checked_of written_by count_by is_at is_quote skip_to skip_of recover_of key_eq key_to key_from key_at quoted closed_of quoted_to quoted_of unquoted_to other_of value_by value_from value_at check_of kept_by place_at bare_by bare_to bare_of valued_by valued_to valued_of read_key read_at step_from step_of place_good keys_of state_good no_keys bad_reading leaves next_of opened is_end cons_unless run_of answers_of key_part value_part truth_of colon_at has_colon prefix_of local_at local_of last_below prefix_in built_in has_prefix is_default value_or explicit_of default_of among_of uri_part is_yes instance_uri is_nil says_nil any_nil
nil_instance = (
  nil_among_answers tag (start false) typed typed_valid (sized false) (opened_good tag 0 false false),
  nil_among_answers tag (start true) typed typed_valid (sized true) (opened_good tag 0 false true),
)

pub search_instance : search_of 50 typed tag (start true) ≡ searched typed tag (start true)
unfolding bytes_from bytes
search_instance = search_whole 16 typed tag (start true) (sized true) (opened_good tag 0 false true)

pub attribute_instance : resolve_of (bytes "xsi:nil") false typed ≡ Ok (Bound 76 117)
unfolding first_of first_to first_from is_byte part same_bytes bytes_from bytes colon_at has_colon prefix_of last_below all_below all_zero prefix_in built_in text_of level_before is_record opens_built_in is_chain is_rising is_within is_clear is_table valid_of has_prefix is_default value_or explicit_of default_of among_of instance_uri
attribute_instance = sym (resolves_attribute typed (bytes "xsi:nil") typed_valid)
