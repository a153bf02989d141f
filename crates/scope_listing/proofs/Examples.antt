-- The theorems at work on a resolver with two tags in scope, ` xmlns="u" xmlns:p="v"` and in it ` xmlns:p="w" xmlns:q=""`: the
-- first `p` is overridden, and `q` is empty.
use Prim.Native.Nat.{◌≤◌}
use mathlib.Core.Path.{◌≡◌, refl}
use mathlib.Core.Bool.{true}
use mathlib.Core.List.{[], ◌∷◌, ◌++◌}
use native.Mathlib.Omega.{arith}
use lib.ListN.{length}
use Rattle.scan.specs.First.{first_of, first_to}
use Rattle.scan.specs.Bytes.{part, Marks, same_bytes, bytes_from, bytes}
use Rattle.scan.specs.Lists.{pad_to}
use Rattle.scope_table.specs.Lists.{all_below, all_zero}
use Rattle.scope_table.specs.Records.{record_at, prefix_in, value_in}
use Rattle.scope_table.specs.Table.{LIMIT, built_in, text_of, level_before, is_record, opens_built_in, is_chain, is_rising, is_within, is_clear, is_table, valid_of, head_of, resolver_of}
use Rattle.scope_table.specs.declared.NamespaceResolver.{NamespaceResolver}
use Rattle.scope_table.proofs.Good.{form_of_lem, lies}
use Rattle.scope_lookup.specs.Lookup.{has_prefix, is_default, resolve_prefix_of}
use Rattle.std.specs.Prelude.{Ok}
use Rattle.scope_lookup.specs.declared.ResolveResult.TheVariants.{Bound}
use Rattle.scope_listing.specs.Listing.{shows, has_value, is_overridden, in_effect, at_level, shown_of, listed_at, past_built_in, bindings_of, bindings_at_of}
use Rattle.scope_listing.specs.Whole.{list_all, showing}
use Rattle.scope_listing.proofs.Whole.{lists_in_effect, lists_level, in_effect_resolves}
use Rattle.scope_listing.proofs.Padded.{pad_in_effect}
use Rattle.scope_listing.proofs.Marked.{bindings_mark, level_marks}

abbrev nested : NamespaceResolver
nested =
    resolver_of (built_in ++ bytes "upvpwq")
    (0 ∷ 3 ∷ 36 ∷ 0 ∷ 39 ∷ 5 ∷ 29 ∷ 0 ∷ 73 ∷ 0 ∷ 1 ∷ 1 ∷ 74 ∷ 1 ∷ 1 ∷ 1 ∷ 76 ∷ 1 ∷ 1 ∷ 2 ∷ 78 ∷ 1 ∷ 0 ∷ 2 ∷ [])
    (head_of 79 6 2 LIMIT)

nested_valid : valid_of nested ≡ true
unfolding same_bytes bytes_from bytes all_below all_zero built_in text_of level_before is_record opens_built_in is_chain is_rising is_within is_clear is_table valid_of
nested_valid = refl

nested_long : 79 ≤ length nested.text
unfolding built_in bytes_from bytes
nested_long = omega arith

-- in effect are the default and the inner `p`
pub in_effect_instance : list_all (λ place. bindings_of place nested) 7 0 ≡ shows 73 73 74 ∷ shows 76 77 78 ∷ []
unfolding first_of first_to part same_bytes bytes_from bytes prefix_in built_in has_prefix has_value is_overridden in_effect shown_of showing
in_effect_instance = lists_in_effect nested nested_valid 0

-- at level 1 also the `p` that is overridden
pub level_instance : list_all (λ place. bindings_at_of 1 place nested) 7 0 ≡ shows 73 73 74 ∷ shows 74 75 76 ∷ []
unfolding has_value at_level shown_of showing
level_instance = lists_level nested 1 nested_valid 0

pub effect_resolves_instance : resolve_prefix_of (bytes "p") true true nested ≡ Ok (Bound 77 78)
unfolding first_of first_to part same_bytes bytes_from bytes prefix_in built_in has_prefix is_default has_value is_overridden in_effect
effect_resolves_instance = in_effect_resolves nested nested_valid nested_long 4 (omega arith) refl

-- from record 3 on, with 21 zeros after the text: record 4
pub pad_in_effect_instance : first_to (in_effect (pad_to 100 nested.text) (record_at nested.records) 6) 3 6 ≡ first_to (in_effect nested.text (record_at nested.records) 6) 3 6
pad_in_effect_instance =
    pad_in_effect 100 nested.text (record_at nested.records) 6
    (λ k h. omega (arith, nested_long, lies nested.text nested.records nested.head (form_of_lem nested nested_valid) k h)) 3

-- the inner `p` and its `w`, and at level 1 the outer one and its `v`
pub bindings_mark_instance : Marks nested.text 76 77 (bytes "p") × Marks nested.text 77 78 (bytes "w")
unfolding first_of first_to part same_bytes bytes_from bytes all_below all_zero prefix_in value_in built_in text_of level_before is_record opens_built_in is_chain is_rising is_within is_clear is_table valid_of has_prefix has_value is_overridden in_effect shown_of listed_at past_built_in bindings_of
bindings_mark_instance = bindings_mark nested nested_valid nested_long 3

pub level_marks_instance : Marks nested.text 74 75 (bytes "p") × Marks nested.text 75 76 (bytes "v")
unfolding first_of first_to part same_bytes bytes_from bytes all_below all_zero prefix_in value_in built_in text_of level_before is_record opens_built_in is_chain is_rising is_within is_clear is_table valid_of has_value at_level shown_of listed_at bindings_at_of
level_marks_instance = level_marks nested nested_valid nested_long 1 3
