-- The theorems at work: in a scope with ` xmlns:p="v"` and in it ` xmlns:p="w" xmlns="u"` the iterator over the bindings in effect shows
-- the inner `p` and the default, and the one over level 1 the outer `p`.
use mathlib.Core.Path.{◌≡◌, refl}
use mathlib.Core.Bool.{true}
use mathlib.Core.List.{[], ◌∷◌, ◌++◌}
use denote.Ref.{Bor}
use Rattle.scan.specs.First.{first_of, first_to}
use Rattle.scan.specs.Bytes.{part, same_bytes, bytes_from, bytes}
use Rattle.scope_table.specs.Lists.{all_below, all_zero}
use Rattle.scope_table.specs.Records.{prefix_in}
use Rattle.scope_table.specs.Table.{LIMIT, built_in, text_of, level_before, is_record, opens_built_in, is_chain, is_rising, is_within, is_clear, is_table, valid_of, head_of, resolver_of}
use Rattle.scope_table.specs.declared.NamespaceResolver.{NamespaceResolver}
use Rattle.scope_lookup.specs.Lookup.{has_prefix}
use Rattle.scope_listing.specs.Listing.{shows, has_value, is_overridden, in_effect, at_level, shown_of}
use Rattle.scope_listing.specs.Whole.{showing}
use Rattle.scope_listing_carried.specs.Listings.{in_effect_on, level_on, listed_on, listed_on_level, after_shown, after_shown_at, iterated}
use Rattle.scope_listing_carried.proofs.Iterated.{iterates_in_effect, iterates_level}

abbrev two_tags : NamespaceResolver
two_tags =
    resolver_of (built_in ++ bytes "pvpwu")
    (0 ∷ 3 ∷ 36 ∷ 0 ∷ 39 ∷ 5 ∷ 29 ∷ 0 ∷ 73 ∷ 1 ∷ 1 ∷ 1 ∷ 75 ∷ 1 ∷ 1 ∷ 2 ∷ 77 ∷ 0 ∷ 1 ∷ 2 ∷ [])
    (head_of 78 5 2 LIMIT)

two_tags_valid : valid_of two_tags ≡ true
unfolding same_bytes bytes_from bytes all_below all_zero built_in text_of level_before is_record opens_built_in is_chain is_rising is_within is_clear is_table valid_of
two_tags_valid = refl

abbrev scope : Bor NamespaceResolver
scope = record { ref_ptr = (0, 0); now = two_tags }

pub iterates_in_effect_instance : iterated (λ it. (listed_on it).answer) after_shown 6 (in_effect_on scope) ≡ shows 75 76 77 ∷ shows 77 77 78 ∷ []
unfolding first_of first_to part same_bytes bytes_from bytes prefix_in built_in has_prefix has_value is_overridden in_effect shown_of showing
iterates_in_effect_instance = iterates_in_effect scope two_tags_valid 0

pub iterates_level_instance : iterated (λ it. (listed_on_level it).answer) after_shown_at 6 (level_on scope 1) ≡ shows 73 74 75 ∷ []
unfolding has_value at_level shown_of showing
iterates_level_instance = iterates_level scope 1 two_tags_valid 0
