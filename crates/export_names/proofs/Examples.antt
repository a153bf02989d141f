-- The theorems at work: three names of a tag, the first two as elements' names, within ` xmlns="u" xmlns:p="v"`.
use Prim.Native.Nat.{ℕ}
use mathlib.Core.Path.{◌≡◌}
use mathlib.Core.List.{List, [], ◌∷◌}
use native.Mathlib.Omega.{arith}
use lib.ListN.{get_or, replicate}
use Rattle.scan.specs.First.{first_of, first_to, first_from}
use Rattle.scan.specs.Bytes.{is_byte, part, inside, same_bytes, bytes_from, bytes}
use Rattle.name.specs.Split.{colon_at, has_colon, prefix_of}
use Rattle.scope_table.specs.Lists.{last_below, all_below, all_zero}
use Rattle.scope_table.specs.Records.{prefix_in}
use Rattle.scope_table.specs.Table.{built_in, text_of, level_before, is_record, opens_built_in, is_chain, is_rising, is_within, is_clear, is_table, valid_of}
use Rattle.scope_lookup.specs.Lookup.{resolved_numbers, has_prefix, is_default, value_or, explicit_of, default_of, among_of, resolve_prefix_of, resolve_of}
use Rattle.scope_lookup.proofs.Examples.{scoped, scoped_valid}
use Rattle.export_memory.specs.Boundary.{code_of}
use Rattle.export_names.specs.Names.{Names, many_of}
use Rattle.export_names.proofs.Answers.{names_answered, kind_as_alone, bounds_as_alone}

abbrev tag : List ℕ
tag = bytes "p:a b q:c"

abbrev from : List ℕ
from = 0 ∷ 4 ∷ 6 ∷ []

abbrev to : List ℕ
to = 3 ∷ 5 ∷ 9 ∷ []

abbrev after : Names
after = many_of tag from to 2 (replicate 3 7) (replicate 3 7) (replicate 3 7) scoped

pub answered_instance : after.result ≡ 0
answered_instance = names_answered scoped scoped_valid tag from to 2 (replicate 3 7) (replicate 3 7) (replicate 3 7)

-- bound, bound by the default, unknown
pub kinds_instance : (get_or after.kinds 0 0 ≡ 1) × (get_or after.kinds 1 0 ≡ 1) × (get_or after.kinds 2 0 ≡ 2)
unfolding first_of first_to first_from is_byte part inside same_bytes bytes_from bytes colon_at has_colon prefix_of last_below all_below all_zero prefix_in built_in text_of level_before is_record opens_built_in is_chain is_rising is_within is_clear is_table valid_of resolved_numbers has_prefix is_default value_or explicit_of default_of among_of resolve_prefix_of resolve_of code_of
kinds_instance = (
  kind_as_alone scoped scoped_valid tag from to 2 (replicate 3 7) (replicate 3 7) (replicate 3 7) 0 (omega arith),
  kind_as_alone scoped scoped_valid tag from to 2 (replicate 3 7) (replicate 3 7) (replicate 3 7) 1 (omega arith),
  kind_as_alone scoped scoped_valid tag from to 2 (replicate 3 7) (replicate 3 7) (replicate 3 7) 2 (omega arith),
)

-- the `u` in the resolver's text, and the `q` in its name
pub bounds_instance :
    ((get_or after.begins 1 0 ≡ 73) × (get_or after.ends 1 0 ≡ 74))
    × ((get_or after.begins 2 0 ≡ 0) × (get_or after.ends 2 0 ≡ 1))
unfolding first_of first_to first_from is_byte part inside same_bytes bytes_from bytes colon_at has_colon prefix_of last_below all_below all_zero prefix_in built_in text_of level_before is_record opens_built_in is_chain is_rising is_within is_clear is_table valid_of resolved_numbers has_prefix is_default value_or explicit_of default_of among_of resolve_prefix_of resolve_of
bounds_instance = (
  bounds_as_alone scoped scoped_valid tag from to 2 (replicate 3 7) (replicate 3 7) (replicate 3 7) 1 (omega arith),
  bounds_as_alone scoped scoped_valid tag from to 2 (replicate 3 7) (replicate 3 7) (replicate 3 7) 2 (omega arith),
)
