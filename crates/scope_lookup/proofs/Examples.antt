-- The theorems at work on a resolver with ` xmlns="u" xmlns:p="v"` in scope, and what its bounds mark.
use Prim.Native.Nat.{◌≤◌}
use mathlib.Core.Path.{◌≡◌, refl}
use mathlib.Core.Bool.{true, false}
use mathlib.Core.List.{[], ◌∷◌, ◌++◌}
use native.Mathlib.Omega.{arith}
use lib.ListN.{length}
use Rattle.scan.specs.First.{first_of, first_to, first_from}
use Rattle.scan.specs.Bytes.{is_byte, part, Marks, same_bytes, bytes_from, bytes}
use Rattle.scan.specs.Lists.{pad_to}
use Rattle.name.specs.Split.{colon_at, has_colon, prefix_of}
use Rattle.scope_table.specs.Lists.{last_below, all_below, all_zero}
use Rattle.scope_table.specs.Records.{record_at, prefix_in, value_in}
use Rattle.scope_table.specs.Table.{LIMIT, built_in, text_of, level_before, is_record, opens_built_in, is_chain, is_rising, is_within, is_clear, is_table, valid_of, head_of, resolver_of}
use Rattle.scope_table.specs.declared.NamespaceResolver.{NamespaceResolver}
use Rattle.scope_table.proofs.Good.{form_of_lem, lies}
use Rattle.scope_lookup.specs.Lookup.{has_prefix, is_default, value_or, explicit_of, default_of, among_of, resolve_prefix_of, resolve_of}
use Rattle.scope_lookup.specs.Marked.{value_nth}
use Rattle.scope_lookup.specs.declared.ResolveResult.TheVariants.{Bound}
use Rattle.scope_lookup.proofs.Marked.{prefix_marks, resolve_marks}
use Rattle.scope_lookup.proofs.Padded.{pad_among}

abbrev pub scoped : NamespaceResolver
scoped =
    resolver_of (built_in ++ bytes "upv") (0 ∷ 3 ∷ 36 ∷ 0 ∷ 39 ∷ 5 ∷ 29 ∷ 0 ∷ 73 ∷ 0 ∷ 1 ∷ 1 ∷ 74 ∷ 1 ∷ 1 ∷ 1 ∷ [])
    (head_of 76 4 1 LIMIT)

pub scoped_valid : valid_of scoped ≡ true
unfolding same_bytes bytes_from bytes all_below all_zero built_in text_of level_before is_record opens_built_in is_chain is_rising is_within is_clear is_table valid_of
scoped_valid = refl

pub scoped_long : 76 ≤ length scoped.text
unfolding built_in bytes_from bytes
scoped_long = omega arith

-- `p:a` is bound to the `v`, `a` as an element to the `u`; of `q:a` the `q` is unknown
pub marks_instance : Marks scoped.text 75 76 (bytes "v") × Marks scoped.text 73 74 (bytes "u") × Marks (bytes "q:a") 0 1 (bytes "q")
unfolding first_of first_to first_from is_byte part same_bytes bytes_from bytes colon_at has_colon prefix_of last_below all_below all_zero prefix_in value_in built_in text_of level_before is_record opens_built_in is_chain is_rising is_within is_clear is_table valid_of has_prefix is_default value_or explicit_of default_of among_of resolve_prefix_of resolve_of value_nth
marks_instance = (
  resolve_marks scoped scoped_valid scoped_long (bytes "p:a") false,
  resolve_marks scoped scoped_valid scoped_long (bytes "a") true,
  resolve_marks scoped scoped_valid scoped_long (bytes "q:a") false,
)

pub prefix_marks_instance : Marks scoped.text 75 76 (bytes "v") × Marks (bytes "q") 0 1 (bytes "q")
unfolding part same_bytes bytes_from bytes last_below all_below all_zero prefix_in value_in built_in text_of level_before is_record opens_built_in is_chain is_rising is_within is_clear is_table valid_of has_prefix is_default value_or explicit_of default_of among_of resolve_prefix_of value_nth
prefix_marks_instance = (prefix_marks scoped scoped_valid scoped_long (bytes "p") true false, prefix_marks scoped scoped_valid scoped_long (bytes "q") true false)

-- with 24 zeros after the text
pub pad_among_instance : among_of (pad_to 100 scoped.text) (record_at scoped.records) 4 (bytes "p") true false ≡ Bound 75 76
unfolding part same_bytes bytes_from bytes last_below prefix_in built_in has_prefix value_or explicit_of among_of
pad_among_instance =
    pad_among 100 scoped.text (record_at scoped.records) 4
    (λ k h. omega (arith, scoped_long, lies scoped.text scoped.records scoped.head (form_of_lem scoped scoped_valid) k h))
    (bytes "p") true false
