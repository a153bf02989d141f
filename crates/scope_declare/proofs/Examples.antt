-- The theorems at work: what `add` holds of a value and of a prefix that are refused, with nothing declared yet.
use mathlib.Core.Path.{◌≡◌, refl, ◌∙◌}
use mathlib.Core.Bool.{true}
use mathlib.Core.List.{[], ◌∷◌}
use native.Mathlib.Omega.{arith}
use lib.ListN.{get_or}
use Rattle.std.specs.Prelude.{Some}
use Rattle.scan.specs.Bytes.{Marks, same_bytes, bytes_from, bytes}
use Rattle.name.specs.Reserved.{xml_prefix, xmlns_prefix, xml_uri, xmlns_uri, is_xml, is_xmlns, is_xml_uri, is_xmlns_uri}
use Rattle.name.specs.Bind.{reserved_bind, named_numbers, number_of, refused_text}
use Rattle.name.specs.declared.PrefixDeclaration.TheVariants.{Named}
use Rattle.scope_table.specs.Lists.{all_below, all_zero}
use Rattle.scope_table.specs.Table.{LIMIT, built_in, text_of, level_before, is_record, opens_built_in, is_chain, is_rising, is_within, is_clear, is_table, valid_of, head_of, resolver_of}
use Rattle.scope_table.specs.Answer.{change_numbers}
use Rattle.scope_table.specs.declared.NamespaceResolver.{NamespaceResolver}
use Rattle.scope_declare.specs.Declare.{named_of, judge_of, settle_of, declare_of, add_of}
use Rattle.scope_declare.proofs.Texts.{add_holds, add_refuses}

-- the built-ins alone
abbrev pub bare : NamespaceResolver
bare = resolver_of built_in (0 ∷ 3 ∷ 36 ∷ 0 ∷ 39 ∷ 5 ∷ 29 ∷ 0 ∷ []) (head_of 73 2 0 LIMIT)

pub bare_valid : valid_of bare ≡ true
unfolding same_bytes bytes_from bytes all_below all_zero built_in text_of level_before is_record opens_built_in is_chain is_rising is_within is_clear is_table valid_of
bare_valid = refl

-- 12 for `xml` with another URI, and 15 for a prefix with the URI of `xmlns`: the value, and the prefix
pub add_holds_instance : Marks (bytes "http") 0 4 (bytes "http") × Marks (bytes "pre") 0 3 (bytes "pre")
unfolding same_bytes bytes_from bytes xml_prefix xmlns_prefix xml_uri xmlns_uri is_xml is_xmlns is_xml_uri is_xmlns_uri reserved_bind refused_text all_below all_zero built_in text_of level_before is_record opens_built_in is_chain is_rising is_within is_clear is_table valid_of named_of judge_of settle_of declare_of add_of
add_holds_instance = (add_holds (Some Named) xml_prefix (bytes "http") bare, add_holds (Some Named) (bytes "pre") xmlns_uri bare)

twelve : number_of (reserved_bind xml_prefix (bytes "http")) ≡ 12
unfolding same_bytes bytes_from bytes xml_prefix xmlns_prefix xml_uri xmlns_uri is_xml is_xmlns is_xml_uri is_xmlns_uri reserved_bind named_numbers
twelve = refl

pub add_refuses_instance : get_or (change_numbers (add_of (Some Named) xml_prefix (bytes "http") bare).answer) 0 0 ≡ 12
add_refuses_instance = add_refuses xml_prefix (bytes "http") bare bare_valid (λ e. omega (arith, twelve, e)) ∙ twelve
