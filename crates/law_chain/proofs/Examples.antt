-- The theorems at work: real tags that meet the premises of `innermost_declares`, what names mean in them by computation,
-- and what a lookup then hands back.
use Prim.Native.Nat.{ℕ, suc}
use Prim.Native.String.{String}
use mathlib.Core.Path.{◌≡◌, refl, sym, ap, ◌∙◌}
use mathlib.Core.Bool.{Bool, true, false, false≢true}
use mathlib.Core.List.{List, [], ◌∷◌, map, ◌++◌}
use native.Mathlib.Omega.{arith}
use lib.ListN.{drop}
use Rattle.std.specs.Prelude.{Some}
use Rattle.scan.specs.First.{first_of, first_to, first_from}
use Rattle.scan.specs.Bytes.{is_space, not_space, ends_key, is_byte, part, inside, same_bytes, bytes_from, bytes}
use Rattle.scan.specs.Lists.{over}
use Rattle.scan.proofs.Bytes.{same_refl}
use Rattle.tag_keys.specs.Keys.{key_good, key_bad, count_good, table_good, name_at, same_key, oldest_of, earlier_of, checked_by, checked_of, written_by, count_by}
use Rattle.tag_step.specs.Read.{is_at, is_quote, skip_to, skip_of, recover_of, key_eq, key_to, key_from, key_at, quoted, closed_of, quoted_to, quoted_of, unquoted_to, other_of, value_by, value_from, value_at}
use Rattle.tag_step.specs.Next.{check_of, kept_by, place_at, bare_by, bare_to, bare_of, valued_by, valued_to, valued_of, read_key, read_at, step_from, step_of, place_good, keys_of, state_good, no_keys, bad_reading, leaves, next_of, opened}
use Rattle.tag_step.specs.Run.{is_end, cons_unless, run_of, answers_of}
use Rattle.tag_parts.specs.Parts.{key_part, value_part}
use Rattle.name.specs.Split.{colon_at, has_colon, colon_of, prefix_of, local_at, local_of}
use Rattle.name.specs.Reserved.{xml_prefix, xmlns_prefix, xml_uri, xmlns_uri, is_xml, is_xmlns, is_xml_uri, is_xmlns_uri}
use Rattle.name.specs.Bind.{reserved_bind}
use Rattle.name.specs.Declares.{opening, is_named, declares_of, declared_prefix, declares_number}
use Rattle.name.specs.Verdict.{is_empty, is_other, is_refused, verdict_named, verdict_default, verdict_on, verdict_of, verdict_number}
use Rattle.name.proofs.Split.{split_joins, prefix_colon_free}
use Rattle.name.proofs.Declared.{default_exactly, named_exactly, nothing_exactly}
use Rattle.name.proofs.Verdicts.{is_refusal, yes_means, allowed_yes, yes_binds}
use Rattle.law_wellformed.specs.Grammar.{each, some, is_in, one_of, name_byte, Quote, double, quote_byte, value_byte, Piece, byte, piece_text, is_piece, value_text, are_pieces, IsValue, Attribute, attribute_then, AttributeBy, attributes_then, body_text, AttributesBy, Absent, Distinct}
use Rattle.scope_table.specs.Lists.{last_below, all_below, all_zero}
use Rattle.scope_table.specs.Records.{prefix_in}
use Rattle.scope_table.specs.Table.{LIMIT, built_in, level_before, is_record, opens_built_in, is_chain, is_rising, is_within, is_clear, is_table, valid_of, fresh_of}
use Rattle.scope_table.specs.Table as Table
use Rattle.scope_table.specs.declared.NamespaceResolver.{NamespaceResolver}
use Rattle.scope_table.proofs.Lists.{and_left, and_right, and_take}
use Rattle.scope_change.specs.Change.{bound_of, refusal_of, append_of}
use Rattle.scope_declare.specs.Declare.{named_of, judge_of, settle_of, declare_of, limited_of}
use Rattle.scope_push.specs.Push.{declaration_of, declaration_then, declarations_of, tag_answers, then_of, declare_all, raised_of, push_of}
use Rattle.scope_lookup.specs.Lookup.{has_prefix, is_default, value_or, explicit_of, default_of, among_of, resolve_prefix_of, resolve_of, uri_part}
use Rattle.law_rows.specs.Seen.{Seen, bound, unbound, unknown, handed_back}
use Rattle.law_chain.specs.Chain.{Tag, pushed_of, NoneRefused, NoneNo, FineTag, FineTags, or_else, given_by, innermost, declaring, declaring_default, prefixed_by, default_by, unprefixed, meant_by, meant_of}
use Rattle.law_chain.specs.Plain.{is_plain, meaning_of}
use Rattle.law_chain.proofs.Chain.{innermost_declares, innermost_prefix, innermost_default}
use Rattle.law_chain.proofs.Plain.{plain_stands}

-- an attribute after a blank, in double quotes, and a tag with two of them
abbrev attribute : String → String → Attribute
attribute n v = record { before = bytes " "; name = bytes n; before_eq = []; after_eq = []; quote = double; value = bytes v }

abbrev tag : (name : String) (n v m w : String) → Tag
tag name n v m w = record { name = bytes name; body = record { attributes = attribute n v ∷ attribute m w ∷ []; after = [] } }

-- <a xmlns="u" xmlns:p="v">
-- <b xmlns:p="w" p:x="1">
-- <c xmlns="" xmlns:q="z">
abbrev chain : List Tag
chain = tag "c" "xmlns" "" "xmlns:q" "z" ∷ tag "b" "xmlns:p" "w" "p:x" "1" ∷ tag "a" "xmlns" "u" "xmlns:p" "v" ∷ []

abbrev seen_in : List Tag → (name : String) (element : Bool) → Seen
seen_in tags name element = meant_of tags (bytes name) element

pub chain_means :
    (seen_in chain "a" true ≡ unbound) × (seen_in (drop 1 chain) "a" true ≡ bound (bytes "u"))
    × (seen_in (drop 1 chain) "a" false ≡ unbound)
    × (seen_in chain "p:a" true ≡ bound (bytes "w")) × (seen_in (drop 2 chain) "p:a" false ≡ bound (bytes "v"))
    × (seen_in chain "q:a" false ≡ bound (bytes "z")) × (seen_in (drop 1 chain) "q:a" false ≡ unknown (bytes "q"))
    × (seen_in chain "xml:lang" false ≡ bound xml_uri) × (seen_in chain "xmlns:p" false ≡ bound xmlns_uri)
    × (seen_in chain ":a" true ≡ unknown [])
unfolding meant_of meant_by prefixed_by unprefixed default_by innermost given_by or_else declaring declaring_default is_xml is_xmlns is_empty same_bytes xml_prefix xmlns_prefix xml_uri xmlns_uri bytes bytes_from colon_of has_colon colon_at first_from first_to first_of is_byte
chain_means = (refl, refl, refl, refl, refl, refl, refl, refl, refl, refl)

-- The premises.

pieces_are : (q : Quote) (v : List ℕ) → each (value_byte q) v ≡ true → are_pieces q (map byte v) ≡ true
unfolding each are_pieces is_piece
pieces_are q [] h = refl
pieces_are q (b ∷ v) h = and_take (and_left (value_byte q b) (each (value_byte q) v) h) (pieces_are q v (and_right (value_byte q b) (each (value_byte q) v) h))

pieces_text : (v : List ℕ) → value_text (map byte v) ≡ v
unfolding value_text piece_text
pieces_text [] = refl
pieces_text (b ∷ v) = rw (pieces_text v)

-- a value with no reference is one of production 10
plain_value : (q : Quote) (v : List ℕ) → each (value_byte q) v ≡ true → IsValue q v
plain_value q v h = record { pieces = map byte v; are = pieces_are q v h; text = pieces_text v }

apart : (a b : List ℕ) → same_bytes a b ≡ false → a ≡ b → ⊥
apart a b h e = false≢true (sym h ∙ ap (same_bytes a) (sym e) ∙ same_refl a)

not_no : (n v : List ℕ) (k : ℕ) → verdict_number (verdict_of n v) ≡ suc k → verdict_of n v ≡ Some false → ⊥
not_no n v k h e = omega (arith, h, ap verdict_number e)

plain_attribute : (n v : String) → some name_byte (bytes n) ≡ true → each (value_byte double) (bytes v) ≡ true → AttributeBy IsValue (attribute n v)
unfolding some each is_space bytes bytes_from
plain_attribute n v h g = record { before = refl; name = h; before_eq = refl; after_eq = refl; value = plain_value double (bytes v) g }

module _ (name n v m w : String) where
  tag_fine : some name_byte (bytes n) ≡ true → each (value_byte double) (bytes v) ≡ true → some name_byte (bytes m) ≡ true → each (value_byte double) (bytes w) ≡ true → same_bytes (bytes n) (bytes m) ≡ false → (k : ℕ) → verdict_number (verdict_of (bytes n) (bytes v)) ≡ suc k → (l : ℕ) → verdict_number (verdict_of (bytes m) (bytes w)) ≡ suc l → FineTag (tag name n v m w)
  unfolding AttributesBy Distinct Absent NoneNo each
  tag_fine hn hv hm hw ne k y l z =
      record {
        well_formed = record { attributes = (plain_attribute n v hn hv, (plain_attribute m w hm hw, tt)); after = refl };
        distinct = ((apart (bytes n) (bytes m) ne, tt), (tt, tt));
        verdicts = (not_no (bytes n) (bytes v) k y, (not_no (bytes m) (bytes w) l z, tt));
      }

pub chain_fine : FineTags chain
unfolding FineTags some each name_byte value_byte quote_byte one_of is_in is_space same_bytes bytes bytes_from verdict_of verdict_on verdict_named verdict_default is_refused is_other is_empty has_colon colon_at first_from first_to first_of is_byte declares_of declared_prefix is_named opening is_xml is_xmlns is_xml_uri is_xmlns_uri xml_prefix xmlns_prefix xml_uri xmlns_uri
chain_fine = (
  tag_fine "c" "xmlns" "" "xmlns:q" "z" refl refl refl refl refl 0 refl 0 refl,
  (
    tag_fine "b" "xmlns:p" "w" "p:x" "1" refl refl refl refl refl 0 refl 1 refl,
    (tag_fine "a" "xmlns" "u" "xmlns:p" "v" refl refl refl refl refl 0 refl 0 refl, tt),
  ),
)

pub chain_not_refused : NoneRefused LIMIT chain
unfolding NoneRefused pushed_of body_text attributes_then attribute_then quote_byte first_of first_to first_from is_space not_space ends_key is_byte part same_bytes bytes_from bytes key_good key_bad count_good table_good name_at same_key oldest_of earlier_of checked_by checked_of written_by count_by is_at is_quote skip_to skip_of recover_of key_eq key_to key_from key_at quoted closed_of quoted_to quoted_of unquoted_to other_of value_by value_from value_at check_of kept_by place_at bare_by bare_to bare_of valued_by valued_to valued_of read_key read_at step_from step_of place_good keys_of state_good no_keys bad_reading leaves next_of opened is_end cons_unless run_of answers_of inside key_part value_part xml_prefix xmlns_prefix xml_uri xmlns_uri is_xml is_xmlns is_xml_uri is_xmlns_uri reserved_bind opening is_named declares_of declared_prefix all_below all_zero over built_in Table.text_of level_before is_record opens_built_in is_chain is_rising is_within is_clear is_table valid_of fresh_of bound_of refusal_of append_of named_of judge_of settle_of declare_of limited_of declaration_of declaration_then declarations_of tag_answers then_of declare_all raised_of push_of
chain_not_refused = (refl, (refl, (refl, tt)))

-- What lookups hand back after the three pushes.

abbrev x : NamespaceResolver
x = (pushed_of LIMIT chain).resolver

-- `p:a` is bound by the tag in the middle, `a` is unbound, since the innermost default is empty
pub declares_instance : (handed_back x (bytes "p:a") (resolve_of (bytes "p:a") true x) ≡ bound (bytes "w")) × (handed_back x (bytes "a") (resolve_of (bytes "a") true x) ≡ unbound)
declares_instance = (
  innermost_declares LIMIT chain chain_fine chain_not_refused (bytes "p:a") true ∙ chain_means.3,
  innermost_declares LIMIT chain chain_fine chain_not_refused (bytes "a") true ∙ chain_means.0,
)

pub prefix_instance : handed_back x (bytes "q") (resolve_prefix_of (bytes "q") true false x) ≡ bound (bytes "z")
unfolding prefixed_by innermost given_by or_else declaring same_bytes bytes bytes_from
prefix_instance = innermost_prefix LIMIT chain chain_fine chain_not_refused (bytes "q") false

pub default_instance : handed_back x [] (resolve_prefix_of [] false true x) ≡ unbound
unfolding unprefixed default_by innermost given_by or_else declaring_default is_empty same_bytes bytes bytes_from
default_instance = innermost_default LIMIT chain chain_fine chain_not_refused [] true

-- a value with a blank in it, and no reference
pub plain_instance : (refers : Piece → List ℕ) → meaning_of refers (map byte (bytes "u v")) ≡ bytes "u v"
unfolding is_plain each one_of is_in value_text piece_text bytes bytes_from
plain_instance refers = plain_stands refers (map byte (bytes "u v")) refl

-- Names and declarations, as they stand in these tags.

pub split_instance : bytes "p:a" ≡ bytes "p" ++ 58 ∷ bytes "a"
unfolding first_of first_to first_from is_byte bytes_from bytes colon_at has_colon prefix_of local_at local_of
split_instance = split_joins (bytes "p:a") refl

pub colon_free_instance : has_colon (bytes "p") ≡ false
unfolding first_of first_to first_from is_byte bytes_from bytes colon_at has_colon prefix_of
colon_free_instance = prefix_colon_free (bytes "p:a")

pub declares_instances : (bytes "xmlns" ≡ xmlns_prefix) × (bytes "xmlns:p" ≡ opening ++ bytes "p") × ((p : List ℕ) → bytes "a" ≡ opening ++ p → ⊥)
unfolding same_bytes bytes_from bytes xmlns_prefix is_xmlns opening is_named declares_of declared_prefix
declares_instances = (default_exactly (bytes "xmlns") refl, named_exactly (bytes "xmlns:p") refl, (nothing_exactly (bytes "a") refl).1)

pub yes_instance : (is_xml_uri (bytes "v") ≡ false) × (is_xmlns_uri (bytes "u") ≡ false) × (is_refusal (reserved_bind (bytes "p") (bytes "v")) ≡ false)
unfolding first_of first_to first_from is_byte same_bytes bytes_from bytes xml_prefix xmlns_prefix xml_uri xmlns_uri is_xml is_xmlns is_xml_uri is_xmlns_uri colon_at has_colon is_empty is_other is_refused verdict_named verdict_default verdict_on verdict_of opening is_named declares_of declared_prefix
yes_instance = (
  (((yes_means (bytes "xmlns:p") (bytes "v") refl).named refl).other_uri refl).0,
  ((yes_means (bytes "xmlns") (bytes "u") refl).default_uri refl).1,
  yes_binds (bytes "p") (bytes "v") refl,
)

-- the innermost tag's default, which has no bytes
pub allowed_instance : verdict_of (bytes "xmlns") [] ≡ Some true
unfolding same_bytes bytes_from bytes xmlns_prefix xml_uri xmlns_uri is_xmlns is_xml_uri is_xmlns_uri opening is_named declares_of
allowed_instance =
    allowed_yes (bytes "xmlns") []
    (record {
      declares = λ d. omega (arith, ap declares_number d);
      default_uri = λ d. (refl, refl);
      named = λ d. absurd (omega (arith, ap declares_number d));
    })

-- <a xmlns="http://www.w3.org/2000/xmlns/" id="1">
abbrev reserved : List Tag
reserved = tag "a" "xmlns" "http://www.w3.org/2000/xmlns/" "id" "1" ∷ []

abbrev within : NamespaceResolver
within = (pushed_of LIMIT reserved).resolver

-- The verdict on that default is no, so that the tag is none of those that the theorem speaks of. It is pushed all the same, as by
-- the crate, and `a` is bound to that URI.
pub reserved_default_example : (FineTags reserved → ⊥) × (NoneRefused LIMIT reserved) × (handed_back within (bytes "a") (resolve_of (bytes "a") true within) ≡ bound xmlns_uri)
unfolding FineTags NoneNo verdict_of verdict_on verdict_default NoneRefused pushed_of body_text attributes_then attribute_then quote_byte first_of first_to first_from is_space not_space ends_key is_byte part same_bytes bytes_from bytes key_good key_bad count_good table_good name_at same_key oldest_of earlier_of checked_by checked_of written_by count_by is_at is_quote skip_to skip_of recover_of key_eq key_to key_from key_at quoted closed_of quoted_to quoted_of unquoted_to other_of value_by value_from value_at check_of kept_by place_at bare_by bare_to bare_of valued_by valued_to valued_of read_key read_at step_from step_of place_good keys_of state_good no_keys bad_reading leaves next_of opened is_end cons_unless run_of answers_of inside key_part value_part xml_prefix xmlns_prefix xml_uri xmlns_uri is_xml is_xmlns is_xml_uri is_xmlns_uri reserved_bind opening is_named declares_of declared_prefix all_below all_zero over built_in Table.text_of level_before is_record opens_built_in is_chain is_rising is_within is_clear is_table valid_of fresh_of bound_of refusal_of append_of named_of judge_of settle_of declare_of limited_of declaration_of declaration_then declarations_of tag_answers then_of declare_all raised_of push_of colon_at has_colon prefix_of last_below prefix_in has_prefix is_default value_or explicit_of default_of among_of resolve_prefix_of resolve_of uri_part handed_back
reserved_default_example = (λ fine. fine.0.verdicts.0 refl, (refl, tt), refl)
