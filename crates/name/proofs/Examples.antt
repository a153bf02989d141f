-- Worked examples, as tables that antt computes: how names split and what they declare, and what is said of declarations, of
-- default ones by their values alone.
use Prim.Native.Nat.{ℕ}
use Prim.Native.String.{String}
use mathlib.Core.Path.{◌≡◌, refl}
use mathlib.Core.List.{List, [], ◌∷◌, map}
use Rattle.scan.specs.First.{first_from, first_to, first_of}
use Rattle.scan.specs.Bytes.{bytes, bytes_from, same_bytes, is_byte}
use Rattle.name.specs.Split.{colon_at, has_colon, colon_of, prefix_of, local_at, local_of}
use Rattle.name.specs.Reserved.{xml_prefix, xmlns_prefix, xml_uri, xmlns_uri, is_xml, is_xmlns, is_xml_uri, is_xmlns_uri}
use Rattle.name.specs.Declares.{opening, is_named, declares_of, declared_prefix}
use Rattle.name.specs.Bind.{reserved_bind}
use Rattle.name.specs.Verdict.{is_empty, is_other, is_refused, verdict_named, verdict_default, verdict_on, verdict_of}
use Rattle.std.specs.Prelude.{Bool, true, false, Option, Some, None, Result, Ok, Err}
use Rattle.name.specs.declared.PrefixDeclaration.{PrefixDeclaration}
use Rattle.name.specs.declared.PrefixDeclaration.TheVariants.{Default, Named}
use Rattle.name.specs.declared.ReservedBinding.{ReservedBinding}
use Rattle.name.specs.declared.ReservedBinding.TheVariants.{InvalidXmlPrefixBind, InvalidXmlnsPrefixBind, InvalidPrefixForXml, InvalidPrefixForXmlns}

-- what is said of one name: the first colon, the prefix, the local part, what it declares, and the declared prefix
record Split : Type 0 where
  colon : Option ℕ
  prefix : List ℕ
  local : List ℕ
  declares : Option PrefixDeclaration
  declared : List ℕ

abbrev split_of : String → Split
split_of name = record { colon = colon_of (bytes name); prefix = prefix_of (bytes name); local = local_of (bytes name); declares = declares_of (bytes name); declared = declared_prefix (bytes name) }

abbrev splits : Option ℕ → String → String → Option PrefixDeclaration → String → Split
splits colon prefix local declares declared = record { colon = colon; prefix = bytes prefix; local = bytes local; declares = declares; declared = bytes declared }

pub names_split :
    map split_of ("" ∷ "a" ∷ ":a" ∷ "a:" ∷ "p:a" ∷ "a:b:c" ∷ "xmlns" ∷ "xmlns:" ∷ "xmlns:p" ∷ "xmlns:p:q" ∷ "xmlnsp" ∷ "xml:a" ∷ "Xmlns:p" ∷ [])
    ≡ splits None "" "" None ""
    ∷ splits None "" "a" None ""
    ∷ splits (Some 0) "" "a" None ""
    ∷ splits (Some 1) "a" "" None ""
    ∷ splits (Some 1) "p" "a" None ""
    ∷ splits (Some 1) "a" "b:c" None ""
    ∷ splits None "" "xmlns" (Some Default) ""
    ∷ splits (Some 5) "xmlns" "" (Some Named) ""
    ∷ splits (Some 5) "xmlns" "p" (Some Named) "p"
    ∷ splits (Some 5) "xmlns" "p:q" (Some Named) "p:q"
    ∷ splits None "" "xmlnsp" None ""
    ∷ splits (Some 3) "xml" "a" None ""
    ∷ splits (Some 5) "Xmlns" "p" None ""
    ∷ []
unfolding colon_of has_colon colon_at prefix_of local_of local_at declares_of declared_prefix is_named opening is_xmlns xmlns_prefix first_from first_to first_of is_byte same_bytes bytes bytes_from
names_split = refl

-- what is said of one declaration: by Namespaces 1.0, and by the rules on what is reserved (of the declared prefix, which
-- has no bytes in the last two rows)
record Judged : Type 0 where
  verdict : Option Bool
  check : Result Bool ReservedBinding

abbrev judge : String × String → Judged
judge d = record { verdict = verdict_of (bytes d.0) (bytes d.1); check = reserved_bind (declared_prefix (bytes d.0)) (bytes d.1) }

abbrev is : Option Bool → Result Bool ReservedBinding → Judged
is verdict check = record { verdict = verdict; check = check }

pub declarations_judged :
    map judge
    (("xmlns:p", "v")
    ∷ ("xmlns:p", "")
    ∷ ("xmlns:", "v")
    ∷ ("xmlns:p:q", "v")
    ∷ ("xmlns:xml", "http://www.w3.org/XML/1998/namespace")
    ∷ ("xmlns:xml", "v")
    ∷ ("xmlns:xml", "http://www.w3.org/2000/xmlns/")
    ∷ ("xmlns:xmlns", "http://www.w3.org/2000/xmlns/")
    ∷ ("xmlns:xmlns", "v")
    ∷ ("xmlns:p", "http://www.w3.org/XML/1998/namespace")
    ∷ ("xmlns:p", "http://www.w3.org/2000/xmlns/")
    ∷ ("xmlns:", "http://www.w3.org/2000/xmlns/")
    ∷ ("xmlns", "")
    ∷ ("p:a", "v")
    ∷ [])
    ≡ is (Some true) (Ok true)
    ∷ is (Some false) (Ok true)
    ∷ is (Some false) (Ok true)
    ∷ is (Some false) (Ok true)
    ∷ is (Some true) (Ok false)
    ∷ is (Some false) (Err InvalidXmlPrefixBind)
    ∷ is (Some false) (Err InvalidXmlPrefixBind)
    ∷ is (Some false) (Err InvalidXmlnsPrefixBind)
    ∷ is (Some false) (Err InvalidXmlnsPrefixBind)
    ∷ is (Some false) (Err InvalidPrefixForXml)
    ∷ is (Some false) (Err InvalidPrefixForXmlns)
    ∷ is (Some false) (Err InvalidPrefixForXmlns)
    ∷ is (Some true) (Ok true)
    ∷ is None (Ok true)
    ∷ []
unfolding verdict_of verdict_on verdict_named verdict_default is_refused is_other is_empty reserved_bind has_colon colon_at declares_of declared_prefix is_named opening is_xml is_xmlns is_xml_uri is_xmlns_uri xml_prefix xmlns_prefix xml_uri xmlns_uri first_from first_to first_of is_byte same_bytes bytes bytes_from
declarations_judged = refl

-- the verdict on a default declaration with this value
abbrev default_verdict : String → Option Bool
default_verdict value = verdict_of (bytes "xmlns") (bytes value)

-- Both reserved URIs are refused, and nothing else: not with a byte more, not with one less, not the empty value.
pub defaults_judged :
    map default_verdict
    (""
    ∷ "u"
    ∷ "http://www.w3.org/XML/1998/namespace"
    ∷ "http://www.w3.org/XML/1998/namespace/"
    ∷ "http://www.w3.org/XML/1998/namespac"
    ∷ "http://www.w3.org/2000/xmlns/"
    ∷ "http://www.w3.org/2000/xmlns//"
    ∷ "http://www.w3.org/2000/xmlns"
    ∷ [])
    ≡ Some true ∷ Some true ∷ Some false ∷ Some true ∷ Some true ∷ Some false ∷ Some true ∷ Some true ∷ []
unfolding verdict_of verdict_on verdict_default is_empty declares_of declared_prefix is_named opening is_xmlns is_xml_uri is_xmlns_uri xmlns_prefix xml_uri xmlns_uri same_bytes bytes bytes_from
defaults_judged = refl
