-- What the reserved prefixes and URIs say of binding a named prefix to a value: refusals 12 to 15.
use Rattle.std.specs.Prelude.{ℕ, Bool, true, false, List, [], ◌∷◌, get_or, Result, Ok, Err}
use Rattle.scan.specs.First.{pick}
use Rattle.name.specs.Reserved.{is_xml, is_xmlns, is_xml_uri, is_xmlns_uri}
use Rattle.name.specs.declared.ReservedBinding.{ReservedBinding}
use Rattle.name.specs.declared.ReservedBinding.TheVariants.{InvalidXmlPrefixBind, InvalidXmlnsPrefixBind, InvalidPrefixForXml, InvalidPrefixForXmlns}

-- `xml` bound to its own URI adds nothing, to another it is refused; `xmlns` is never bound; another prefix is bound to
-- neither URI. An empty prefix is such another one. Where nothing is refused it is said whether there is a binding to add.
unfoldable pub reserved_bind : (prefix value : List ℕ) → Result Bool ReservedBinding
reserved_bind prefix value =
    pick (is_xml prefix) (pick (is_xml_uri value) (Ok false) (Err InvalidXmlPrefixBind))
    (pick (is_xmlns prefix) (Err InvalidXmlnsPrefixBind)
    (pick (is_xml_uri value) (Err InvalidPrefixForXml)
    (pick (is_xmlns_uri value) (Err InvalidPrefixForXmlns)
    (Ok true))))

-- Each answer by numbers: a refusal has document 01's, and its value there is a text (`refused_text`). Where nothing is refused
-- there is none, and it is 0 with how many bindings are to be added.
unfoldable pub named_numbers : Result Bool ReservedBinding → List ℕ
named_numbers (Ok true) = 0 ∷ 1 ∷ []
named_numbers (Ok false) = 0 ∷ 0 ∷ []
named_numbers (Err InvalidXmlPrefixBind) = 12 ∷ []
named_numbers (Err InvalidXmlnsPrefixBind) = 13 ∷ []
named_numbers (Err InvalidPrefixForXml) = 14 ∷ []
named_numbers (Err InvalidPrefixForXmlns) = 15 ∷ []

-- the number alone
abbrev pub number_of : Result Bool ReservedBinding → ℕ
number_of c = get_or (named_numbers c) 0 0

-- the text that the refusal holds, of the prefix and the value that were to be bound
unfoldable pub refused_text : Result Bool ReservedBinding → (prefix value : List ℕ) → List ℕ
refused_text (Ok true) prefix value = []
refused_text (Ok false) prefix value = []
refused_text (Err InvalidXmlPrefixBind) prefix value = value
refused_text (Err InvalidXmlnsPrefixBind) prefix value = value
refused_text (Err InvalidPrefixForXml) prefix value = prefix
refused_text (Err InvalidPrefixForXmlns) prefix value = prefix
