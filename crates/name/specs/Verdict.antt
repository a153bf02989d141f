-- The verdict on a declaration, by Namespaces 1.0.
use Rattle.std.specs.Prelude.{ℕ, Bool, true, false, not, ◌&&◌, ◌||◌, List, length, eqb, Option, Some, None}
use Rattle.name.specs.Split.{has_colon}
use Rattle.name.specs.Reserved.{is_xml, is_xmlns, is_xml_uri, is_xmlns_uri}
use Rattle.name.specs.Declares.{declares_of, declared_prefix}
use Rattle.name.specs.declared.PrefixDeclaration.{PrefixDeclaration}
use Rattle.name.specs.declared.PrefixDeclaration.TheVariants.{Default, Named}

unfoldable pub is_empty : List ℕ → Bool
is_empty s = eqb (length s) 0

-- The prefix is neither `xml` nor `xmlns`.
unfoldable pub is_other : List ℕ → Bool
is_other prefix = not (is_xml prefix) && not (is_xmlns prefix)

-- A named declaration is refused for: prefix `xmlns`; `xml` to another URI; another prefix to the xml or xmlns URI; an
-- empty value; an empty prefix or one with a colon.
unfoldable pub is_refused : (prefix value : List ℕ) → Bool
is_refused prefix value =
    is_xmlns prefix
    || ((is_xml prefix && not (is_xml_uri value))
    || ((is_other prefix && (is_xml_uri value || is_xmlns_uri value))
    || (is_empty value
    || (is_empty prefix || has_colon prefix))))

-- Else yes.
unfoldable pub verdict_named : (prefix value : List ℕ) → Bool
verdict_named prefix value = not (is_refused prefix value)

-- A default declaration has no prefix. It is refused for the xml and for the xmlns URI, neither of which is to be declared as the
-- default namespace (document 02, request 4). Else yes: an empty value, too, which takes the default away.
unfoldable pub verdict_default : (value : List ℕ) → Bool
verdict_default value = not (is_xml_uri value || is_xmlns_uri value)

unfoldable pub verdict_on : Option PrefixDeclaration → (prefix value : List ℕ) → Option Bool
verdict_on None prefix value = None
verdict_on (Some Default) prefix value = Some (verdict_default value)
verdict_on (Some Named) prefix value = Some (verdict_named prefix value)

-- the verdict on an attribute, by its whole name: yes, no, or none where it declares nothing
unfoldable pub verdict_of : (name value : List ℕ) → Option Bool
verdict_of name value = verdict_on (declares_of name) (declared_prefix name) value

-- the number of each answer
abbrev pub verdict_number : Option Bool → ℕ
verdict_number (Some false) = 0
verdict_number (Some true) = 1
verdict_number None = 2
