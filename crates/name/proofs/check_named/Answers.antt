-- `name::check_named` meets its contract: each chain of tests decides one answer.
use mathlib.Core.Path.{sym, ap, ◌∙◌}
use Rattle.name.specs.Bind.{named_numbers}
use Rattle.name.proofs.Verdicts.{bind_own, bind_xml, bind_xmlns, bind_to_xml, bind_to_xmlns, bind_fine}
use Rattle.name.proofs.check_named.Goals as goal

pub returns-then-is_xml_uri : goal.returns-then-is_xml_uri
returns-then-is_xml_uri c = ap named_numbers (bind_own _ _ (sym c.is_xml.ensures ∙ c.if-is_xml.true) (sym c.is_xml_uri.ensures ∙ c.if-is_xml_uri.true))

pub returns-then-is_xml : goal.returns-then-is_xml
returns-then-is_xml c = ap named_numbers (bind_xml _ _ (sym c.is_xml.ensures ∙ c.if-is_xml.true) (sym c.is_xml_uri.ensures ∙ c.if-is_xml_uri.false))

pub returns-then-is_xmlns : goal.returns-then-is_xmlns
returns-then-is_xmlns c = ap named_numbers (bind_xmlns _ _ (sym c.is_xml.ensures ∙ c.if-is_xml.false) (sym c.is_xmlns.ensures ∙ c.if-is_xmlns.true))

pub returns-then-is_xml_uri-2 : goal.returns-then-is_xml_uri-2
returns-then-is_xml_uri-2 c = ap named_numbers (bind_to_xml _ _ (sym c.is_xml.ensures ∙ c.if-is_xml.false) (sym c.is_xmlns.ensures ∙ c.if-is_xmlns.false) (sym c.is_xml_uri-2.ensures ∙ c.if-is_xml_uri-2.true))

pub returns-then-is_xmlns_uri : goal.returns-then-is_xmlns_uri
returns-then-is_xmlns_uri c = ap named_numbers (bind_to_xmlns _ _ (sym c.is_xml.ensures ∙ c.if-is_xml.false) (sym c.is_xmlns.ensures ∙ c.if-is_xmlns.false) (sym c.is_xml_uri-2.ensures ∙ c.if-is_xml_uri-2.false) (sym c.is_xmlns_uri.ensures ∙ c.if-is_xmlns_uri.true))

pub returns : goal.returns
returns c = ap named_numbers (bind_fine _ _ (sym c.is_xml.ensures ∙ c.if-is_xml.false) (sym c.is_xmlns.ensures ∙ c.if-is_xmlns.false) (sym c.is_xml_uri-2.ensures ∙ c.if-is_xml_uri-2.false) (sym c.is_xmlns_uri.ensures ∙ c.if-is_xmlns_uri.false))
