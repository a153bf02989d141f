-- `name::verdict_default` meets its contract: the two URIs decide, one after the other.
use mathlib.Core.Path.{sym, ◌∙◌}
use Rattle.name.proofs.Verdicts.{default_xml, default_xmlns}
use Rattle.name.proofs.verdict_default.Goals as goal
use Rattle.name.proofs.verdict_default.Goals.{then-is_xml_uri, else-is_xml_uri}

pub returns : goal.returns
returns c =
    elim c.if-is_xml_uri.branch [
      | then-is_xml_uri w ↦ rw (w.result-is, w.if-is_xml_uri.true) (default_xml _ (sym c.is_xml_uri.ensures ∙ w.if-is_xml_uri.true))
      | else-is_xml_uri w ↦ rw w.result-is (default_xmlns _ (sym c.is_xml_uri.ensures ∙ w.if-is_xml_uri.false) (sym w.is_xmlns_uri.ensures))
    ]
