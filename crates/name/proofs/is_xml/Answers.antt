-- `name::is_xml` meets its contract: the byte string is the text of the definition.
use Rattle.scan.specs.Bytes.{bytes, bytes_from}
use Rattle.name.specs.Reserved.{is_xml, xml_prefix}
use Rattle.name.proofs.is_xml.Goals as goal

pub returns : goal.returns
unfolding is_xml xml_prefix bytes bytes_from
returns c = c.same.ensures
