-- `name::is_xml_uri` meets its contract: the byte string is the text of the definition.
use Rattle.scan.specs.Bytes.{bytes, bytes_from}
use Rattle.name.specs.Reserved.{is_xml_uri, xml_uri}
use Rattle.name.proofs.is_xml_uri.Goals as goal

pub returns : goal.returns
unfolding is_xml_uri xml_uri bytes bytes_from
returns c = c.same.ensures
