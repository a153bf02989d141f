-- `name::is_xmlns_uri` meets its contract: the byte string is the text of the definition.
use Rattle.scan.specs.Bytes.{bytes, bytes_from}
use Rattle.name.specs.Reserved.{is_xmlns_uri, xmlns_uri}
use Rattle.name.proofs.is_xmlns_uri.Goals as goal

pub returns : goal.returns
unfolding is_xmlns_uri xmlns_uri bytes bytes_from
returns c = c.same.ensures
