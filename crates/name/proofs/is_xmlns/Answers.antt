-- `name::is_xmlns` meets its contract: the byte string is the text of the definition.
use Rattle.scan.specs.Bytes.{bytes, bytes_from}
use Rattle.name.specs.Reserved.{is_xmlns, xmlns_prefix}
use Rattle.name.proofs.is_xmlns.Goals as goal

pub returns : goal.returns
unfolding is_xmlns xmlns_prefix bytes bytes_from
returns c = c.same.ensures
