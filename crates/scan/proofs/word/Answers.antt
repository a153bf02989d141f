-- `scan::word` meets its contract: the eight bytes from i on, the first lowest.
use Rattle.std.proofs.Common.{◌∙◌}
use Rattle.scan.proofs.Marks.{eight_bytes}
use Rattle.scan.proofs.word.Goals as goal

pub returns : goal.returns
returns c =
    let chunk = rw c.unwrap.ensures at c.as_array.ensures.cases in
    c.from_le_bytes.ensures ∙ eight_bytes c.args.tag.now c.args.i c.unwrap.result.now chunk.same
