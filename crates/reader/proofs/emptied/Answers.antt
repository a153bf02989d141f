-- `reader::emptied` meets its contract: tables of full size are as long as they were.
use mathlib.Core.Path.{◌∙◌}
use borrow.Author.Rules.{rules}
use Rattle.reader.proofs.Ways.{Full, full, full_emptied}
use Rattle.reader.proofs.emptied.Goals as goal

pub returns : goal.returns
returns c =
    let r = c.args.r in
    let sized : Full r = full r (search rules) (search rules) (search rules) in
    c.moved.ensures ∙ full_emptied r sized
