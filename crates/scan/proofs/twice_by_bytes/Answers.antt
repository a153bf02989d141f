-- `scan::twice_by_bytes` meets its contract: there is no first, or the second is looked for behind it.
use mathlib.Core.Path.{◌∙◌}
use Rattle.scan.proofs.Second.{second_none, second_again, twice_is}
use Rattle.scan.proofs.twice_by_bytes.Goals as goal

pub returns-then-tag-first : goal.returns-then-tag-first
returns-then-tag-first c =
    let first = c.byte_by_bytes-first.ensures ∙ c.requires in
    twice_is _ _ _ _ first (second_none _ _ _ first c.if-tag-first.true)

pub returns : goal.returns
returns c =
    let first = c.byte_by_bytes-first.ensures ∙ c.requires in
    twice_is _ _ _ _ first (second_again _ _ _ _ first c.if-tag-first.false c.byte_by_bytes.ensures)
