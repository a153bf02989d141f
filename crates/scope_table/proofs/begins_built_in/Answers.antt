-- `scope_table::begins_built_in` meets its contract: a shorter text does not begin so, since its first 73 bytes are fewer.
use mathlib.Core.Path.{sym, ◌∙◌}
use native.Mathlib.Omega.{arith}
use lib.ListN.{take}
use lib.Seq.{length-take-le, take_all}
use borrow.Author.Tests.{lt-leb}
use Rattle.scan.specs.Bytes.{bytes, bytes_from}
use Rattle.scan.proofs.Bytes.{same_length}
use Rattle.scope_table.specs.Table.{built_in}
use Rattle.scope_table.proofs.begins_built_in.Goals as goal

pub returns-else-text-ge-BUILT_IN_LEN : goal.returns-else-text-ge-BUILT_IN_LEN
unfolding built_in bytes bytes_from
returns-else-text-ge-BUILT_IN_LEN c =
    let t = c.args.text.now in
    lt-leb _ _ c.if-text-ge-BUILT_IN_LEN.false ∙ sym (same_length (take 73 t) built_in (λ e. omega (arith, c.if-text-ge-BUILT_IN_LEN.false, rw (take_all 73 t (omega arith)) at e)))

pub slice_bounds-same_all-end : goal.slice_bounds-same_all-end
slice_bounds-same_all-end c = sym (length-take-le _ c.args.text.now (omega arith))

pub returns-then-text-ge-BUILT_IN_LEN : goal.returns-then-text-ge-BUILT_IN_LEN
unfolding built_in bytes bytes_from
returns-then-text-ge-BUILT_IN_LEN c = c.same_all.ensures
