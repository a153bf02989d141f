-- `lines::page` meets its contract: the numbers of the batch are those of the answers, and `put_lines` writes their lines.
use Prim.Native.Nat.{◌*◌}
use mathlib.Core.Path.{sym, ap, ◌∙◌}
use native.Mathlib.Omega.{arith}
use lib.ListN.{length}
use lib.Seq.{length-take-le}
use Rattle.tag_step.specs.Next.{stands_at}
use Rattle.tag_batch.specs.Batch.{Batched}
use Rattle.lines.specs.Page.{answers_count}
use Rattle.lines.proofs.Batches.{batch_sizes}
use Rattle.lines.proofs.Pages.{page_is}
use Rattle.lines.proofs.page.Goals as goal

pub overflow_mul-to : goal.overflow_mul-to
overflow_mul-to c =
    let a = c.args in
    let st = stands_at a.at a.starts.now a.ends.now a.hashes.now in
    let b = c.read_batch-left.ensures in
    let n = c.answers-to.ensures ∙ ap (λ (x : Batched). answers_count x.batch) b in
    omega (arith, (batch_sizes a.tag.now st a.numbers.now).1)

pub slice_bounds-put_lines-end : goal.slice_bounds-put_lines-end
slice_bounds-put_lines-end c =
    let a = c.args in
    let st = stands_at a.at a.starts.now a.ends.now a.hashes.now in
    let b = c.read_batch-left.ensures in
    let n = c.answers-to.ensures ∙ ap (λ (x : Batched). answers_count x.batch) b in
    let size = ap (λ (x : Batched). length x.out) b ∙ (batch_sizes a.tag.now st a.numbers.now).0 in
    omega (arith, (batch_sizes a.tag.now st a.numbers.now).1)

pub slice_bounds-put_lines-end-2 : goal.slice_bounds-put_lines-end-2
slice_bounds-put_lines-end-2 c =
    let a = c.args in
    let st = stands_at a.at a.starts.now a.ends.now a.hashes.now in
    let b = c.read_batch-left.ensures in
    let n = c.answers-to.ensures ∙ ap (λ (x : Batched). answers_count x.batch) b in
    let size = ap (λ (x : Batched). length x.out) b ∙ (batch_sizes a.tag.now st a.numbers.now).0 in
    sym (length-take-le (5 * c.answers-to.result) _ (omega (arith, (batch_sizes a.tag.now st a.numbers.now).1)))

pub returns : goal.returns
returns c =
    let a = c.args in
    let st = stands_at a.at a.starts.now a.ends.now a.hashes.now in
    page_is a.tag.now st a.numbers.now a.out.now _ _ _ _ _ _ _ _ c.read_batch-left.ensures c.answers-to.ensures c.put_lines-length.ensures.0 c.put_lines-length.ensures.1
