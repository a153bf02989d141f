-- `lines::put_numbers` meets its contract: each turn writes a blank and a number, and the rest is left to write.
use Prim.Native.Nat.{◌+◌}
use mathlib.Core.Path.{◌≡◌}
use mathlib.Core.List.{◌++◌}
use native.Mathlib.Omega.{arith}
use lib.ListN.{length, drop, get_or, set, length-set}
use Rattle.lines.specs.Lines.{decimal_of, spaced}
use Rattle.lines.proofs.Parts.{part_first, part_byte, part_next, part_last}
use Rattle.lines.proofs.Text.{decimal_length, spaced_next, spaced_end}
use Rattle.lines.proofs.put_numbers.Goals as goal

pub loop-n-init : goal.loop-n-init
loop-n-init c = (omega arith, part_first c.args.out.now c.args.at (spaced c.args.numbers.now))

pub put_number-end-requires : goal.put_number-end-requires
put_number-end-requires c = simp length-set (omega arith)

pub loop-n-preserved : goal.loop-n-preserved
loop-n-preserved c =
    let l = c.loop-n in
    let ns = c.args.numbers.now in
    let n = get_or ns l.n-index 0 in
    let rest = spaced (drop (l.n-index + 1) ns) in
    let small = decimal_length n in
    let size = length-set l.out l.end 32 in
    let p = part_byte l.out l.end 32 (decimal_of n ++ rest) (omega arith) (rw (spaced_next ns l.n-index c.loop-n-test.true) at l.invariant.1) in
    let q = part_next (set l.out l.end 32) (l.end + 1) (decimal_of n) rest (omega arith) p in
    (omega (arith, q.size, c.put_number-end.ensures.0), rw (c.put_number-end.ensures.0, c.put_number-end.ensures.1) q)

pub returns : goal.returns
returns c =
    let l = c.loop-n in
    let e : l.n-index ≡ length c.args.numbers.now = omega arith in
    part_last l.out l.end (rw (spaced_end c.args.numbers.now l.n-index e) at l.invariant.1)
