-- `lines::put_lines` meets its contract: each turn writes a line, and the rest is left to write.
use Prim.Native.Nat.{◌+◌, ◌/◌, ◌<◌}
use mathlib.Core.Path.{◌≡◌, refl, sym, ◌∙◌}
use native.Mathlib.Omega.{arith}
use lib.ListN.{length}
use Rattle.scan.proofs.Lists.{over_none}
use Rattle.lines.specs.Lines.{own_of, line_of, five_lines}
use Rattle.lines.proofs.Parts.{part_first, part_next, part_last}
use Rattle.lines.proofs.Text.{line_length, lines_next, lines_none, lines_room, lines_short}
use Rattle.lines.proofs.put_lines.Goals as goal

pub returns-then-out-n : goal.returns-then-out-n
returns-then-out-n c =
    let e = lines_short c.args.numbers.now c.args.out.now c.if-out-n.true in
    rw e (refl, sym (over_none c.args.out.now 0))

pub loop-five-init : goal.loop-five-init
loop-five-init c =
    let ns = c.args.numbers.now in
    let e : c.chunks_exact-five-items.result.rest.now ≡ ns = c.chunks_exact-five-items.ensures.rest in
    let s : c.chunks_exact-five-items.result.size ≡ 5 = c.chunks_exact-five-items.ensures.size in
    rw (c.into_iter-five-iterator.ensures.into_iter_gives, e) (s, omega arith, part_first c.args.out.now 0 (five_lines (length ns / 5) ns))

pub put_line-end-requires : goal.put_line-end-requires
put_line-end-requires c =
    let steps = c.in-Some.ensures.steps.1 in
    let n = lines_next c.loop-five.five-iterator.rest.now c.in-Some.five.now c.next.new.self.rest.now steps.0 (steps.1 ∙ c.loop-five.invariant.0) in
    (steps.1 ∙ c.loop-five.invariant.0, omega (arith, n.0, c.loop-five.invariant.1))

pub loop-five-preserved : goal.loop-five-preserved
loop-five-preserved c =
    let l = c.loop-five in
    let five = c.in-Some.five.now in
    let rest = c.next.new.self.rest.now in
    let steps = c.in-Some.ensures.steps in
    let long : length five ≡ 5 = steps.1.1 ∙ l.invariant.0 in
    let n = lines_next l.five-iterator.rest.now five rest steps.1.0 long in
    let few = line_length five long in
    let p = part_next l.out l.end (line_of (own_of five)) (five_lines (length rest / 5) rest) (omega (arith, n.0, l.invariant.1)) (rw n.1 at l.invariant.2) in
    (steps.0 ∙ l.invariant.0, omega (arith, c.put_line-end.ensures.0, p.size, n.0, l.invariant.1, l.invariant.2.size), rw (c.put_line-end.ensures.0, c.put_line-end.ensures.1) p)

pub returns : goal.returns
returns c =
    let l = c.loop-five in
    let ns = c.args.numbers.now in
    let few : length l.five-iterator.rest.now < 5 = omega (arith, c.in-None.ensures.steps.1.0, l.invariant.0) in
    let e : 0 + length (five_lines (length ns / 5) ns) ≡ length (five_lines (length ns / 5) ns) = omega arith in
    let p = part_last l.out l.end (rw (lines_none l.five-iterator.rest.now few) at l.invariant.2) in
    rw (lines_room ns c.args.out.now c.if-out-n.false) (p.0 ∙ e, p.1)
