-- `lines::put_line` meets its contract: a letter, the numbers and a line feed are the line (`line_put`).
use Prim.Native.Nat.{◌+◌, ◌-◌}
use native.Mathlib.Omega.{arith}
use lib.ListN.{get_or, length-set}
use Rattle.lines.proofs.Text.{values_few, from_small, part_few, line_put}
use Rattle.lines.proofs.put_line.Goals as goal

pub overflow_add-to : goal.overflow_add-to
overflow_add-to c = omega (arith, c.values_of-to.ensures, values_few (get_or c.args.five.now 0 0))

pub offset_bounds-five-from : goal.offset_bounds-five-from
offset_bounds-five-from c = omega (arith, c.values_of-to.ensures, c.shown_from-from.ensures, values_few (get_or c.args.five.now 0 0), from_small (get_or c.args.five.now 0 0))

pub slice_bounds-put_numbers-count : goal.slice_bounds-put_numbers-count
slice_bounds-put_numbers-count c = omega (arith, c.values_of-to.ensures, c.shown_from-from.ensures, values_few (get_or c.args.five.now 0 0), from_small (get_or c.args.five.now 0 0))

pub put_numbers-end-requires : goal.put_numbers-end-requires
put_numbers-end-requires c = simp length-set (omega (arith, part_few (1 + c.values_of-to.result - c.shown_from-from.result) c.shown_from-from.result c.args.five.now c.requires.0))

pub bounds-out-end : goal.bounds-out-end
bounds-out-end c = (line_put c.args.five.now c.args.out.now c.args.at c.requires.0 c.requires.1 c.letter_of.ensures c.shown_from-from.ensures c.values_of-to.ensures c.put_numbers-end.ensures.0 c.put_numbers-end.ensures.1).inside

pub overflow_add-result : goal.overflow_add-result
overflow_add-result c =
    let p = line_put c.args.five.now c.args.out.now c.args.at c.requires.0 c.requires.1 c.letter_of.ensures c.shown_from-from.ensures c.values_of-to.ensures c.put_numbers-end.ensures.0 c.put_numbers-end.ensures.1 in
    omega (arith, p.inside, p.size)

pub shape_of-out : goal.shape_of-out
shape_of-out c =
    let p = line_put c.args.five.now c.args.out.now c.args.at c.requires.0 c.requires.1 c.letter_of.ensures c.shown_from-from.ensures c.values_of-to.ensures c.put_numbers-end.ensures.0 c.put_numbers-end.ensures.1 in
    simp length-set p.size

pub returns : goal.returns
returns c =
    let p = line_put c.args.five.now c.args.out.now c.args.at c.requires.0 c.requires.1 c.letter_of.ensures c.shown_from-from.ensures c.values_of-to.ensures c.put_numbers-end.ensures.0 c.put_numbers-end.ensures.1 in
    (p.many, p.line)

pub slice_bounds-put_numbers-start : goal.slice_bounds-put_numbers-start
slice_bounds-put_numbers-start c = omega (arith, c.values_of-to.ensures, c.shown_from-from.ensures, values_few (get_or c.args.five.now 0 0), from_small (get_or c.args.five.now 0 0))

pub slice_bounds-put_numbers-end : goal.slice_bounds-put_numbers-end
slice_bounds-put_numbers-end c = omega (arith, c.values_of-to.ensures, c.shown_from-from.ensures, values_few (get_or c.args.five.now 0 0), from_small (get_or c.args.five.now 0 0))
