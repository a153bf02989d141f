-- `attrs::Output::show_on` meets its contract: each turn writes the lines of the next answers, where the last turn stopped. The
-- measure is how many answers can be left.
use Prim.Native.Nat.{◌≤◌}
use Rattle.attrs.specs.Output.{output_of}
use mathlib.Core.Path.{refl, sym, ◌∙◌}
use native.Mathlib.Omega.{arith}
use lib.ListN.{length}
use lib.Seq.{length-take-le}
use Rattle.attrs.proofs.Showing.{showing_none, written_within, turn_fits, turn_next, turn_never, turn_last, turn_adds, turn_less, turn_more}
use Rattle.attrs.proofs.Written.{on_refusal}
use Rattle.attrs.proofs.Output.show_on.Goals as goal

pub loop-left-init : goal.loop-left-init
loop-left-init g c = (showing_none c.args.self.now.tag.now c.args.memory.now.starts c.args.memory.now.ends c.args.memory.now.hashes c.args.memory.now.numbers c.args.memory.now.text c.args.self.now.written c.requires, refl, refl, refl, refl, refl, refl)

pub shared_ref_as_front-write_next : goal.shared_ref_as_front-write_next
shared_ref_as_front-write_next g c = omega (arith, turn_fits c.args.self.now.tag.now c.loop-left.place c.loop-left.memory.starts c.loop-left.memory.ends c.loop-left.memory.hashes c.loop-left.recorded c.loop-left.memory.numbers c.loop-left.memory.text c.loop-left.self.written c.loop-left.shown c.loop-left.invariant.0 c.page-page.ensures)

pub slice_bounds-write_next-end : goal.slice_bounds-write_next-end
slice_bounds-write_next-end g c = sym (length-take-le _ _ (turn_fits c.args.self.now.tag.now c.loop-left.place c.loop-left.memory.starts c.loop-left.memory.ends c.loop-left.memory.hashes c.loop-left.recorded c.loop-left.memory.numbers c.loop-left.memory.text c.loop-left.self.written c.loop-left.shown c.loop-left.invariant.0 c.page-page.ensures))

pub write_next-requires : goal.write_next-requires
write_next-requires g c = rw c.loop-left.invariant.6 (turn_next c.args.self.now.tag.now c.loop-left.place c.loop-left.memory.starts c.loop-left.memory.ends c.loop-left.memory.hashes c.loop-left.recorded c.loop-left.memory.numbers c.loop-left.memory.text c.loop-left.self.written c.loop-left.shown c.loop-left.invariant.0 c.page-page.ensures)

pub returns-in_default : goal.returns-in_default
returns-in_default g c = absurd (turn_never c.args.self.now.tag.now c.loop-left.place c.loop-left.memory.starts c.loop-left.memory.ends c.loop-left.memory.hashes c.loop-left.recorded c.loop-left.memory.numbers c.loop-left.memory.text c.loop-left.self.written c.loop-left.shown c.loop-left.invariant.0 c.page-page.ensures c.in_ok-write_next.ensures.ok c.in_default.is)

pub returns-then-n-lt-ANSWERS-clause-ok : goal.returns-then-n-lt-ANSWERS-clause-ok
returns-then-n-lt-ANSWERS-clause-ok g c = turn_last c.args.self.now.tag.now c.loop-left.place c.loop-left.memory.starts c.loop-left.memory.ends c.loop-left.memory.hashes c.loop-left.recorded c.loop-left.memory.numbers c.loop-left.memory.text c.loop-left.self.written c.loop-left.shown c.loop-left.invariant.0 c.page-page.ensures c.in_ok-write_next.ensures.ok c.in-Ok.is c.if-n-lt-ANSWERS.true

pub overflow_add-shown : goal.overflow_add-shown
overflow_add-shown g c = omega (arith, turn_adds c.args.self.now.tag.now c.loop-left.place c.loop-left.memory.starts c.loop-left.memory.ends c.loop-left.memory.hashes c.loop-left.recorded c.loop-left.memory.numbers c.loop-left.memory.text c.loop-left.self.written c.loop-left.shown c.loop-left.invariant.0 c.page-page.ensures c.in_ok-write_next.ensures.ok c.in-Ok.is)

pub loop-left-smaller : goal.loop-left-smaller
loop-left-smaller g c = turn_less c.args.self.now.tag.now c.loop-left.place c.loop-left.memory.starts c.loop-left.memory.ends c.loop-left.memory.hashes c.loop-left.recorded c.loop-left.memory.numbers c.loop-left.memory.text c.loop-left.self.written c.loop-left.shown c.loop-left.invariant.0 c.page-page.ensures c.in_ok-write_next.ensures.ok c.in-Ok.is c.if-n-lt-ANSWERS.false

pub loop-left-preserved : goal.loop-left-preserved
loop-left-preserved g c = (turn_more c.args.self.now.tag.now c.loop-left.place c.loop-left.memory.starts c.loop-left.memory.ends c.loop-left.memory.hashes c.loop-left.recorded c.loop-left.memory.numbers c.loop-left.memory.text c.loop-left.self.written c.loop-left.shown c.loop-left.invariant.0 c.page-page.ensures c.in_ok-write_next.ensures.ok c.in-Ok.is c.if-n-lt-ANSWERS.false (omega arith), omega arith, omega arith, omega arith, omega arith, omega arith, c.in_ok-write_next.ensures.tag ∙ c.loop-left.invariant.6)

pub returns-in_err-write_next-clause-err : goal.returns-in_err-write_next-clause-err
returns-in_err-write_next-clause-err g c =
    on_refusal {P = c.write_next.new.self.written ≤ length (output_of c.args.self.now.tag.now)} c.from_residual.result (rw c.in_err-write_next.ensures.err (written_within c.args.self.now.tag.now c.loop-left.place c.loop-left.memory.starts c.loop-left.memory.ends c.loop-left.memory.hashes c.loop-left.recorded c.loop-left.memory.numbers c.loop-left.memory.text c.loop-left.self.written c.loop-left.shown c.loop-left.invariant.0))
