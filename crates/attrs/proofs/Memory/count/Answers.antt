-- `attrs::Memory::count` meets its contract: the answers counted so far are those of the batches read, and the reader stands
-- behind them. The measure is how many answers can be left.
use Prim.Native.Nat.{◌+◌}
use mathlib.Core.Path.{refl}
use mathlib.Core.Bool.{true, false}
use native.Mathlib.Omega.{arith}
use lib.ListN.{length-append}
use Rattle.tag_step.specs.Run.{run_of}
use Rattle.tag_step.specs.Next.{lent_state}
use Rattle.tag_batch.specs.Batch.{answers_room}
use Rattle.lines.proofs.Batches.{stand_first, stand_next, stand_last, stand_bound, never_wrong, read_count, read_left}
use Rattle.attrs.specs.Count.{attrs_opened}
use Rattle.attrs.proofs.Turn.{room, full, total_fits}
use Rattle.attrs.proofs.Memory.count.Goals as goal

pub loop-read-init : goal.loop-read-init
unfolding attrs_opened
loop-read-init c = (refl, stand_first c.args.tag.now (attrs_opened c.args.self.now.starts c.args.self.now.ends c.args.self.now.hashes) (record { starts = c.requires.starts; ends = c.requires.ends; hashes = c.requires.hashes }), refl, refl, refl)

pub returns-in_default : goal.returns-in_default
returns-in_default c =
    let a = c.args in
    let l = c.loop-read in
    let st = lent_state l.place false true l.self.starts l.self.ends l.self.hashes l.recorded in
    let b = c.read_batch-left.ensures in
    absurd (never_wrong a.tag.now l.place false true l.self.starts l.self.ends l.self.hashes l.recorded l.self.numbers l.invariant.1.sized b c.in_default.is)

pub overflow_add-total : goal.overflow_add-total
overflow_add-total c =
    let a = c.args in
    let l = c.loop-read in
    let st = lent_state l.place false true l.self.starts l.self.ends l.self.hashes l.recorded in
    let b = c.read_batch-left.ensures in
    let n = read_count a.tag.now l.place false true l.self.starts l.self.ends l.self.hashes l.recorded l.self.numbers l.invariant.1.sized b c.in-Ok.is in
    omega (arith, total_fits a.tag.now (attrs_opened a.self.now.starts a.self.now.ends a.self.now.hashes) l.total st l.invariant.1 (answers_room l.self.numbers), n)

pub returns-then-n-lt-ANSWERS : goal.returns-then-n-lt-ANSWERS
returns-then-n-lt-ANSWERS c =
    let a = c.args in
    let l = c.loop-read in
    let st = lent_state l.place false true l.self.starts l.self.ends l.self.hashes l.recorded in
    let b = c.read_batch-left.ensures in
    let n = read_count a.tag.now l.place false true l.self.starts l.self.ends l.self.hashes l.recorded l.self.numbers l.invariant.1.sized b c.in-Ok.is in
    let z = stand_last a.tag.now (attrs_opened a.self.now.starts a.self.now.ends a.self.now.hashes) l.total st l.invariant.1 (answers_room l.self.numbers) (omega (arith, room l.self.numbers a.self.now.numbers l.invariant.0 c.requires.room)) in
    rw z (omega (arith, n, length-append (run_of l.total a.tag.now (attrs_opened a.self.now.starts a.self.now.ends a.self.now.hashes)) (run_of (answers_room l.self.numbers) a.tag.now st), l.invariant.1.many))

pub loop-read-smaller : goal.loop-read-smaller
loop-read-smaller c =
    let a = c.args in
    let l = c.loop-read in
    let st = lent_state l.place false true l.self.starts l.self.ends l.self.hashes l.recorded in
    let b = c.read_batch-left.ensures in
    let n = read_count a.tag.now l.place false true l.self.starts l.self.ends l.self.hashes l.recorded l.self.numbers l.invariant.1.sized b c.in-Ok.is in
    let next = stand_next a.tag.now (attrs_opened a.self.now.starts a.self.now.ends a.self.now.hashes) l.total st l.invariant.1 (answers_room l.self.numbers) (full a.tag.now st l.self.numbers a.self.now.numbers l.invariant.0 c.requires.room n c.if-n-lt-ANSWERS.false) in
    omega (arith, n, stand_bound a.tag.now (attrs_opened a.self.now.starts a.self.now.ends a.self.now.hashes) (l.total + answers_room l.self.numbers) _ next 0, room l.self.numbers a.self.now.numbers l.invariant.0 c.requires.room)

pub loop-read-preserved : goal.loop-read-preserved
loop-read-preserved c =
    let a = c.args in
    let l = c.loop-read in
    let st = lent_state l.place false true l.self.starts l.self.ends l.self.hashes l.recorded in
    let b = c.read_batch-left.ensures in
    let n = read_count a.tag.now l.place false true l.self.starts l.self.ends l.self.hashes l.recorded l.self.numbers l.invariant.1.sized b c.in-Ok.is in
    let f = full a.tag.now st l.self.numbers a.self.now.numbers l.invariant.0 c.requires.room n c.if-n-lt-ANSWERS.false in
    let next = stand_next a.tag.now (attrs_opened a.self.now.starts a.self.now.ends a.self.now.hashes) l.total st l.invariant.1 (answers_room l.self.numbers) f in
    let e = read_left a.tag.now l.place false true l.self.starts l.self.ends l.self.hashes l.recorded l.self.numbers l.invariant.1.sized b c.in-Ok.is in
    (omega arith, rw (e, n, f) next, omega arith, omega arith, omega arith)
