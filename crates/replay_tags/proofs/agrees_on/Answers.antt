-- `replay_tags::agrees_on` meets its contract: what is left of the run and of the record decides. The measure is how many
-- recorded answers are left.
use Prim.Native.Nat.{◌-◌, ◌*◌}
use mathlib.Core.Path.{◌≡◌, refl, sym, ◌∙◌}
use native.Mathlib.Omega.{arith}
use lib.ListN.{drop}
use lib.Seq.{length-take-le}
use Rattle.tag_step.specs.Next.{lent_state}
use Rattle.tag_batch.specs.Batch.{left_of, answers_room}
use Rattle.lines.proofs.Batches.{never_wrong, read_count, read_left, read_text, left_sized}
use Rattle.replay_tags.specs.Replay.{replay_opened}
use Rattle.replay_tags.proofs.Turns.{too_many, differs, last_is, goes_on, compared, few, filled, room_some, count_same, rest_on, in_room, enough}
use Rattle.replay_tags.proofs.agrees_on.Goals as goal

pub loop-read-init : goal.loop-read-init
loop-read-init c =
    let a = c.args in
    let p = c.requires in
    let e : a.answers - 0 ≡ a.answers = omega arith in
    (omega arith, record { starts = p.starts; ends = p.ends; hashes = p.hashes }, rw e, refl, refl, refl, refl)

pub shape_of-starts-in_default : goal.shape_of-starts-in_default
shape_of-starts-in_default c =
    let a = c.args in
    let l = c.loop-read in
    let b = c.read_batch-left.ensures in
    absurd (never_wrong a.tag.now l.place a.mode.html a.mode.checks l.starts l.ends l.hashes l.keys l.out l.invariant.1 b c.in_default.is)

pub shape_of-ends-in_default : goal.shape_of-ends-in_default
shape_of-ends-in_default c =
    let a = c.args in
    let l = c.loop-read in
    let b = c.read_batch-left.ensures in
    absurd (never_wrong a.tag.now l.place a.mode.html a.mode.checks l.starts l.ends l.hashes l.keys l.out l.invariant.1 b c.in_default.is)

pub shape_of-hashes-in_default : goal.shape_of-hashes-in_default
shape_of-hashes-in_default c =
    let a = c.args in
    let l = c.loop-read in
    let b = c.read_batch-left.ensures in
    absurd (never_wrong a.tag.now l.place a.mode.html a.mode.checks l.starts l.ends l.hashes l.keys l.out l.invariant.1 b c.in_default.is)

pub shape_of-out-in_default : goal.shape_of-out-in_default
shape_of-out-in_default c =
    let a = c.args in
    let l = c.loop-read in
    let b = c.read_batch-left.ensures in
    absurd (never_wrong a.tag.now l.place a.mode.html a.mode.checks l.starts l.ends l.hashes l.keys l.out l.invariant.1 b c.in_default.is)

pub returns-in_default : goal.returns-in_default
returns-in_default c =
    let a = c.args in
    let l = c.loop-read in
    let b = c.read_batch-left.ensures in
    absurd (never_wrong a.tag.now l.place a.mode.html a.mode.checks l.starts l.ends l.hashes l.keys l.out l.invariant.1 b c.in_default.is)

pub returns-then-answers-total : goal.returns-then-answers-total
unfolding replay_opened
returns-then-answers-total c =
    let a = c.args in
    let l = c.loop-read in
    let st = lent_state l.place a.mode.html a.mode.checks l.starts l.ends l.hashes l.keys in
    let b = c.read_batch-left.ensures in
    let n = read_count a.tag.now l.place a.mode.html a.mode.checks l.starts l.ends l.hashes l.keys l.out l.invariant.1 b c.in-Ok.is in
    too_many a.tag.now st l.invariant.1 (answers_room l.out) (a.answers - l.total) (drop (10 * l.total) a.recorded.now) (omega arith) ∙ sym l.invariant.2

pub slice_bounds-same_numbers-end : goal.slice_bounds-same_numbers-end
slice_bounds-same_numbers-end c =
    let a = c.args in
    let l = c.loop-read in
    let st = lent_state l.place a.mode.html a.mode.checks l.starts l.ends l.hashes l.keys in
    let b = c.read_batch-left.ensures in
    let n = read_count a.tag.now l.place a.mode.html a.mode.checks l.starts l.ends l.hashes l.keys l.out l.invariant.1 b c.in-Ok.is in
    in_room a.tag.now st l.out _ n (read_text a.tag.now l.place a.mode.html a.mode.checks l.starts l.ends l.hashes l.keys l.out l.invariant.1 b)

pub slice_bounds-same_numbers-end-in-loop-read : goal.slice_bounds-same_numbers-end-in-loop-read
slice_bounds-same_numbers-end-in-loop-read c =
    let a = c.args in
    let l = c.loop-read in
    let st = lent_state l.place a.mode.html a.mode.checks l.starts l.ends l.hashes l.keys in
    let b = c.read_batch-left.ensures in
    let n = read_count a.tag.now l.place a.mode.html a.mode.checks l.starts l.ends l.hashes l.keys l.out l.invariant.1 b c.in-Ok.is in
    sym (length-take-le _ _ (in_room a.tag.now st l.out _ n (read_text a.tag.now l.place a.mode.html a.mode.checks l.starts l.ends l.hashes l.keys l.out l.invariant.1 b)))

pub same_numbers-requires : goal.same_numbers-requires
same_numbers-requires c =
    let a = c.args in
    let l = c.loop-read in
    enough a.recorded.now _ l.total c.in-Ok.read.answers a.answers c.if-answers-total.false l.invariant.0 c.requires.whole

pub returns-then-not-same_numbers : goal.returns-then-not-same_numbers
unfolding replay_opened
returns-then-not-same_numbers c =
    let a = c.args in
    let l = c.loop-read in
    let st = lent_state l.place a.mode.html a.mode.checks l.starts l.ends l.hashes l.keys in
    let b = c.read_batch-left.ensures in
    let n = read_count a.tag.now l.place a.mode.html a.mode.checks l.starts l.ends l.hashes l.keys l.out l.invariant.1 b c.in-Ok.is in
    let same = compared a.tag.now st l.out a.recorded.now (10 * l.total) n (read_text a.tag.now l.place a.mode.html a.mode.checks l.starts l.ends l.hashes l.keys l.out l.invariant.1 b) c.same_numbers.ensures in
    differs a.tag.now st l.invariant.1 (answers_room l.out) (a.answers - l.total) (drop (10 * l.total) a.recorded.now) (omega arith) (same ∙ c.if-not-same_numbers.true) ∙ sym l.invariant.2

pub returns-then-n-out : goal.returns-then-n-out
unfolding replay_opened
returns-then-n-out c =
    let a = c.args in
    let l = c.loop-read in
    let st = lent_state l.place a.mode.html a.mode.checks l.starts l.ends l.hashes l.keys in
    let b = c.read_batch-left.ensures in
    let n = read_count a.tag.now l.place a.mode.html a.mode.checks l.starts l.ends l.hashes l.keys l.out l.invariant.1 b c.in-Ok.is in
    let same = compared a.tag.now st l.out a.recorded.now (10 * l.total) n (read_text a.tag.now l.place a.mode.html a.mode.checks l.starts l.ends l.hashes l.keys l.out l.invariant.1 b) c.same_numbers.ensures in
    count_same _ _ _ n l.invariant.0 ∙ last_is a.tag.now st l.invariant.1 (answers_room l.out) (a.answers - l.total) (drop (10 * l.total) a.recorded.now) (omega arith) (same ∙ c.if-not-same_numbers.false) (few a.tag.now st l.out _ n (read_text a.tag.now l.place a.mode.html a.mode.checks l.starts l.ends l.hashes l.keys l.out l.invariant.1 b) c.if-n-out.true) ∙ sym l.invariant.2

pub loop-read-smaller : goal.loop-read-smaller
loop-read-smaller c =
    let a = c.args in
    let l = c.loop-read in
    let st = lent_state l.place a.mode.html a.mode.checks l.starts l.ends l.hashes l.keys in
    let b = c.read_batch-left.ensures in
    let n = read_count a.tag.now l.place a.mode.html a.mode.checks l.starts l.ends l.hashes l.keys l.out l.invariant.1 b c.in-Ok.is in
    omega (arith, filled a.tag.now st l.out _ n (read_text a.tag.now l.place a.mode.html a.mode.checks l.starts l.ends l.hashes l.keys l.out l.invariant.1 b) c.if-n-out.false, room_some l.out a.out.now l.invariant.3 c.requires.room)

pub loop-read-preserved : goal.loop-read-preserved
loop-read-preserved c =
    let a = c.args in
    let l = c.loop-read in
    let st = lent_state l.place a.mode.html a.mode.checks l.starts l.ends l.hashes l.keys in
    let b = c.read_batch-left.ensures in
    let n = read_count a.tag.now l.place a.mode.html a.mode.checks l.starts l.ends l.hashes l.keys l.out l.invariant.1 b c.in-Ok.is in
    let same = compared a.tag.now st l.out a.recorded.now (10 * l.total) n (read_text a.tag.now l.place a.mode.html a.mode.checks l.starts l.ends l.hashes l.keys l.out l.invariant.1 b) c.same_numbers.ensures in
    let f = filled a.tag.now st l.out _ n (read_text a.tag.now l.place a.mode.html a.mode.checks l.starts l.ends l.hashes l.keys l.out l.invariant.1 b) c.if-n-out.false in
    let e = read_left a.tag.now l.place a.mode.html a.mode.checks l.starts l.ends l.hashes l.keys l.out l.invariant.1 b c.in-Ok.is in
    let on = goes_on a.tag.now st l.invariant.1 (answers_room l.out) (a.answers - l.total) (drop (10 * l.total) a.recorded.now) (omega arith) (same ∙ c.if-not-same_numbers.false) f in
    (omega arith, rw e (left_sized (answers_room l.out) a.tag.now st l.invariant.1), l.invariant.2 ∙ on ∙ rw (e, ← n) (rest_on a.tag.now (left_of (answers_room l.out) a.tag.now st) a.answers l.total _ a.recorded.now), omega arith, omega arith, omega arith, omega arith)
