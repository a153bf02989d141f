-- `mz_take` meets its contract: a wrong length, no room, and what is left after answers.
use Rattle.export_pieces.proofs.Laws.{take_wrong, take_no_room, take_leaves}
use Rattle.export_pieces.proofs.mz_take.Goals as goal

pub returns-in_default : goal.returns-in_default
returns-in_default c =
    let a = c.args in
    take_wrong a.text.now a.starts.now a.ends.now a.hashes.now a.reader.now a.out.now a.html a.checks _ c.cursor_in-at.ensures _ _ _ _ _ c.take_in-took.ensures c.in_default.is

pub returns-then-room-lt5 : goal.returns-then-room-lt5
returns-then-room-lt5 c =
    let a = c.args in
    take_no_room a.text.now a.starts.now a.ends.now a.hashes.now a.reader.now a.out.now a.html a.checks _ c.cursor_in-at.ensures _ _ _ _ _ c.take_in-took.ensures _ c.in-Ok.is c.if-room-lt5.true

pub returns : goal.returns
returns c =
    let a = c.args in
    take_leaves a.text.now a.starts.now a.ends.now a.hashes.now a.reader.now a.out.now a.html a.checks _ c.cursor_in-at.ensures _ _ _ _ _ c.take_in-took.ensures _ c.in-Ok.is c.if-room-lt5.false _ c.settle.ensures
