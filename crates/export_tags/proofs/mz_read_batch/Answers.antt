-- `export_tags::mz_read_batch` meets its contract: each way of coming back has its law (proofs/Batches).
use Rattle.export_tags.proofs.Batches.{tables_refused, room_none, read_leaves, settled}
use Rattle.export_tags.proofs.mz_read_batch.Goals as goal

pub returns-in_default : goal.returns-in_default
returns-in_default c =
    let a = c.args in
    tables_refused a.tag.now a.starts.now a.ends.now a.hashes.now a.state.now a.out.now a.html a.checks c.place_from-place.result c.place_from-place.ensures c.read_batch-batch.result _ _ _ _ c.read_batch-batch.ensures c.in_default.is

pub returns-then-room-lt5 : goal.returns-then-room-lt5
returns-then-room-lt5 c =
    let a = c.args in
    room_none a.tag.now a.starts.now a.ends.now a.hashes.now a.state.now a.out.now a.html a.checks c.place_from-place.result c.place_from-place.ensures c.read_batch-batch.result _ _ _ _ c.read_batch-batch.ensures _ c.in-Ok.is c.if-room-lt5.true

pub returns : goal.returns
returns c =
    let a = c.args in
    read_leaves a.tag.now a.starts.now a.ends.now a.hashes.now a.state.now a.out.now a.html a.checks c.place_from-place.result c.place_from-place.ensures c.read_batch-batch.result _ _ _ _ c.read_batch-batch.ensures _ c.in-Ok.is c.if-room-lt5.false _ (settled _ _ c.settle.ensures c.number.ensures)
