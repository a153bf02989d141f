-- `export_nil::mz_has_nil` meets its contract: it is the search on lent memory (proofs/Calls).
use Rattle.export_nil.proofs.Calls.{nil_made}
use Rattle.export_nil.proofs.mz_has_nil.Goals as goal

pub returns : goal.returns
returns c =
    let a = c.args in
    nil_made a.text.now a.records.now a.head.now a.tag.now a.key_starts.now a.key_ends.now a.key_hashes.now a.state.now a.html a.checks c.head_from-h.result c.place_from-place.result c.has_nil_in-out.result _ _ _ _ _ c.head_from-h.ensures c.place_from-place.ensures c.has_nil_in-out.ensures c.settle.ensures c.nil_number.ensures
