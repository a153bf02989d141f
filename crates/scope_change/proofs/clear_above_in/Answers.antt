-- `scope_change::clear_above_in` meets its contract: the text of the records that stay ends where the next one starts, and what
-- is cleared is followed by zeros.
use Rattle.scope_table.proofs.Good.{ready}
use Rattle.scope_change.proofs.Change.{keep_two, k_within, level_done}
use Rattle.scope_change.proofs.clear_above_in.Goals as goal

pub kept-k-requires : goal.kept-k-requires
kept-k-requires c =
    let a = c.args in
    let r = ready a.text.now a.records.now a.head c.requires in
    record { n_in_bounds = r.rows_lent; bound = keep_two a.text.now a.records.now a.head r.table a.to }

pub text_end-end-requires : goal.text_end-end-requires
text_end-end-requires c = (ready c.args.text.now c.args.records.now c.args.head c.requires).rows_lent

pub clear_bytes-requires : goal.clear_bytes-requires
clear_bytes-requires c =
    let r = (ready c.args.text.now c.args.records.now c.args.head c.requires) in
    (r.bytes_lent, r.table.rest_text)

pub clear_rows-requires : goal.clear_rows-requires
clear_rows-requires c =
    let a = c.args in
    let r = (ready c.args.text.now c.args.records.now c.args.head c.requires) in
    let k = c.kept-k in
    let e = c.text_end-end in
    (k_within a.text.now a.records.now a.head r a.to k.result e.result k.ensures e.ensures, r.rows_lent, r.table.rest_records)

pub returns : goal.returns
returns c =
    let a = c.args in
    let k = c.kept-k in
    let e = c.text_end-end in
    level_done a.text.now a.records.now a.head (ready c.args.text.now c.args.records.now c.args.head c.requires) a.to k.result e.result k.ensures e.ensures _ _ c.clear_bytes.ensures c.clear_rows.ensures
