-- `tag_pieces::piece_in` meets its contract: what is accepted fits behind what is held.
use mathlib.Core.Path.{sym, ap, ◌∙◌}
use native.Mathlib.Omega.{arith}
use lib.ListN.{length}
use lib.Seq.{length-take-le}
use Rattle.scan.proofs.Lists.{length_over}
use Rattle.tag_pieces.proofs.Feeds.{feed_fits, feed_none, feed_more}
use Rattle.tag_pieces.proofs.piece_in.Goals as goal

pub returns-then-not-accepted : goal.returns-then-not-accepted
returns-then-not-accepted c = feed_none _ _ _ c.args.at.place _ c.args.piece.now _ c.fed_by-fed.ensures (sym c.accepted.ensures ∙ c.if-not-accepted.true)

pub overflow_add-to : goal.overflow_add-to
overflow_add-to c =
    let a = c.args in
    let f = feed_fits a.text.now a.at.held a.at.finished a.at.place a.at.phase a.piece.now _ c.fed_by-fed.ensures (sym c.accepted.ensures ∙ c.if-not-accepted.false) in
    omega (arith, f.held_in)

pub put-requires : goal.put-requires
put-requires c =
    let a = c.args in
    let f = feed_fits a.text.now a.at.held a.at.finished a.at.place a.at.phase a.piece.now _ c.fed_by-fed.ensures (sym c.accepted.ensures ∙ c.if-not-accepted.false) in
    f.room_in

pub slice_bounds-carry-end : goal.slice_bounds-carry-end
slice_bounds-carry-end c =
    let a = c.args in
    let f = feed_fits a.text.now a.at.held a.at.finished a.at.place a.at.phase a.piece.now _ c.fed_by-fed.ensures (sym c.accepted.ensures ∙ c.if-not-accepted.false) in
    omega (arith, f.room_in, ap length c.put.ensures, length_over a.text.now a.at.held a.piece.now (omega (arith, f.room_in)))

pub slice_bounds-carry-end-2 : goal.slice_bounds-carry-end-2
slice_bounds-carry-end-2 c =
    let a = c.args in
    let f = feed_fits a.text.now a.at.held a.at.finished a.at.place a.at.phase a.piece.now _ c.fed_by-fed.ensures (sym c.accepted.ensures ∙ c.if-not-accepted.false) in
    sym (length-take-le _ _ (omega (arith, f.room_in, ap length c.put.ensures, length_over a.text.now a.at.held a.piece.now (omega (arith, f.room_in)))))

pub returns : goal.returns
returns c = feed_more _ _ _ _ _ _ _ c.fed_by-fed.ensures (sym c.accepted.ensures ∙ c.if-not-accepted.false) _ c.put.ensures _ c.carry-after.ensures
