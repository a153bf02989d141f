-- `tag_takes::take_in` meets its contract: lengths, room, refusal 7, the phase, and then the answers of a good state.
use mathlib.Core.Path.{◌≡◌, sym, ◌∙◌}
use mathlib.Core.Bool.{true, false}
use Rattle.tag_step.specs.Next.{keys_of, state_good}
use Rattle.tag_step.proofs.Whole.{good_inside}
use Rattle.tag_batch.specs.Batch.{tables_lent}
use Rattle.tag_batch.proofs.Ends.{tables_fit}
use Rattle.tag_pieces.specs.Reader.{held_of, iterator_of, emptied, reader_good}
use Rattle.tag_takes.specs.Takes.{lent_reader, cursor_after, emptied_at}
use Rattle.tag_takes.proofs.Lift.{Ready}
use Rattle.tag_takes.proofs.Ends.{long_text, long_tables, take_none, take_bad, take_more, take_good, bad_held, bad_iterator}
use Rattle.tag_takes.proofs.take_in.Goals as goal
use Rattle.tag_takes.proofs.take_in.Goals.{then-text-gt-HOLD-via-then-text-gt-HOLD, then-text-gt-HOLD-via-else-text-gt-HOLD+then-not-tables_lent, then-held-text-via-then-held-text, then-held-text-via-else-held-text+then-not-good_in}

pub returns-then-text-gt-HOLD : goal.returns-then-text-gt-HOLD
unfolding tables_lent
returns-then-text-gt-HOLD c =
    let a = c.args in
    let r = lent_reader a.at a.text.now a.starts.now a.ends.now a.hashes.now in
    elim c.then-text-gt-HOLD.branch [
      | then-text-gt-HOLD-via-then-text-gt-HOLD w ↦ long_text r a.out.now w.if-text-gt-HOLD.true
      | then-text-gt-HOLD-via-else-text-gt-HOLD+then-not-tables_lent w ↦ long_tables r a.out.now w.if-text-gt-HOLD.false (sym w.tables_lent.ensures ∙ w.if-not-tables_lent.true)
    ]

pub returns-then-out-lt5 : goal.returns-then-out-lt5
unfolding tables_lent
returns-then-out-lt5 c =
    let a = c.args in
    take_none (lent_reader a.at a.text.now a.starts.now a.ends.now a.hashes.now) a.out.now c.if-text-gt-HOLD.false (sym c.tables_lent.ensures ∙ c.if-not-tables_lent.false) c.if-out-lt5.true

pub returns-then-held-text : goal.returns-then-held-text
unfolding tables_lent emptied emptied_at state_good held_of
returns-then-held-text c =
    let a = c.args in
    let r = lent_reader a.at a.text.now a.starts.now a.ends.now a.hashes.now in
    let bad : reader_good r ≡ false =
    elim c.then-held-text.branch [
      | then-held-text-via-then-held-text w ↦ bad_held r w.if-held-text.true
      | then-held-text-via-else-held-text+then-not-good_in w ↦ bad_iterator r w.if-held-text.false (sym w.good_in.ensures ∙ w.if-not-good_in.true)
    ] in
    rw (c.empty.ensures.0, c.empty.ensures.1, c.empty.ensures.2, c.empty.ensures.3, c.empty.ensures.4) (take_bad r a.out.now c.if-text-gt-HOLD.false (sym c.tables_lent.ensures ∙ c.if-not-tables_lent.false) c.if-out-lt5.false bad)

pub phase_waits-requires : goal.phase_waits-requires
phase_waits-requires c = good_inside _ _ _ (sym c.good_in.ensures ∙ c.if-not-good_in.false)

pub returns-then-phase_waits : goal.returns-then-phase_waits
unfolding tables_lent state_good held_of keys_of
returns-then-phase_waits c =
    let a = c.args in
    let r = lent_reader a.at a.text.now a.starts.now a.ends.now a.hashes.now in
    let fit : tables_lent (iterator_of r) ≡ true = sym c.tables_lent.ensures ∙ c.if-not-tables_lent.false in
    let f = tables_fit a.text.now (iterator_of r) a.out.now fit in
    let g : Ready r = record { fits = c.if-held-text.false; ripe = record { good = sym c.good_in.ensures ∙ c.if-not-good_in.false; starts = f.0; ends = f.1; hashes = f.2 } } in
    take_more r a.out.now c.if-text-gt-HOLD.false fit c.if-out-lt5.false g (sym c.phase_waits.ensures ∙ c.if-phase_waits.true)

pub take_good-read-requires : goal.take_good-read-requires
unfolding tables_lent state_good
take_good-read-requires c =
    let a = c.args in
    let r = lent_reader a.at a.text.now a.starts.now a.ends.now a.hashes.now in
    let fit : tables_lent (iterator_of r) ≡ true = sym c.tables_lent.ensures ∙ c.if-not-tables_lent.false in
    let f = tables_fit a.text.now (iterator_of r) a.out.now fit in
    record { good = sym c.good_in.ensures ∙ c.if-not-good_in.false; starts = f.0; ends = f.1; hashes = f.2 }

pub returns : goal.returns
unfolding tables_lent state_good held_of keys_of cursor_after
returns c =
    let a = c.args in
    let r = lent_reader a.at a.text.now a.starts.now a.ends.now a.hashes.now in
    let fit : tables_lent (iterator_of r) ≡ true = sym c.tables_lent.ensures ∙ c.if-not-tables_lent.false in
    let f = tables_fit a.text.now (iterator_of r) a.out.now fit in
    let g : Ready r = record { fits = c.if-held-text.false; ripe = record { good = sym c.good_in.ensures ∙ c.if-not-good_in.false; starts = f.0; ends = f.1; hashes = f.2 } } in
    rw c.after.ensures (take_good r a.out.now c.if-text-gt-HOLD.false fit c.take_good-read.result _ _ _ _ g (sym c.phase_waits.ensures ∙ c.if-phase_waits.false) c.take_good-read.ensures)
