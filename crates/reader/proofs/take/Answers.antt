-- `reader::take` meets its contract: 7, then more, then an answer.
use mathlib.Core.Path.{sym, ap, ◌∙◌}
use lib.Seq.{length-take-le}
use Rattle.reader.specs.Numbers.{numbered_take}
use Rattle.reader.proofs.Ways.{take_bad, good_held, good_keys, take_more, take_answers}
use Rattle.reader.proofs.take.Goals as goal

pub returns-then-not-good_in : goal.returns-then-not-good_in
returns-then-not-good_in c = rw c.emptied.ensures (ap numbered_take (take_bad c.args.r (sym c.good_in.ensures ∙ c.if-not-good_in.true)))

pub slice_bounds-waits_for-end : goal.slice_bounds-waits_for-end
slice_bounds-waits_for-end c = sym (length-take-le _ _ (good_held c.args.r (sym c.good_in.ensures ∙ c.if-not-good_in.false)))

pub waits_for-requires : goal.waits_for-requires
waits_for-requires c = good_keys c.args.r (sym c.good_in.ensures ∙ c.if-not-good_in.false)

pub returns-then-waits_for : goal.returns-then-waits_for
returns-then-waits_for c = ap numbered_take (take_more c.args.r (sym c.good_in.ensures ∙ c.if-not-good_in.false) (sym c.waits_for.ensures ∙ c.if-waits_for.true))

pub answered-requires : goal.answered-requires
answered-requires c = good_held c.args.r (sym c.good_in.ensures ∙ c.if-not-good_in.false)

pub returns : goal.returns
returns c = ap numbered_take (c.answered.ensures ∙ take_answers c.args.r (sym c.good_in.ensures ∙ c.if-not-good_in.false) (sym c.waits_for.ensures ∙ c.if-waits_for.false))
