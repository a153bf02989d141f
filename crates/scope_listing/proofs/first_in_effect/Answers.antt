-- `scope_listing::first_in_effect` meets its contract: the answer from `from` is the answer from i.
use mathlib.Core.Path.{sym, ◌∙◌}
use Rattle.scope_listing.proofs.Laws.{found_hit, found_miss, found_past}
use Rattle.scope_listing.proofs.first_in_effect.Goals as goal

pub in_effect-requires : goal.in_effect-requires
in_effect-requires c = (c.loop-i-test.true, c.requires)

pub returns-then-in_effect : goal.returns-then-in_effect
returns-then-in_effect c = sym (c.loop-i.invariant ∙ found_hit _ _ _ c.loop-i-test.true (sym c.in_effect.ensures ∙ c.if-in_effect.true))

pub loop-i-preserved : goal.loop-i-preserved
loop-i-preserved c = c.loop-i.invariant ∙ found_miss _ _ _ c.loop-i-test.true (sym c.in_effect.ensures ∙ c.if-in_effect.false)

pub returns : goal.returns
returns c = sym (c.loop-i.invariant ∙ found_past _ _ _ c.loop-i-test.false)
