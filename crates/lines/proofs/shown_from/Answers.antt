-- `lines::shown_from` meets its contract.
use mathlib.Core.Path.{◌≡◌, refl, ◌∙◌}
use mathlib.Core.Bool.{Bool, true, false}
use lib.Dec.{ltb}
use mir.Val.{bool_byte}
use Rattle.scan.specs.First.{pick}
use Rattle.lines.specs.Lines.{shown_from}
use Rattle.lines.proofs.shown_from.Goals as goal

-- a test as a number
number : (t : Bool) → bool_byte t ≡ pick t 1 0
number true = refl
number false = refl

pub returns : goal.returns
unfolding shown_from
returns c = c.from.ensures ∙ number (ltb 100 c.args.code)
