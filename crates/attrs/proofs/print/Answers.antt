-- `attrs::print` meets its contract: the count is written first, from nothing on, and then the lines.
use Prim.Native.Nat.{ℕ}
use mathlib.Core.Path.{ap, ◌∙◌}
use lib.ListN.{length}
use Rattle.attrs.specs.Output.{count_line}
use Rattle.attrs.proofs.print.Goals as goal

pub show-requires : goal.show-requires
show-requires g c = rw c.in_ok-show_count.ensures.tag (record { short = c.requires; count = c.in_ok-show_count.ensures.ok ∙ ap (λ (n : ℕ). length (count_line n)) c.count-total.ensures })
