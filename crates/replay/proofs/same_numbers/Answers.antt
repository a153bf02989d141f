-- `replay::same_numbers` meets its contract: what is left of both decides. The measure is what is left.
use mathlib.Core.Path.{refl, sym, ◌∙◌}
use native.Mathlib.Omega.{arith}
use lib.ListN.{length}
use Rattle.scan.proofs.Bytes.{same_on, same_off, same_end}
use Rattle.replay.specs.Numbers.{twos_of}
use Rattle.replay.proofs.Twos.{twos_length, twos_at}
use Rattle.replay.proofs.same_numbers.Goals as goal

pub loop-i-init : goal.loop-i-init
loop-i-init c = (omega arith, refl)

pub returns-then-n-number_at : goal.returns-then-n-number_at
returns-then-n-number_at c =
    let ns = c.args.numbers.now in
    let ts = twos_of (length ns) c.args.recorded.now in
    let size = twos_length (length ns) c.args.recorded.now in
    let here = twos_at (length ns) c.args.recorded.now c.loop-i.i (omega arith) in
    sym (c.loop-i.invariant.1 ∙ same_off ns ts c.loop-i.i (omega arith) (omega arith) (λ e. c.if-n-number_at.true (e ∙ here ∙ sym c.number_at.ensures)))

pub loop-i-preserved : goal.loop-i-preserved
loop-i-preserved c =
    let ns = c.args.numbers.now in
    let ts = twos_of (length ns) c.args.recorded.now in
    let size = twos_length (length ns) c.args.recorded.now in
    let here = twos_at (length ns) c.args.recorded.now c.loop-i.i (omega arith) in
    (omega arith, c.loop-i.invariant.1 ∙ same_on ns ts c.loop-i.i (omega arith) (omega arith) (c.if-n-number_at.false ∙ c.number_at.ensures ∙ sym here))

pub returns : goal.returns
returns c =
    let ns = c.args.numbers.now in
    let ts = twos_of (length ns) c.args.recorded.now in
    let size = twos_length (length ns) c.args.recorded.now in
    sym (c.loop-i.invariant.1 ∙ same_end ns ts c.loop-i.i (omega arith) (omega arith))
