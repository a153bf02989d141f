-- `tag_batch::read_good` meets its contract: the whole batch is what is written so far and the batch of what is left.
use mathlib.Core.Path.{◌≡◌}
use Rattle.tag_keys.specs.Sieve.{SieveOf}
use Rattle.tag_step.specs.Next.{lent_state}
use Rattle.tag_batch.specs.declared.Why.TheVariants.{OutFull}
use Rattle.tag_batch.proofs.Turns.{TurnOf, runs}
use Rattle.tag_batch.proofs.read_good.Given as goal

abbrev pub invariant-loop-n : goal.invariant-loop-n
invariant-loop-n l = (l.left.answers ≡ l.n)
    × (l.left.why ≡ OutFull)
    × TurnOf l.tag (runs l.tag) (lent_state l.at.place l.at.html l.at.checks l.initial.starts l.initial.ends l.initial.hashes l.at.count) l.initial.out l.n (lent_state l.left.place l.at.html l.at.checks l.starts l.ends l.hashes l.left.count) l.out
    × SieveOf l.at.checks l.sieve l.hashes l.left.count
