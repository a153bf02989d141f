-- `tag_takes::take_ready` meets its contract: the whole is what is written so far and what is ready of the rest.
use mathlib.Core.Path.{◌≡◌}
use Rattle.tag_keys.specs.Sieve.{SieveOf}
use Rattle.tag_step.specs.Next.{lent_state}
use Rattle.tag_batch.specs.declared.Why.TheVariants.{OutFull}
use Rattle.tag_batch.proofs.Turns.{TurnOf}
use Rattle.tag_takes.proofs.Ready.{readies}
use Rattle.tag_takes.proofs.take_ready.Given as goal

abbrev pub invariant-loop-n : goal.invariant-loop-n
invariant-loop-n l = (l.left.answers ≡ l.n)
    × (l.left.why ≡ OutFull)
    × TurnOf l.tag (readies l.finished l.tag) (lent_state l.at.place l.at.html l.at.checks l.initial.starts l.initial.ends l.initial.hashes l.at.count) l.initial.out l.n (lent_state l.left.place l.at.html l.at.checks l.starts l.ends l.hashes l.left.count) l.out
    × SieveOf l.at.checks l.sieve l.hashes l.left.count
