-- `scope_nil::search` meets its contract: the search from the start is the search from the iterator as it is now, and the sieve
-- is that of the hashes kept so far. The measure is what is left to read.
use mathlib.Core.Path.{◌≡◌}
use mathlib.Core.Bool.{true}
use lib.ListN.{length}
use Rattle.tag_keys.specs.Sieve.{sieve_words, SieveOf}
use Rattle.tag_step.specs.Next.{state_good, lent_state}
use Rattle.tag_step.proofs.Good.{Sized}
use Rattle.scope_table.specs.Table.{resolver_of}
use Rattle.scope_nil.specs.Nil.{searched}
use Rattle.scope_nil.proofs.Turns.{unread}
use Rattle.scope_nil.proofs.search.Given as goal

abbrev pub invariant-loop-made : goal.invariant-loop-made
invariant-loop-made l = (state_good l.tag (lent_state l.stand l.html l.checks l.starts l.ends l.hashes l.recorded) ≡ true)
    × Sized (lent_state l.stand l.html l.checks l.starts l.ends l.hashes l.recorded)
    × (searched (resolver_of l.text l.records l.head) l.tag (lent_state l.initial.stand l.html l.checks l.initial.starts l.initial.ends l.initial.hashes l.initial.recorded)
    ≡ searched (resolver_of l.text l.records l.head) l.tag (lent_state l.stand l.html l.checks l.starts l.ends l.hashes l.recorded))
    × SieveOf l.checks l.sieve l.hashes l.recorded
    × (length l.sieve ≡ sieve_words)

abbrev pub decreases-loop-made : goal.decreases-loop-made
decreases-loop-made l = unread l.tag (lent_state l.stand l.html l.checks l.starts l.ends l.hashes l.recorded)

-- the l.sieve keeps its length
