-- `tag_keys::hash_for` meets its contract: without checks, and with them.
use Rattle.tag_keys.proofs.Laws.{hash_off, hash_on}
use Rattle.tag_keys.proofs.hash_for.Goals as goal

pub returns-then-checks : goal.returns-then-checks
returns-then-checks c = hash_on _ _ _ _ _ c.if-checks.true c.hash_of.ensures

pub returns-else-checks : goal.returns-else-checks
returns-else-checks c = hash_off _ _ _ _ c.if-checks.false
