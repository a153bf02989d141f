-- `scope_change::text_end` meets its contract.
use mathlib.Core.Path.{ap, ◌∙◌}
use borrow.Author.Tests.{lt-ltb, le-ltb}
use Rattle.scope_table.specs.declared.NamespaceBinding.{NamespaceBinding}
use Rattle.scope_change.specs.Change.{end_of}
use Rattle.scope_change.proofs.text_end.Goals as goal

pub returns-then-k-count : goal.returns-then-k-count
unfolding end_of
returns-then-k-count c = ap (λ (b : NamespaceBinding). b.start) c.record_at-b.ensures ∙ rw (lt-ltb _ _ c.if-k-count.true)

pub returns : goal.returns
unfolding end_of
returns c = rw (le-ltb _ _ c.if-k-count.false)
