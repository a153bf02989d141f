-- `scope_table::NamespaceResolver::fresh` meets its contract: memory of full size is the resolver itself.
use mathlib.Core.Path.{refl, ap, ◌∙◌}
use Rattle.scope_table.specs.Table.{resolver_of}
use Rattle.scope_table.specs.Lent.{Given}
use Rattle.scope_table.proofs.Fresh.{fresh_full}
use Rattle.scope_table.proofs.NamespaceResolver.fresh.Goals as goal

pub returns : goal.returns
returns c = ap (λ (g : Given). resolver_of g.text g.records g.head) (c.fresh_in-made.ensures ∙ fresh_full _ _ _ refl refl)
