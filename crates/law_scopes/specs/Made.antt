-- The bindings that a resolver's records hold, as a list: how a table is seen as scopes.
use Rattle.std.specs.Prelude.{ℕ, ◌+◌, ◌-◌, List}
use Rattle.scan.specs.Lists.{list_to}
use Rattle.scope_table.specs.Records.{record_at, prefix_in, value_in}
use Rattle.scope_table.specs.declared.NamespaceResolver.{NamespaceResolver}
use Rattle.scope_table.specs.declared.NamespaceBinding.{NamespaceBinding}
use Rattle.scope_table.specs.declared.Changed.{Changed}
use Rattle.law_scopes.specs.Scopes.{Made, made, Scopes, scopes, ScopesTold, told}

-- what a record says
unfoldable pub made_of : (text : List ℕ) → NamespaceBinding → Made
made_of text b = made (prefix_in text b) (value_in text b) b.level

-- what record i says
unfoldable pub made_at : NamespaceResolver → ℕ → Made
made_at x i = made_of x.text (record_at x.records i)

-- the records in use, in order, but for the 2 built in
unfoldable pub made_in : NamespaceResolver → List Made
made_in x = list_to (λ i. made_at x (2 + i)) (x.head.count - 2)

unfoldable pub scopes_of : NamespaceResolver → Scopes
scopes_of x = scopes (made_in x) x.head.level x.head.limit

unfoldable pub seen : Changed → ScopesTold
seen c = told c.answer (scopes_of c.resolver)
