-- Of a resolver that is not refused, `has_nil` looks a name up as `resolve_attribute` does: the resolver's form is tested once.
use Prim.Native.Nat.{ℕ}
use mathlib.Core.Path.{◌≡◌}
use mathlib.Core.Bool.{true, false}
use mathlib.Core.List.{List}
use Rattle.std.specs.Prelude.{Ok}
use Rattle.name.specs.Split.{has_colon, prefix_of}
use Rattle.scope_table.specs.Records.{record_at}
use Rattle.scope_table.specs.Table.{valid_of}
use Rattle.scope_table.specs.declared.NamespaceResolver.{NamespaceResolver}
use Rattle.scope_lookup.specs.Lookup.{among_of, resolve_prefix_of, resolve_of}

pub resolves_attribute : (x : NamespaceResolver) (key : List ℕ) → valid_of x ≡ true → Ok (among_of x.text (record_at x.records) x.head.count (prefix_of key) (has_colon key) false) ≡ resolve_of key false x
unfolding resolve_of resolve_prefix_of
resolves_attribute x key v = rw v
