-- What a lookup hands back, as bytes.
use Rattle.std.specs.Prelude.{ℕ, List, Ok, Err}
use Rattle.scope_table.specs.declared.NamespaceResolver.{NamespaceResolver}
use Rattle.scope_lookup.specs.Lookup.{Resolved, uri_part, prefix_part}
use Rattle.scope_lookup.specs.declared.ResolveResult.TheVariants.{Bound, Unbound, Unknown}

-- what a name resolves to, as text
pub data Seen : Type 0 where
  bound : List ℕ → Seen
  unbound : Seen
  unknown : List ℕ → Seen
  refused : Seen

-- What an answer hands back, as `uri_part` and `prefix_part` give it: a URI that is a part of the resolver's text, or an
-- unknown prefix that is a part of the name.
unfoldable pub handed_back : NamespaceResolver → (name : List ℕ) → Resolved → Seen
handed_back x name (Ok (Bound a e)) = bound (uri_part x.text (Ok (Bound a e)))
handed_back x name (Ok Unbound) = unbound
handed_back x name (Ok (Unknown a e)) = unknown (prefix_part name (Ok (Unknown a e)))
handed_back x name (Err why) = refused
