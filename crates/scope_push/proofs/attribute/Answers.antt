-- `scope_push::attribute` meets its contract: the parts of the key are those that are meant.
use mathlib.Core.Path.{◌∙◌}
use Rattle.scope_push.specs.Push.{declaration_of}
use Rattle.scope_push.proofs.attribute.Goals as goal

pub declare_in-requires : goal.declare_in-requires
declare_in-requires c = c.requires

pub returns : goal.returns
unfolding declaration_of
returns c = c.declare_in.ensures ∙ rw (c.saturating_sub.ensures, c.declared_prefix-prefix.ensures, c.as_namespace_binding-declares.ensures)
