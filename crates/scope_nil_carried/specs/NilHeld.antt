-- `has_nil` of the iterator that carries its tag stands above the plain one's: the tag stays, and all else is the plain
-- search's.
use Rattle.std.specs.Prelude.{Bool, Result}
use Rattle.scope_table.specs.declared.NamespaceResolver.{NamespaceResolver}
use Rattle.scope_nil.specs.Nil.{has_nil_of}
use Rattle.scope_nil.specs.declared.NilError.{NilError}
use Rattle.tag_carried.specs.declared.Attributes.{Attributes}

-- what an iterator says of its tag
abbrev pub said_of : Attributes → NamespaceResolver → Result Bool NilError
said_of it x = (has_nil_of it.tag.now it.state x).answer

-- the iterator after that: unchanged by 20, as 7 leaves it, after the first yes, or at the end
abbrev pub after_nil : Attributes → NamespaceResolver → Attributes
after_nil it x = record { tag = it.tag; state = (has_nil_of it.tag.now it.state x).state }
