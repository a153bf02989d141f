-- The sizes of a resolver's arrays. The arrays of the code have them always; a definition over lists has to be told.
use Rattle.std.specs.Prelude.{◌≡◌, length}
use Rattle.scope_table.specs.Table.{TEXT, NUMBERS}
use Rattle.scope_table.specs.declared.NamespaceResolver.{NamespaceResolver}

pub record Sized (x : NamespaceResolver) : Type 0 where
  pub text : length x.text ≡ TEXT
  pub records : length x.records ≡ NUMBERS
