-- What a truth value across the boundary says of a declaration.
use Rattle.std.specs.Prelude.{Bool, Option, Some}
use Rattle.scan.specs.First.{pick}
use Rattle.name.specs.declared.PrefixDeclaration.{PrefixDeclaration}
use Rattle.name.specs.declared.PrefixDeclaration.TheVariants.{Default, Named}

-- a named prefix, or the default
unfoldable pub declared_by : Bool → Option PrefixDeclaration
declared_by named = pick named (Some Named) (Some Default)
