-- `name::decompose` meets its contract: the code goes by where the first colon is.
use Rattle.std.proofs.Common.{rules, arith}
use Rattle.name.proofs.Split.{parts_told, colon_there}
use Rattle.name.proofs.decompose.Goals as goal

pub map_or-requires : goal.map_or-requires
map_or-requires c =
    λ at e _ _. let t = colon_there c.args.name.now at (cc c.index-colon.ensures) in omega arith

pub returns : goal.returns
returns c = parts_told _ _ _ c.index-colon.ensures (search rules)
