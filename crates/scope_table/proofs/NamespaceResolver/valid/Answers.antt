-- `scope_table::NamespaceResolver::valid` meets its contract: arrays of full size hold whatever the head says.
use Rattle.std.proofs.Common.{rules, length}
use Rattle.scope_table.specs.Table.{valid_of}
use Rattle.scope_table.proofs.Full.{fits_full}
use Rattle.scope_table.proofs.NamespaceResolver.valid.Goals as goal

pub is_table-requires : goal.is_table-requires
is_table-requires c =
    let x = c.args.self in
    fits_full (length x.text) (length x.records) x.head.used x.head.count (search rules) (search rules)

pub returns : goal.returns
unfolding valid_of
returns c = c.is_table.ensures
