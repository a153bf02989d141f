-- `scope_lookup::default` meets its contract.
use Prim.Native.Nat.{◌≤◌}
use mathlib.Core.Path.{◌∙◌}
use Rattle.scope_table.specs.Records.{record_at}
use Rattle.scope_table.specs.Table.{TEXT}
use Rattle.scope_lookup.specs.Lookup.{counted, is_default, default_of}
use Rattle.scope_table.proofs.Last.{last_within}
use Rattle.scope_lookup.proofs.Laws.{fewer}
use Rattle.scope_lookup.proofs.default.Goals as goal

pub returns-then-not-wanted : goal.returns-then-not-wanted
unfolding default_of
returns-then-not-wanted c = rw c.if-not-wanted.true

pub value_or-requires : goal.value_or-requires
value_or-requires c =
    let a = c.args in
    let h : counted c.last_default-found.result ≤ a.count = rw c.last_default-found.ensures (last_within (λ i. is_default (record_at a.records.now i)) a.count) in
    fewer a.records.now (counted c.last_default-found.result) a.count TEXT h c.requires

pub returns : goal.returns
unfolding default_of
returns c = c.value_or.ensures ∙ rw (c.last_default-found.ensures, c.if-not-wanted.false)
