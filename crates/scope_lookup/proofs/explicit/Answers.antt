-- `scope_lookup::explicit` meets its contract.
use Prim.Native.Nat.{◌≤◌}
use mathlib.Core.Path.{◌∙◌}
use lib.ListN.{length, take}
use lib.Seq.{length-take-le}
use borrow.Author.Tests.{eq-eqb, ne_eqb}
use Rattle.scope_table.specs.Records.{record_at}
use Rattle.scope_table.specs.Table.{TEXT}
use Rattle.scope_lookup.specs.Lookup.{counted, has_prefix, explicit_of}
use Rattle.scope_table.proofs.Last.{last_within}
use Rattle.scope_lookup.proofs.Laws.{fewer, widest}
use Rattle.scope_lookup.proofs.explicit.Goals as goal

pub returns-then-len-eq0 : goal.returns-then-len-eq0
unfolding explicit_of
returns-then-len-eq0 c = rw (length-take-le c.args.len c.args.name.now c.requires.1, eq-eqb _ _ c.if-len-eq0.true)

pub value_or-requires : goal.value_or-requires
value_or-requires c =
    let a = c.args in
    let h : counted c.last_with-found.result ≤ a.count = rw c.last_with-found.ensures (last_within (λ i. has_prefix a.text.now (take a.len a.name.now) (record_at a.records.now i)) a.count) in
    fewer a.records.now (counted c.last_with-found.result) a.count TEXT h (widest a.records.now a.count (length a.text.now) c.requires.0)

pub returns : goal.returns
unfolding explicit_of
returns c =
    c.value_or.ensures ∙ rw (length-take-le c.args.len c.args.name.now c.requires.1, c.last_with-found.ensures, ne_eqb _ _ c.if-len-eq0.false)
