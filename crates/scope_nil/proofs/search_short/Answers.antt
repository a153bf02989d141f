-- `scope_nil::search_short` meets its contract: the copy is the iterator that the lent tables are, and it is searched there.
use mathlib.Core.Path.{sym, ap, ◌∙◌}
use Rattle.scope_table.specs.Table.{resolver_of}
use Rattle.scope_nil.specs.Nil.{nil_left_by}
use Rattle.scope_nil.specs.declared.Left.{Left}
use Rattle.scope_nil.proofs.Lent.{copy_searchable, short_more, short_held}
use Rattle.scope_nil.proofs.search_short.Goals as goal

pub search-found-requires : goal.search-found-requires
search-found-requires c =
    let a = c.args in
    let x = resolver_of a.text.now a.records.now a.head in
    (copy_searchable x a.tag.now a.at a.starts.now a.ends.now a.hashes.now c.requires.0 _ _ _ c.write_over.ensures c.write_over-2.ensures c.write_over-3.ensures, c.requires.1)

pub returns-then-not-holds : goal.returns-then-not-holds
returns-then-not-holds c =
    let a = c.args in
    let x = resolver_of a.text.now a.records.now a.head in
    let r = c.search-found in
    ap (λ (l : Left). nil_left_by a.at l a.starts.now a.ends.now a.hashes.now) c.unmoved.ensures
    ∙ short_more x a.tag.now a.at a.starts.now a.ends.now a.hashes.now c.requires.0 _ _ _ c.write_over.ensures c.write_over-2.ensures c.write_over-3.ensures r.result _ _ _ r.ensures (sym c.holds.ensures ∙ c.if-not-holds.true)

pub returns : goal.returns
returns c =
    let a = c.args in
    let x = resolver_of a.text.now a.records.now a.head in
    let r = c.search-found in
    short_held x a.tag.now a.at a.starts.now a.ends.now a.hashes.now c.requires.0 _ _ _ c.write_over.ensures c.write_over-2.ensures c.write_over-3.ensures r.result _ _ _ r.ensures (sym c.holds.ensures ∙ c.if-not-holds.false) _ _ _ c.copy_from_slice.ensures.after c.copy_from_slice-2.ensures.after c.copy_from_slice-3.ensures.after
