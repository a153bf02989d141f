-- `scope_lookup::name_among` meets its contract: what stands before the colon is the prefix.
use mathlib.Core.Path.{◌∙◌}
use lib.ListN.{length}
use Rattle.scope_lookup.specs.Lookup.{among_of}
use Rattle.scope_lookup.proofs.Laws.{widest, colon_in, colon_out, colon_prefix}
use Rattle.scope_lookup.proofs.name_among.Goals as goal

pub returns-then-at-name : goal.returns-then-at-name
unfolding among_of
returns-then-at-name c =
    let a = c.args in
    let at = c.colon_at-at in
    c.explicit.ensures ∙ rw (colon_in a.name.now at.result at.ensures c.if-at-name.true, colon_prefix a.name.now at.result at.ensures c.if-at-name.true)

pub default-requires : goal.default-requires
default-requires c =
    widest c.args.records.now c.args.count (length c.args.text.now) c.requires

pub returns : goal.returns
unfolding among_of
returns c =
    let a = c.args in
    let at = c.colon_at-at in
    c.default.ensures ∙ rw (colon_out a.name.now at.result at.ensures c.if-at-name.false)
