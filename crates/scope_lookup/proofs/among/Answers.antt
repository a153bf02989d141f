-- `scope_lookup::among` meets its contract.
use mathlib.Core.Path.{◌∙◌}
use lib.ListN.{length}
use lib.Seq.{take-length}
use Rattle.scope_lookup.specs.Lookup.{among_of}
use Rattle.scope_lookup.proofs.Laws.{widest}
use Rattle.scope_lookup.proofs.among.Goals as goal

pub returns-then-named : goal.returns-then-named
unfolding among_of
returns-then-named c = c.explicit.ensures ∙ rw (take-length c.args.prefix.now, c.if-named.true)

pub default-requires : goal.default-requires
default-requires c =
    widest c.args.records.now c.args.count (length c.args.text.now) c.requires

pub returns : goal.returns
unfolding among_of
returns c = c.default.ensures ∙ rw c.if-named.false
