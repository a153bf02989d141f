-- `scope_lookup::resolve` meets its contract: memory of full size is the resolver itself.
use Rattle.std.proofs.Common.{rules}
use mathlib.Core.Path.{ap, ◌∙◌}
use Rattle.scope_table.proofs.Full.{full_asks}
use Rattle.scope_lookup.specs.Lookup.{resolve_of, resolved_numbers}
use Rattle.std.specs.Prelude.{Err}
use Rattle.scope_table.specs.declared.FormError.TheVariants.{WrongLength}
use Rattle.scope_lookup.proofs.resolve.Goals as goal

pub returns : goal.returns
returns c =
    let a = c.args in
    ap resolved_numbers (c.resolve_in.ensures ∙ full_asks a.r.text a.r.records a.r.head (search rules) (search rules) (Err WrongLength) (resolve_of a.name.now a.wanted))
