-- `export_lookups::mz_resolve` meets its contract: it is the call on lent memory, and its numbers are written.
use mathlib.Core.Path.{ap, ◌∙◌}
use Rattle.scope_table.specs.Lent.{lent}
use Rattle.scope_table.specs.declared.Head.{Head}
use Rattle.scope_lookup.specs.Lookup.{Resolved, resolved_numbers, resolve_of}
use Rattle.std.specs.Prelude.{Err}
use Rattle.scope_table.specs.declared.FormError.TheVariants.{WrongLength}
use Rattle.export_memory.specs.Boundary.{ask_in}
use Rattle.export_memory.proofs.Calls.{told_is}
use Rattle.export_lookups.proofs.mz_resolve.Goals as goal

pub returns : goal.returns
returns c =
    let a = c.args in
    c.tell.ensures
    ∙ told_is _ a.detail.now _ c.resolved_numbers.ensures
    ∙ ap (λ (x : Resolved). ask_in (resolved_numbers x) a.detail.now) c.resolve_in-found.ensures
    ∙ ap (λ (x : Head). ask_in (resolved_numbers (lent (Err WrongLength) (resolve_of a.name.now a.use_default) a.text.now a.records.now x)) a.detail.now) c.head_from-h.ensures
