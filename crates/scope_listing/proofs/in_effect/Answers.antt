-- `scope_listing::in_effect` meets its contract: no later record has the prefix exactly if the search for one runs past the
-- last.
use Prim.Native.Nat.{ℕ, ◌+◌}
use mathlib.Core.Path.{sym, ap, ◌∙◌}
use mathlib.Core.Bool.{Bool, not}
use Rattle.std.specs.Prelude.{Option, is_some}
use mathlib.Core.List.{List}
use borrow.Author.Tests.{eq-eqb, ne_eqb}
use lib.Dec.{ltb}
use lib.ListN.{length}
use Rattle.scan.specs.First.{first_to}
use Rattle.scope_table.specs.Records.{record_at, prefix_in}
use Rattle.scope_table.specs.declared.NamespaceBinding.{NamespaceBinding}
use Rattle.scope_lookup.specs.Lookup.{has_prefix}
use Rattle.scope_lookup.proofs.Laws.{row_lent, record_ends}
use Rattle.scope_listing.specs.Listing.{has_value, is_overridden, in_effect}
use Rattle.scope_listing.proofs.Laws.{found_none}
use Rattle.scope_listing.proofs.in_effect.Goals as goal

pub record_at-b-requires : goal.record_at-b-requires
record_at-b-requires c =
    row_lent c.args.records.now c.args.count (length c.args.text.now) c.args.i c.requires.1 c.requires.0

pub returns-then-b-eq0 : goal.returns-then-b-eq0
unfolding in_effect has_value
returns-then-b-eq0 c =
    let a = c.args in
    let e = ap (λ (b : NamespaceBinding). b.value_len) (sym c.record_at-b.ensures) ∙ c.if-b-eq0.true in
    rw (eq-eqb _ _ e)

pub prefix-requires : goal.prefix-requires
prefix-requires c =
    let r = c.record_at-b in
    record_ends c.args.records.now c.args.count (length c.args.text.now) c.args.i c.requires.1 c.requires.0 r.result r.ensures

pub returns : goal.returns
unfolding in_effect is_overridden has_value
returns c =
    let a = c.args in
    let r = c.record_at-b in
    let like : List ℕ → ℕ → Bool = λ (p : List ℕ) (j : ℕ). has_prefix a.text.now p (record_at a.records.now j) in
    let q = c.prefix.ensures ∙ ap (prefix_in a.text.now) r.ensures in
    rw (ne_eqb (record_at a.records.now a.i).value_len 0 (λ e. c.if-b-eq0.false (ap (λ (b : NamespaceBinding). b.value_len) r.ensures ∙ e)))
    (found_none (like c.prefix.result.now) (a.i + 1) a.count c.is_none.result (ap (λ (f : Option ℕ). is_some f) (sym c.first_with.ensures) ∙ c.is_none.ensures)
    ∙ ap (λ (p : List ℕ). not (ltb (first_to (like p) (a.i + 1) a.count) a.count)) q)
