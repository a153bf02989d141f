-- `scope_nil::has_nil_in` meets its contract: lengths, 20, 7, then the search, in the tables themselves where they have full
-- size and else in a copy.
use mathlib.Core.Path.{◌≡◌, sym, ap, ◌∙◌}
use mathlib.Core.Bool.{true, false}
use Rattle.std.specs.Prelude.{Err}
use Rattle.scope_nil.specs.declared.NilError.{NilError}
use Rattle.tag_step.specs.Next.{state_good, stands_at}
use Rattle.scope_table.specs.Table.{resolver_of}
use Rattle.scope_table.proofs.Good.{ready}
use Rattle.scope_lookup.proofs.Padded.{ready_inside}
use Rattle.scope_nil.specs.Nil.{keys_fit, nil_left_by, said}
use Rattle.scope_nil.specs.declared.Left.{Left}
use Rattle.scope_nil.proofs.Lent.{keys_fit_lem, keys_long, ends_long, hashes_long, in_long, in_refused, in_7, in_search, full_search}
use Rattle.scope_nil.proofs.has_nil_in.Goals as goal
use Rattle.scope_nil.proofs.has_nil_in.Goals.{then-starts-gt-CAPACITY-via-then-starts-gt-CAPACITY, then-starts-gt-CAPACITY-via-else-starts-gt-CAPACITY+then-ends-gt-CAPACITY, then-starts-gt-CAPACITY-via-else-starts-gt-CAPACITY+else-ends-gt-CAPACITY+then-hashes-gt-CAPACITY}

pub returns-then-starts-gt-CAPACITY : goal.returns-then-starts-gt-CAPACITY
returns-then-starts-gt-CAPACITY c =
    let a = c.args in
    let st = stands_at a.at a.starts.now a.ends.now a.hashes.now in
    let long : keys_fit st ≡ false = elim c.then-starts-gt-CAPACITY.branch [
      | then-starts-gt-CAPACITY-via-then-starts-gt-CAPACITY w ↦ keys_long st w.if-starts-gt-CAPACITY.true
      | then-starts-gt-CAPACITY-via-else-starts-gt-CAPACITY+then-ends-gt-CAPACITY w ↦ ends_long st w.if-starts-gt-CAPACITY.false w.if-ends-gt-CAPACITY.true
      | then-starts-gt-CAPACITY-via-else-starts-gt-CAPACITY+else-ends-gt-CAPACITY+then-hashes-gt-CAPACITY w ↦ hashes_long st w.if-starts-gt-CAPACITY.false w.if-ends-gt-CAPACITY.false w.if-hashes-gt-CAPACITY.true
    ] in
    ap (λ (l : Left). nil_left_by a.at l a.starts.now a.ends.now a.hashes.now) c.unmoved.ensures
    ∙ in_long a.tag.now st a.text.now a.records.now a.head long

pub returns-in-Err : goal.returns-in-Err
returns-in-Err c =
    let a = c.args in
    let st = stands_at a.at a.starts.now a.ends.now a.hashes.now in
    ap (λ (l : Left). nil_left_by a.at l a.starts.now a.ends.now a.hashes.now) c.unmoved-in-Err.ensures
    ∙ ap (λ (e : NilError). said (Err e) st) c.from.ensures
    ∙ in_refused a.tag.now st a.text.now a.records.now a.head (keys_fit_lem st c.if-starts-gt-CAPACITY.false c.if-ends-gt-CAPACITY.false c.if-hashes-gt-CAPACITY.false) c.in-Err.wrong (sym c.form_in.ensures ∙ c.in-Err.is)

pub returns-then-not-good_in : goal.returns-then-not-good_in
unfolding state_good
returns-then-not-good_in c =
    let a = c.args in
    let st = stands_at a.at a.starts.now a.ends.now a.hashes.now in
    let bad : state_good a.tag.now st ≡ false = sym c.good_in.ensures ∙ c.if-not-good_in.true in
    let z = c.clear_keys.ensures in
    in_7 a.tag.now st a.text.now a.records.now a.head (keys_fit_lem st c.if-starts-gt-CAPACITY.false c.if-ends-gt-CAPACITY.false c.if-hashes-gt-CAPACITY.false) (sym c.form_in.ensures ∙ c.in_default.is) bad c.if-starts-gt-CAPACITY.false c.if-ends-gt-CAPACITY.false c.if-hashes-gt-CAPACITY.false _ _ _ z.0 z.1 z.2

pub search-requires : goal.search-requires
unfolding state_good
search-requires c =
    let a = c.args in
    (record { good = sym c.good_in.ensures ∙ c.if-not-good_in.false; starts = c.if-starts-eq-CAPACITY.true; ends = c.if-ends-eq-CAPACITY.true; hashes = c.if-hashes-eq-CAPACITY.true }, ready_inside a.text.now a.records.now a.head (ready a.text.now a.records.now a.head (sym c.form_in.ensures ∙ c.in_default.is)))

pub returns-then-hashes-eq-CAPACITY : goal.returns-then-hashes-eq-CAPACITY
unfolding state_good
returns-then-hashes-eq-CAPACITY c =
    let a = c.args in
    let st = stands_at a.at a.starts.now a.ends.now a.hashes.now in
    let good : state_good a.tag.now st ≡ true = sym c.good_in.ensures ∙ c.if-not-good_in.false in
    c.search.ensures
    ∙ full_search (resolver_of a.text.now a.records.now a.head) a.tag.now st (record { starts = c.if-starts-eq-CAPACITY.true; ends = c.if-ends-eq-CAPACITY.true; hashes = c.if-hashes-eq-CAPACITY.true }) good
    ∙ in_search a.tag.now st a.text.now a.records.now a.head (keys_fit_lem st c.if-starts-gt-CAPACITY.false c.if-ends-gt-CAPACITY.false c.if-hashes-gt-CAPACITY.false) (sym c.form_in.ensures ∙ c.in_default.is) good

pub search_short-requires : goal.search_short-requires
unfolding state_good
search_short-requires c =
    let a = c.args in
    (record { good = sym c.good_in.ensures ∙ c.if-not-good_in.false; starts = c.if-starts-gt-CAPACITY.false; ends = c.if-ends-gt-CAPACITY.false; hashes = c.if-hashes-gt-CAPACITY.false }, ready_inside a.text.now a.records.now a.head (ready a.text.now a.records.now a.head (sym c.form_in.ensures ∙ c.in_default.is)))

pub returns : goal.returns
unfolding state_good
returns c =
    let a = c.args in
    let st = stands_at a.at a.starts.now a.ends.now a.hashes.now in
    let good : state_good a.tag.now st ≡ true = sym c.good_in.ensures ∙ c.if-not-good_in.false in
    c.search_short.ensures ∙ in_search a.tag.now st a.text.now a.records.now a.head (keys_fit_lem st c.if-starts-gt-CAPACITY.false c.if-ends-gt-CAPACITY.false c.if-hashes-gt-CAPACITY.false) (sym c.form_in.ensures ∙ c.in_default.is) good
