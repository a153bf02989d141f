-- `tag_batch::read_batch` meets its contract: each way of coming back has its law (proofs/Ends).
use mathlib.Core.Path.{refl, sym, ap, ◌∙◌, ◌≡◌}
use mathlib.Core.Bool.{true}
use native.Mathlib.Omega.{arith}
use lib.ListN.{length}
use Rattle.std.specs.Prelude.{Some, Err}
use Rattle.scan.specs.Lists.{over}
use Rattle.scan.proofs.Lists.{over_length}
use Rattle.tag_keys.specs.Sieve.{empty_sieve}
use Rattle.tag_step.specs.declared.AttrError.TheVariants.{BadState}
use Rattle.tag_step.specs.Next.{keys_lent, stands_at, state_good}
use Rattle.tag_step.proofs.Whole.{good_inside}
use Rattle.tag_batch.specs.Batch.{five_of, tables_lent}
use Rattle.tag_batch.proofs.Turns.{five_length}
use Rattle.tag_batch.proofs.Ends.{lent_read, read_none, read_bad, long_tables, tables_fit}
use Rattle.tag_batch.proofs.read_batch.Goals as goal

pub returns-then-not-tables_lent : goal.returns-then-not-tables_lent
unfolding tables_lent
returns-then-not-tables_lent c =
    let a = c.args in
    long_tables a.tag.now (stands_at a.at a.starts.now a.ends.now a.hashes.now) a.out.now (sym c.tables_lent.ensures ∙ c.if-not-tables_lent.true)

pub returns-then-out-lt5 : goal.returns-then-out-lt5
unfolding tables_lent
returns-then-out-lt5 c =
    let a = c.args in
    read_none a.tag.now (stands_at a.at a.starts.now a.ends.now a.hashes.now) a.out.now (sym c.tables_lent.ensures ∙ c.if-not-tables_lent.false) c.if-out-lt5.true

pub returns-then-not-good_in : goal.returns-then-not-good_in
unfolding tables_lent state_good
returns-then-not-good_in c =
    let a = c.args in
    let written = c.put.ensures ∙ ap (over a.out.now 0) c.numbers.ensures in
    read_bad a.tag.now (stands_at a.at a.starts.now a.ends.now a.hashes.now) a.out.now (sym c.tables_lent.ensures ∙ c.if-not-tables_lent.false) (sym c.good_in.ensures ∙ c.if-not-good_in.true) c.if-out-lt5.false _ _ _ _ _ c.clear_keys.ensures.0 c.clear_keys.ensures.1 c.clear_keys.ensures.2 written c.after_seven.ensures (ap length written ∙ over_length a.out.now 0 (five_of (Some (Err BadState))) (omega (arith, five_length (Some (Err BadState)), c.if-out-lt5.false)))

pub sieve_kept-requires : goal.sieve_kept-requires
unfolding empty_sieve
sieve_kept-requires c =
    let a = c.args in
    record { sieve_value = refl; count_in_bounds = (good_inside a.tag.now (keys_lent a.starts.now a.ends.now a.hashes.now a.at.count) a.at.place (sym c.good_in.ensures ∙ c.if-not-good_in.false)).placed.2 }

pub read_good-requires : goal.read_good-requires
unfolding tables_lent state_good
read_good-requires c =
    let a = c.args in
    let st = stands_at a.at a.starts.now a.ends.now a.hashes.now in
    let fit : tables_lent st ≡ true = sym c.tables_lent.ensures ∙ c.if-not-tables_lent.false in
    let f = tables_fit a.tag.now st a.out.now fit in
    record { ripe = record { good = sym c.good_in.ensures ∙ c.if-not-good_in.false; starts = f.0; ends = f.1; hashes = f.2 }; sieve_of = record { all = λ _. c.sieve_kept.ensures } }

pub returns : goal.returns
unfolding tables_lent
returns c =
    let a = c.args in
    c.read_good.ensures ∙ lent_read a.tag.now (stands_at a.at a.starts.now a.ends.now a.hashes.now) a.out.now (sym c.tables_lent.ensures ∙ c.if-not-tables_lent.false)
