-- `scope_nil::search` meets its contract: the search from the start is the search from the iterator as it is now, and the sieve
-- is that of the hashes kept so far. The measure is what is left to read.
use mathlib.Core.Path.{◌≡◌, refl, sym, ap, ◌∙◌}
use Prim.Native.Nat.{ℕ}
use mathlib.Core.Bool.{Bool, true, false}
use mathlib.Core.List.{List}
use lib.ListN.{length}
use Rattle.std.proofs.Common.{Option}
use Rattle.tag_keys.specs.Sieve.{sieve_words, empty_sieve, sieve_left}
use Rattle.tag_keys.proofs.Sieve.{sieve_length, sieve_goes_on}
use Rattle.tag_step.specs.Next.{lent_state}
use Rattle.tag_step.specs.Lent.{kept_in}
use Rattle.tag_step.specs.declared.IterState.{IterState}
use Rattle.tag_step.specs.declared.Advance.{Advance}
use Rattle.tag_step.proofs.Good.{Sized, sized_inside, sized_next, sized_never}
use Rattle.scope_table.specs.Table.{resolver_of}
use Rattle.scope_nil.specs.Nil.{Searchable}
use Rattle.scope_nil.proofs.Turns.{search_ends, search_yes, search_on, end_told, says_by, lent_good, lent_sized, lent_falls}
use Rattle.scope_nil.proofs.search.Goals as goal

left_length : (checks : Bool) (sieve hashes : List ℕ) (n : ℕ) → length sieve ≡ sieve_words → length (sieve_left checks sieve hashes n) ≡ sieve_words
left_length true sieve hashes n e = sieve_length hashes n
left_length false sieve hashes n e = e

-- tables that can be searched have full size

sized : {s : List ℕ} {st : IterState} → Searchable s st → Sized st
sized p = record { starts = p.starts; ends = p.ends; hashes = p.hashes }

pub sieve_kept-requires : goal.sieve_kept-requires
unfolding empty_sieve
sieve_kept-requires c =
    let a = c.args in
    let p = c.requires.0 in
    record { sieve_value = refl; count_in_bounds = (sized_inside a.tag.now (lent_state a.at.place a.at.html a.at.checks a.starts.now a.ends.now a.hashes.now a.at.count) (sized p) p.good).placed.2 }

pub loop-made-init : goal.loop-made-init
loop-made-init c =
    let p = c.requires.0 in
    (p.good, sized p, refl, record { all = λ _. c.sieve_kept.ensures }, ap length c.sieve_kept.ensures ∙ sieve_length c.args.hashes.now c.args.at.count)

pub step_in-step-requires : goal.step_in-step-requires
step_in-step-requires c =
    let a = c.args in
    let l = c.loop-made in
    record { keys_in = sized_inside a.tag.now (lent_state l.stand a.at.html a.at.checks l.starts l.ends l.hashes l.recorded) l.invariant.1 l.invariant.0; sieve_of = l.invariant.3 }

pub returns-in_default : goal.returns-in_default
returns-in_default c =
    let a = c.args in
    let l = c.loop-made in
    let r = c.step_in-step in
    let st = lent_state l.stand a.at.html a.at.checks l.starts l.ends l.hashes l.recorded in
    absurd (sized_never a.tag.now st l.invariant.1 l.invariant.0 r.result _ _ _ r.ensures.0 c.in_default.is)

pub returns-then-is_none : goal.returns-then-is_none
returns-then-is_none c =
    let a = c.args in
    let l = c.loop-made in
    let r = c.step_in-step in
    let st = lent_state l.stand a.at.html a.at.checks l.starts l.ends l.hashes l.recorded in
    let step = sized_next a.tag.now st l.invariant.1 l.invariant.0 r.result _ _ _ r.ensures.0 _ c.in-Some.is in
    search_ends (resolver_of a.text.now a.records.now a.head) a.tag.now st l.invariant.1 l.invariant.0 _ _ step (end_told _ _ _ c.is_none.ensures c.if-is_none.true) ∙ sym l.invariant.2

pub is_nil-requires : goal.is_nil-requires
is_nil-requires c = c.requires.1

pub returns-then-is_nil : goal.returns-then-is_nil
returns-then-is_nil c =
    let a = c.args in
    let l = c.loop-made in
    let r = c.step_in-step in
    let st = lent_state l.stand a.at.html a.at.checks l.starts l.ends l.hashes l.recorded in
    let step = sized_next a.tag.now st l.invariant.1 l.invariant.0 r.result _ _ _ r.ensures.0 _ c.in-Some.is in
    let x = resolver_of a.text.now a.records.now a.head in
    search_yes x a.tag.now st l.invariant.1 l.invariant.0 _ _ step (end_told _ _ _ c.is_none.ensures c.if-is_none.false) (says_by x a.tag.now _ _ _ c.is_nil.result _ c.key_part-key.ensures c.value_part-value.ensures c.is_nil.ensures c.if-is_nil.true) ∙ sym l.invariant.2

pub loop-made-smaller : goal.loop-made-smaller
loop-made-smaller c =
    let a = c.args in
    let l = c.loop-made in
    let r = c.step_in-step in
    let st = lent_state l.stand a.at.html a.at.checks l.starts l.ends l.hashes l.recorded in
    let step = sized_next a.tag.now st l.invariant.1 l.invariant.0 r.result _ _ _ r.ensures.0 _ c.in-Some.is in
    lent_falls a.tag.now st l.invariant.1 l.invariant.0 _ _ step (end_told _ _ _ c.is_none.ensures c.if-is_none.false)

pub loop-made-preserved : goal.loop-made-preserved
loop-made-preserved c =
    let a = c.args in
    let l = c.loop-made in
    let r = c.step_in-step in
    let st = lent_state l.stand a.at.html a.at.checks l.starts l.ends l.hashes l.recorded in
    let step = sized_next a.tag.now st l.invariant.1 l.invariant.0 r.result _ _ _ r.ensures.0 _ c.in-Some.is in
    let x = resolver_of a.text.now a.records.now a.head in
    let w = r.ensures.1 ∙ ap (λ (o : Option Advance). sieve_left a.at.checks l.sieve r.new.hashes (kept_in o l.recorded)) c.in-Some.is in
    (lent_good a.tag.now st l.invariant.1 l.invariant.0 _ _ step, lent_sized a.tag.now st l.invariant.1 l.invariant.0 _ _ step, l.invariant.2 ∙ search_on x a.tag.now st l.invariant.1 l.invariant.0 _ _ step (end_told _ _ _ c.is_none.ensures c.if-is_none.false) (says_by x a.tag.now _ _ _ c.is_nil.result _ c.key_part-key.ensures c.value_part-value.ensures c.is_nil.ensures c.if-is_nil.false), sieve_goes_on a.at.checks l.sieve _ _ _ w, ap length w ∙ left_length a.at.checks l.sieve _ _ l.invariant.4)
