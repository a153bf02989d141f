-- `tag_keys::check_for_duplicates` meets its contract: without checks, and by what the search finds.
use mathlib.Core.Path.{sym, ap, ◌∙◌}
use Rattle.tag_keys.specs.Keys.{checked_numbers}
use Rattle.tag_keys.proofs.Laws.{hash_asked, checked_off, checked_by_lem}
use Rattle.tag_keys.proofs.check_for_duplicates.Goals as goal

pub returns-then-not-checks : goal.returns-then-not-checks
returns-then-not-checks c = ap checked_numbers (sym (checked_off _ _ _ _ _ _ _ c.if-not-checks.true))

pub earlier_sifted-requires : goal.earlier_sifted-requires
earlier_sifted-requires c =
    let on = c.if-not-checks.false in
    record { keys_in = c.requires.keys_in; start_lt_end = c.requires.start_lt_end; hash_value = hash_asked _ _ _ _ _ c.requires.hash_value on; sieve_value = c.requires.sieve_of.all on }

pub returns : goal.returns
returns c = ap checked_numbers (c.verdict.ensures ∙ sym (checked_by_lem _ _ _ _ _ _ _ c.if-not-checks.false _ c.earlier_sifted.ensures))
