-- `tag_keys::record_key` meets its contract: while checks are on a place that all tables have is written.
use Rattle.std.proofs.Common.{length, refl, ap, ◌∙◌}
use Rattle.tag_keys.proofs.Laws.{place_unwanted, place_there, starts_full, ends_full, hashes_full}
use Rattle.tag_keys.proofs.Sieve.{sieve_length}
use Rattle.tag_keys.proofs.record_key.Goals as goal
use Rattle.tag_keys.proofs.record_key.Goals.{then-count-starts-via-then-count-starts, then-count-starts-via-else-count-starts+then-count-ends, then-count-starts-via-else-count-starts+else-count-ends+then-count-hashes}

pub returns-then-not-checks : goal.returns-then-not-checks
returns-then-not-checks c =
    let off = c.if-not-checks.true in
    (place_unwanted _ _ _ _ _ off, rw off, rw off, rw off, rw off)

pub returns-then-count-starts : goal.returns-then-count-starts
returns-then-count-starts c =
    let on = c.if-not-checks.false in
    elim c.then-count-starts.branch [
      | then-count-starts-via-then-count-starts w ↦ (starts_full _ _ _ _ _ on w.if-count-starts.true, refl, refl, refl, refl)
      | then-count-starts-via-else-count-starts+then-count-ends w ↦ (ends_full _ _ _ _ _ on w.if-count-starts.false w.if-count-ends.true, refl, refl, refl, refl)
      | then-count-starts-via-else-count-starts+else-count-ends+then-count-hashes w ↦ (hashes_full _ _ _ _ _ on w.if-count-starts.false w.if-count-ends.false w.if-count-hashes.true, refl, refl, refl, refl)
    ]

pub add_to_sieve-requires : goal.add_to_sieve-requires
add_to_sieve-requires c =
    ap length (c.requires.all c.if-not-checks.false) ∙ sieve_length _ _

pub returns : goal.returns
returns c =
    let on = c.if-not-checks.false in
    (place_there _ _ _ _ _ on c.if-count-starts.false c.if-count-ends.false c.if-count-hashes.false, rw on, rw on, rw on, c.add_to_sieve.ensures ∙ rw on)
