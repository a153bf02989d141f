-- `tag_step::key_only` meets its contract: one law for the mode, and one for each verdict; a new key is recorded where the tables hold it.
use borrow.Author.Tests.{not-true, not-false}
use mathlib.Core.Path.{refl, sym, ◌∙◌}
use Rattle.tag_keys.proofs.Numbers.{checked_apart}
use Rattle.tag_keys.proofs.Laws.{fresh_holds}
use Rattle.tag_keys.proofs.Sieve.{sieve_stays, sieve_alone, sieve_fresh}
use Rattle.tag_step.proofs.Whole.{bare_xml, bare_fresh, bare_same, bare_full}
use Rattle.tag_step.proofs.Taken.{written_fresh, written_hash, written_same, written_full, took, took_same, left_recorded, left_alone, short_alone, bare_untaken}
use Rattle.tag_step.proofs.key_only.Goals as goal

pub returns-then-not-at : goal.returns-then-not-at
returns-then-not-at c = (took_same _ _ c.requires.keys_in _ _ (bare_xml _ _ _ _ _ _ (not-true _ c.if-not-at.true) _ c.place_at-place.ensures) refl, sieve_stays _ _ _ _ c.requires.sieve_of)

pub check_unsifted-requires : goal.check_unsifted-requires
check_unsifted-requires c = record { keys_in = c.requires.keys_in; start_lt_end = c.requires.start_lt_end; hash_value = c.hash_for-hash.ensures }

pub record_key-requires : goal.record_key-requires
record_key-requires c = c.requires.sieve_of

pub returns-then-not-record_key : goal.returns-then-not-record_key
returns-then-not-record_key c = (
  short_alone _ _ _ _ _ _ _ (left_alone _ _ _ c.record_key.result c.record_key.ensures.1 c.if-not-record_key.true) (left_alone _ _ _ c.record_key.result c.record_key.ensures.2 c.if-not-record_key.true) (left_alone _ _ _ c.record_key.result c.record_key.ensures.3 c.if-not-record_key.true) ∙ bare_untaken _ _ _ _ _ _ _ _ _ _ (sym (checked_apart _ _ c.in-Ok.ensures)) (fresh_holds _ _ _ _ _ _ _ _ _ c.requires.keys_in (sym (checked_apart _ _ c.in-Ok.ensures)) ∙ sym c.record_key.ensures.0 ∙ c.if-not-record_key.true) (not-false _ c.if-not-at.false),
  sieve_alone _ _ _ _ c.requires.sieve_of _ _ (left_alone _ _ _ c.record_key.result c.record_key.ensures.4 c.if-not-record_key.true) (left_alone _ _ _ c.record_key.result c.record_key.ensures.3 c.if-not-record_key.true),
)

pub returns-else-not-record_key : goal.returns-else-not-record_key
returns-else-not-record_key c = (
  took _ _ _ (bare_fresh _ _ _ _ _ _ _ _ _ _ _ _ _ (checked_apart _ _ c.in-Ok.ensures) (written_fresh _ _ _ _ _ _ refl (left_recorded _ _ _ c.record_key.result c.record_key.ensures.1 c.if-not-record_key.false)) (written_fresh _ _ _ _ _ _ refl (left_recorded _ _ _ c.record_key.result c.record_key.ensures.2 c.if-not-record_key.false)) (written_hash _ _ _ _ _ _ _ _ refl c.hash_for-hash.ensures (left_recorded _ _ _ c.record_key.result c.record_key.ensures.3 c.if-not-record_key.false)) (not-false _ c.if-not-at.false) _ c.place_at-place.ensures _ refl) (fresh_holds _ _ _ _ _ _ _ _ _ c.requires.keys_in (sym (checked_apart _ _ c.in-Ok.ensures)) ∙ sym c.record_key.ensures.0 ∙ c.if-not-record_key.false),
  sieve_fresh _ _ _ _ c.requires.sieve_of _ _ _ _ _ _ _ _ _ (sym (checked_apart _ _ c.in-Ok.ensures)) (sym (sym c.record_key.ensures.0 ∙ c.if-not-record_key.false)) (left_recorded _ _ _ c.record_key.result c.record_key.ensures.3 c.if-not-record_key.false) (left_recorded _ _ _ c.record_key.result c.record_key.ensures.4 c.if-not-record_key.false),
)

pub returns-in-Err-Same : goal.returns-in-Err-Same
returns-in-Err-Same c = (
  rw c.in-Err-Same.field-0-is (took_same _ _ c.requires.keys_in _ _ (bare_same _ _ _ _ _ _ _ _ _ _ _ _ _ (checked_apart _ _ (rw c.in-Err-Same.field-0-is at c.in-Err-Same.ensures)) (written_same _ _ _ _ _ _ refl) (written_same _ _ _ _ _ _ refl) (written_same _ _ _ _ _ _ refl) (not-false _ c.if-not-at.false) _ c.place_at-place.ensures _ refl) refl),
  sieve_stays _ _ _ _ c.requires.sieve_of,
)

pub returns-in-Err-Full : goal.returns-in-Err-Full
returns-in-Err-Full c = (
  took_same _ _ c.requires.keys_in _ _ (bare_full _ _ _ _ _ _ _ _ _ _ _ _ _ (checked_apart _ _ (rw c.in-Err-Full.field-0-is at c.in-Err-Full.ensures)) (written_full _ _ _ _ _ refl) (written_full _ _ _ _ _ refl) (written_full _ _ _ _ _ refl) (not-false _ c.if-not-at.false) _ c.place_at-place.ensures refl) refl,
  sieve_stays _ _ _ _ c.requires.sieve_of,
)
