-- `tag_step::key_valued` meets its contract: a law for each verdict; a new key is recorded where the tables hold it.
use mathlib.Core.Path.{refl, sym, ◌∙◌}
use Rattle.tag_keys.proofs.Numbers.{checked_apart}
use Rattle.tag_keys.proofs.Laws.{fresh_holds}
use Rattle.tag_keys.proofs.Sieve.{sieve_stays, sieve_alone, sieve_fresh}
use Rattle.tag_step.proofs.Whole.{valued_fresh, valued_same, valued_full}
use Rattle.tag_step.proofs.Taken.{written_fresh, written_hash, written_same, written_full, took, took_same, left_recorded, left_alone, short_alone, valued_untaken}
use Rattle.tag_step.proofs.key_valued.Goals as goal

pub check_for_duplicates-requires : goal.check_for_duplicates-requires
check_for_duplicates-requires c = record { keys_in = c.requires.keys_in; start_lt_end = c.requires.start_lt_end; hash_value = c.hash_for-hash.ensures; sieve_of = c.requires.sieve_of }

pub record_key-requires : goal.record_key-requires
record_key-requires c = c.requires.sieve_of

pub returns-then-not-record_key : goal.returns-then-not-record_key
returns-then-not-record_key c = (
  short_alone _ _ _ _ _ _ _ (left_alone _ _ _ c.record_key.result c.record_key.ensures.1 c.if-not-record_key.true) (left_alone _ _ _ c.record_key.result c.record_key.ensures.2 c.if-not-record_key.true) (left_alone _ _ _ c.record_key.result c.record_key.ensures.3 c.if-not-record_key.true) ∙ valued_untaken _ _ _ _ _ _ _ _ _ _ (sym (checked_apart _ _ c.in-Ok.ensures)) (fresh_holds _ _ _ _ _ _ _ _ _ c.requires.keys_in (sym (checked_apart _ _ c.in-Ok.ensures)) ∙ sym c.record_key.ensures.0 ∙ c.if-not-record_key.true),
  sieve_alone _ _ _ _ c.requires.sieve_of _ _ (left_alone _ _ _ c.record_key.result c.record_key.ensures.4 c.if-not-record_key.true) (left_alone _ _ _ c.record_key.result c.record_key.ensures.3 c.if-not-record_key.true),
)

pub read_value-value-requires : goal.read_value-value-requires
read_value-value-requires c = c.requires.eq_in_bounds

pub returns-else-not-record_key : goal.returns-else-not-record_key
returns-else-not-record_key c = (
  took _ _ _ (valued_fresh _ _ _ _ _ _ _ _ _ _ _ _ _ (checked_apart _ _ c.in-Ok.ensures) (written_fresh _ _ _ _ _ _ refl (left_recorded _ _ _ c.record_key.result c.record_key.ensures.1 c.if-not-record_key.false)) (written_fresh _ _ _ _ _ _ refl (left_recorded _ _ _ c.record_key.result c.record_key.ensures.2 c.if-not-record_key.false)) (written_hash _ _ _ _ _ _ _ _ refl c.hash_for-hash.ensures (left_recorded _ _ _ c.record_key.result c.record_key.ensures.3 c.if-not-record_key.false)) _ refl _ c.read_value-value.ensures) (fresh_holds _ _ _ _ _ _ _ _ _ c.requires.keys_in (sym (checked_apart _ _ c.in-Ok.ensures)) ∙ sym c.record_key.ensures.0 ∙ c.if-not-record_key.false),
  sieve_fresh _ _ _ _ c.requires.sieve_of _ _ _ _ _ _ _ _ _ (sym (checked_apart _ _ c.in-Ok.ensures)) (sym (sym c.record_key.ensures.0 ∙ c.if-not-record_key.false)) (left_recorded _ _ _ c.record_key.result c.record_key.ensures.3 c.if-not-record_key.false) (left_recorded _ _ _ c.record_key.result c.record_key.ensures.4 c.if-not-record_key.false),
)

pub returns-in-Err-Same : goal.returns-in-Err-Same
returns-in-Err-Same c = (
  rw c.in-Err-Same.field-0-is (took_same _ _ c.requires.keys_in _ _ (valued_same _ _ _ _ _ _ _ _ _ _ _ _ _ (checked_apart _ _ (rw c.in-Err-Same.field-0-is at c.in-Err-Same.ensures)) (written_same _ _ _ _ _ _ refl) (written_same _ _ _ _ _ _ refl) (written_same _ _ _ _ _ _ refl) _ refl) refl),
  sieve_stays _ _ _ _ c.requires.sieve_of,
)

pub returns-in-Err-Full : goal.returns-in-Err-Full
returns-in-Err-Full c = (
  took_same _ _ c.requires.keys_in _ _ (valued_full _ _ _ _ _ _ _ _ _ _ _ _ _ (checked_apart _ _ (rw c.in-Err-Full.field-0-is at c.in-Err-Full.ensures)) (written_full _ _ _ _ _ refl) (written_full _ _ _ _ _ refl) (written_full _ _ _ _ _ refl) refl) refl,
  sieve_stays _ _ _ _ c.requires.sieve_of,
)
