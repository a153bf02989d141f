-- The theorems at work: a batch with key tables of full size, and room for two answers and one number more.
use Prim.Native.Nat.{ℕ}
use mathlib.Core.Path.{◌≡◌, ap}
use mathlib.Core.Bool.{true, false}
use mathlib.Core.List.{List, [], ◌∷◌}
use lib.ListN.{length-replicate, replicate}
use Rattle.scan.specs.First.{first_of, first_to, first_from}
use Rattle.scan.specs.Bytes.{is_space, not_space, ends_key, is_byte, part, same_bytes, bytes_from, bytes}
use Rattle.scan.specs.Lists.{over}
use Rattle.tag_keys.specs.Hash.{times_prime, hash_from, hash_of}
use Rattle.tag_keys.specs.Keys.{capacity, name_at, key_good, hash_is, key_bad, count_good, table_good, same_key, oldest_of, earlier_of, checked_by, checked_of, written_by, count_by}
use Rattle.tag_step.specs.declared.IterState.{IterState}
use Rattle.tag_step.specs.Read.{is_at, is_quote, skip_to, skip_of, recover_of, key_eq, key_to, key_from, key_at, quoted, closed_of, quoted_to, quoted_of, unquoted_to, other_of, value_by, value_from, value_at}
use Rattle.tag_step.specs.Next.{check_of, kept_by, place_at, bare_by, bare_to, bare_of, valued_by, valued_to, valued_of, read_key, read_at, step_from, step_of, place_good, keys_of, state_good, no_keys, bad_reading, leaves, next_of, opened}
use Rattle.tag_step.specs.Numbers.{numbers_of}
use Rattle.tag_step.specs.Run.{is_end, cons_unless, run_of}
use Rattle.tag_step.proofs.Good.{Sized}
use Rattle.tag_batch.specs.declared.Why.TheVariants.{LendMore}
use Rattle.tag_batch.specs.Batch.{five_of, fives_of, ran_of, answers_room, Batched, batch_of}
use Rattle.tag_batch.proofs.Full.{full_batch, full_never}

abbrev tag : List ℕ
tag = bytes "a=1 b='2' c"

abbrev start : IterState
start = opened 0 false true

sized : Sized start
unfolding opened no_keys
sized = record { starts = length-replicate {A = ℕ} capacity 0; ends = length-replicate {A = ℕ} capacity 0; hashes = length-replicate {A = ℕ} capacity 0 }

-- 3 at 2, then the single-quoted b; the last number stays as it was
pub full_batch_instance : (batch_of tag start (replicate 11 9)).out ≡ 3 ∷ 2 ∷ 0 ∷ 0 ∷ 0 ∷ 102 ∷ 4 ∷ 5 ∷ 7 ∷ 8 ∷ 9 ∷ []
unfolding first_of first_to first_from is_space not_space ends_key is_byte part same_bytes bytes_from bytes over times_prime hash_from hash_of hash_is key_good key_bad count_good table_good name_at same_key oldest_of earlier_of checked_by checked_of written_by count_by is_at is_quote skip_to skip_of recover_of key_eq key_to key_from key_at quoted closed_of quoted_to quoted_of unquoted_to other_of value_by value_from value_at check_of kept_by place_at bare_by bare_to bare_of valued_by valued_to valued_of read_key read_at step_from step_of place_good keys_of state_good no_keys bad_reading leaves next_of opened numbers_of is_end cons_unless run_of five_of fives_of answers_room
full_batch_instance = ap (λ (b : Batched). b.out) (full_batch tag start (replicate 11 9) sized)

pub full_never_instance : (ran_of 2 tag start).why ≡ LendMore → ⊥
full_never_instance = full_never 2 tag start sized
