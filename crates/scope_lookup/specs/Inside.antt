-- What a lookup asks of the records: the form of a resolver gives it (`ready_inside`, proofs/Padded).
use Rattle.std.specs.Prelude.{ℕ, ◌≤◌, ◌<◌, List, length}
use Rattle.scope_table.specs.Records.{row_at, record_at, value_end}
use Rattle.scope_table.specs.Table.{TEXT}

-- Every record in use is lent, and its text stands within so many bytes, no more than there can be.
pub record Inside (records : List ℕ) (count size : ℕ) : Type 0 where
  pub rows : row_at count ≤ length records
  pub small : size ≤ TEXT
  pub each : (k : ℕ) → k < count → value_end (record_at records k) ≤ size
