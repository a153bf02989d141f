-- What a caller shows before a binding goes into lent memory.
use Rattle.std.specs.Prelude.{ℕ, ◌+◌, ◌≤◌, ◌≡◌, true}
use Rattle.scope_table.specs.Records.{row_at}
use Rattle.scope_table.specs.Table.{TEXT, RECORDS}
use Rattle.scope_table.specs.Lent.{fits_of}
use Rattle.scope_table.specs.declared.Head.{Head}
use Rattle.scope_change.specs.declared.Room.{Room}

-- What is in use is lent, and no more room is given than a resolver has.
pub record CanAppend (bytes numbers : ℕ) (head : Head) (room : Room) : Type 0 where
  pub fit : fits_of bytes numbers head.used head.count ≡ true
  pub few_records : room.records ≤ RECORDS
  pub few_bytes : room.bytes ≤ TEXT

-- A binding of this size, and its record, have a place after what is in use.
pub record HoldsBinding (bytes numbers : ℕ) (head : Head) (size : ℕ) : Type 0 where
  pub text : head.used + size ≤ bytes
  pub row : row_at (head.count + 1) ≤ numbers
