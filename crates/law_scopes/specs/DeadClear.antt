-- The crate's `set_level`, with the branch that no resolver comes to, and the promise that none does: document 02, request 8.
use Rattle.std.specs.Prelude.{ℕ, zero, suc, ◌+◌, ◌≤◌, ◌≡◌, true, ltb}
use Rattle.scan.specs.First.{pick}
use Rattle.scope_table.specs.Lists.{cut}
use Rattle.scope_table.specs.Records.{row_at, record_at}
use Rattle.scope_table.specs.Table.{head_of, resolver_of, valid_of}
use Rattle.scope_table.specs.declared.NamespaceResolver.{NamespaceResolver}
use Rattle.scope_change.specs.Change.{kept_at, dropped_of}

-- `NamespaceResolver::set_level`, src/name.rs. From the last record back it looks for one that is not above the level; the arms
-- of its `match` on what it finds:
pub data LevelArm : Type 0 where
  -- none
  clears_all : LevelArm
  -- the record at this place
  keeps_to : (last : ℕ) → LevelArm

-- `kept_at` counts the records up to the one that is found, so it is 0 where there is none
unfoldable pub level_arm_by : (kept : ℕ) → LevelArm
level_arm_by zero = clears_all
level_arm_by (suc last) = keeps_to last

unfoldable pub level_arm_of : (level : ℕ) → NamespaceResolver → LevelArm
level_arm_of level x = level_arm_by (kept_at (record_at x.records) level x.head.count)

-- So many bytes of the text and so many records stay, and zeros follow, at this level: `truncate` of both, where no more is asked
-- to stay than is in use.
unfoldable pub truncated_of : (bytes count level : ℕ) → NamespaceResolver → NamespaceResolver
truncated_of bytes count level x =
    resolver_of (cut x.text bytes) (cut x.records (row_at count)) (head_of bytes count level x.head.limit)

-- Where none is found, text and records are cleared. Else, if a record follows the one that is found, the text is truncated to
-- where that record's text starts, and the records to those before it; if none does, only the level changes.
unfoldable pub level_arm_leaves : LevelArm → (level : ℕ) → NamespaceResolver → NamespaceResolver
level_arm_leaves clears_all level x = truncated_of 0 0 level x
level_arm_leaves (keeps_to last) level x =
    pick (ltb (last + 1) x.head.count)
    (truncated_of (record_at x.records (last + 1)).start (last + 1) level x)
    (resolver_of x.text x.records (head_of x.head.used x.head.count level x.head.limit))

unfoldable pub crate_set_level_of : (level : ℕ) → NamespaceResolver → NamespaceResolver
crate_set_level_of level x = level_arm_leaves (level_arm_of level x) level x

-- At least the two built-ins stay: so the arm that clears everything is not taken, and what is left is what the contract of
-- `set_level` says.
pub record NeverCleared (level : ℕ) (x : NamespaceResolver) : Type 0 where
  pub built_ins : 2 ≤ kept_at (record_at x.records) level x.head.count
  pub arm : level_arm_of level x ≡ clears_all → ⊥
  pub leaves : crate_set_level_of level x ≡ dropped_of level x

-- So it is for every resolver that 20 does not refuse, and any level.
unfoldable pub DeadClear : Type 0
DeadClear = (x : NamespaceResolver) → valid_of x ≡ true → (level : ℕ) → NeverCleared level x
