-- What a call that changes a resolver leaves: one binding more, and the records above a level dropped.
use Rattle.std.specs.Prelude.{ℕ, ◌+◌, ◌-◌, List, ◌++◌, length, leb, ltb, Ok, Err}
use Rattle.scan.specs.First.{pick}
use Rattle.scan.specs.Lists.{over}
use Rattle.scope_table.specs.Lists.{last_below, cut}
use Rattle.scope_table.specs.Records.{row_at, record_at, binding_of, row_of}
use Rattle.scope_table.specs.Table.{TEXT, RECORDS, head_of, resolver_of, text_of, valid_of}
use Rattle.scope_table.specs.Answer.{is_done, changed, NamespaceResult}
use Rattle.scope_table.specs.Lent.{fits_of}
use Rattle.scope_table.specs.declared.Head.{Head}
use Rattle.scope_table.specs.declared.NamespaceBinding.{NamespaceBinding}
use Rattle.scope_table.specs.declared.NamespaceResolver.{NamespaceResolver}
use Rattle.scope_table.specs.declared.Changed.{Changed}
use Rattle.scope_table.specs.declared.NamespaceError.TheVariants.{TooManyBindings, BindingTableFull, TextFull, BadResolver, LendMore}
use Rattle.scope_change.specs.declared.Room.{Room}

-- What may be in use at most.
abbrev pub room_of : (records bytes : ℕ) → Room
room_of records bytes = record { records = records; bytes = bytes }

-- A single resolver has all of it.
abbrev pub whole : Room
whole = room_of RECORDS TEXT

-- One binding more at the resolver's level: its text after the text in use, its record after the records in use.
unfoldable pub bound_of : (prefix value : List ℕ) → NamespaceResolver → NamespaceResolver
bound_of p v x =
    let h = x.head in
    resolver_of (over x.text h.used (p ++ v))
    (over x.records (row_at h.count) (row_of (binding_of h.used (length p) (length v) h.level)))
    (head_of (h.used + (length p + length v)) (h.count + 1) h.level h.limit)

-- 16, 18, 19 at their turn: 16 if the bindings, the built-ins not counted, have reached the limit; 18 if all records that
-- there may be are in use; 19 if text used plus both lengths exceeds what there may be.
unfoldable pub refusal_of : Room → Head → (size : ℕ) → NamespaceResult
refusal_of room head size =
    pick (leb head.limit (head.count - 2)) (Err (TooManyBindings head.limit))
    (pick (leb room.records head.count) (Err BindingTableFull)
    (pick (ltb room.bytes (head.used + size)) (Err TextFull)
    (Ok tt)))

-- A binding goes in where nothing refuses it; a refusal leaves the resolver as it was.
abbrev pub appended : NamespaceResult → (prefix value : List ℕ) → NamespaceResolver → Changed
appended a p v x = pick (is_done a) (changed (Ok tt) (bound_of p v x)) (changed a x)

unfoldable pub append_of : Room → (prefix value : List ℕ) → NamespaceResolver → Changed
append_of room p v x = appended (refusal_of room x.head (length p + length v)) p v x

-- The same on memory of these lengths: after 16, 18, 19 it has to hold the binding.
unfoldable pub lent_refusal_of : (bytes numbers : ℕ) → Room → Head → (size : ℕ) → NamespaceResult
lent_refusal_of bytes numbers room head size =
    pick (is_done (refusal_of room head size))
    (pick (fits_of bytes numbers (head.used + size) (head.count + 1)) (Ok tt) (Err LendMore))
    (refusal_of room head size)

-- How many of the first n records stay at a level: those up to the last one that is not above it.
unfoldable pub kept_at : (rows : ℕ → NamespaceBinding) (level n : ℕ) → ℕ
kept_at rows level n = last_below (λ i. leb (rows i).level level) n

-- Where the text of the first k of n records ends, as the records say it: where the next one starts, or at text used
-- after the last. In a table of the right form this is `text_of` of k.
unfoldable pub end_of : (rows : ℕ → NamespaceBinding) (k n used : ℕ) → ℕ
end_of rows k n used = pick (ltb k n) (rows k).start used

-- The first k records with their text, and zeros after them; at this level.
unfoldable pub kept_of : (k level : ℕ) → NamespaceResolver → NamespaceResolver
kept_of k level x =
    resolver_of (cut x.text (text_of (record_at x.records) k)) (cut x.records (row_at k))
    (head_of (text_of (record_at x.records) k) k level x.head.limit)

-- The records above a level dropped with their text, and that level set; any level, also a higher one.
unfoldable pub dropped_of : (level : ℕ) → NamespaceResolver → NamespaceResolver
dropped_of level x = kept_of (kept_at (record_at x.records) level x.head.count) level x

-- A level is set: 20, or the records above it are dropped.
unfoldable pub level_of : (level : ℕ) → NamespaceResolver → Changed
level_of level x = pick (valid_of x) (changed (Ok tt) (dropped_of level x)) (changed (Err BadResolver) x)
