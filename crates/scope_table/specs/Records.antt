-- The records of a resolver: one row of numbers each, in one table. Only what stands here, and the code's accessor and
-- writer, knows where a number stands in a row.
use Rattle.std.specs.Prelude.{ℕ, ◌+◌, ◌*◌, List, [], ◌∷◌, get_or}
use Rattle.scan.specs.Bytes.{part}
use Rattle.scope_table.specs.declared.NamespaceBinding.{NamespaceBinding}

-- the numbers of a record
abbrev pub ROW : ℕ
ROW = 4

-- where record i begins
abbrev pub row_at : ℕ → ℕ
row_at i = ROW * i

-- record i. What is past the end of a table is read as zeros.
abbrev pub record_at : (records : List ℕ) (i : ℕ) → NamespaceBinding
record_at records i =
    record {
      start = get_or records (row_at i) 0;
      prefix_len = get_or records (row_at i + 1) 0;
      value_len = get_or records (row_at i + 2) 0;
      level = get_or records (row_at i + 3) 0;
    }

-- a record of these numbers
abbrev pub binding_of : (start prefixLen valueLen level : ℕ) → NamespaceBinding
binding_of start prefixLen valueLen level =
    record { start = start; prefix_len = prefixLen; value_len = valueLen; level = level }

-- its numbers, as they stand in the table
abbrev pub row_of : NamespaceBinding → List ℕ
row_of b = b.start ∷ b.prefix_len ∷ b.value_len ∷ b.level ∷ []

-- Where the value of a record starts, which is where its prefix ends, and where it ends.
abbrev pub value_start : NamespaceBinding → ℕ
value_start b = b.start + b.prefix_len

abbrev pub value_end : NamespaceBinding → ℕ
value_end b = value_start b + b.value_len

-- What a record says: its prefix, none for a default, and its value, which stands right after it.
unfoldable pub prefix_in : (text : List ℕ) → NamespaceBinding → List ℕ
prefix_in text b = part text b.start (value_start b)

unfoldable pub value_in : (text : List ℕ) → NamespaceBinding → List ℕ
value_in text b = part text (value_start b) (value_end b)
