-- The resolver as a table of bindings: its capacities, the built-ins, the form that refusal 20 asks for, and the fresh one.
-- Definitions over the records take the record at each place, `rows`, and not the table.
use Rattle.std.specs.Prelude.{ℕ, zero, suc, ◌+◌, ◌-◌, ◌*◌, Bool, ◌&&◌, List, ◌++◌, take, drop, replicate, eqb, leb}
use Rattle.scan.specs.Bytes.{bytes, same_bytes}
use Rattle.scope_table.specs.Lists.{all_below, all_zero}
use Rattle.scope_table.specs.Records.{ROW, row_at, record_at, binding_of, row_of}
use Rattle.scope_table.specs.declared.Head.{Head}
use Rattle.scope_table.specs.declared.NamespaceBinding.{NamespaceBinding}
use Rattle.scope_table.specs.declared.NamespaceResolver.{NamespaceResolver}

-- Capacities: 65,536 bytes of text; 1,026 bindings, of which 2 are built in, and so many rows. The default limit is 128. A
-- level has 16 bits, so that 65,535 is the deepest.
abbrev pub TEXT : ℕ
TEXT = 65536

abbrev pub RECORDS : ℕ
RECORDS = 1026

abbrev pub NUMBERS : ℕ
NUMBERS = ROW * RECORDS

abbrev pub LIMIT : ℕ
LIMIT = 128

abbrev pub DEEPEST : ℕ
DEEPEST = 65535

-- The built-in text, 73 bytes: each reserved prefix with its URI after it.
unfoldable pub built_in : List ℕ
built_in = bytes "xmlhttp://www.w3.org/XML/1998/namespacexmlnshttp://www.w3.org/2000/xmlns/"

-- Their records, at level 0: `xml` and its URI, 3 and 36 bytes, `xmlns` and its URI, 5 and 29.
abbrev pub built_in_rows : List ℕ
built_in_rows = row_of (binding_of 0 3 36 0) ++ row_of (binding_of 39 5 29 0)

-- a head, and a resolver, of these parts
abbrev pub head_of : (used count level limit : ℕ) → Head
head_of used count level limit = record { used = used; count = count; level = level; limit = limit }

abbrev pub resolver_of : (text records : List ℕ) → Head → NamespaceResolver
resolver_of text records head = record { text = text; records = records; head = head }

-- The form of a resolver, as refusal 20 lists it.

-- the bytes of text that the first n records have: both lengths of each, added up
unfoldable pub text_of : (rows : ℕ → NamespaceBinding) → ℕ → ℕ
text_of rows zero = 0
text_of rows (suc n) = text_of rows n + ((rows n).prefix_len + (rows n).value_len)

-- the level of the record before record i; 0 before the first
unfoldable pub level_before : (rows : ℕ → NamespaceBinding) → ℕ → ℕ
level_before rows zero = 0
level_before rows (suc i) = (rows i).level

-- a record has these lengths and this level
unfoldable pub is_record : NamespaceBinding → (prefixLen valueLen level : ℕ) → Bool
is_record b prefixLen valueLen level =
    eqb b.prefix_len prefixLen
    && (eqb b.value_len valueLen
    && eqb b.level level)

-- The first two records and text are the built-ins at level 0: `xml` and its URI, 3 and 36 bytes, `xmlns` and its URI, 5
-- and 29.
unfoldable pub opens_built_in : (text : List ℕ) (rows : ℕ → NamespaceBinding) (count : ℕ) → Bool
opens_built_in text rows count =
    leb 2 count
    && (same_bytes (take 73 text) built_in
    && (is_record (rows 0) 3 36 0
    && is_record (rows 1) 5 29 0))

-- Each record's text starts where the previous ends, from 0; the last ends at text used.
unfoldable pub is_chain : (rows : ℕ → NamespaceBinding) (used count : ℕ) → Bool
is_chain rows used count = all_below (λ i. eqb (rows i).start (text_of rows i)) count && eqb (text_of rows count) used

-- Levels never fall along the table nor exceed the nesting level.
unfoldable pub is_rising : (rows : ℕ → NamespaceBinding) (count level : ℕ) → Bool
is_rising rows count level =
    all_below (λ i. leb (level_before rows i) (rows i).level && leb (rows i).level level) count

-- Counts are within capacity, and so is the level, which is held in a wider number than a level has.
unfoldable pub is_within : (used count level : ℕ) → Bool
is_within used count level = leb used TEXT && (leb count RECORDS && leb level DEEPEST)

-- Every unused record and text byte is zero.
unfoldable pub is_clear : (text records : List ℕ) (used count : ℕ) → Bool
is_clear text records used count = all_zero (drop used text) && all_zero (drop (row_at count) records)

-- All of it: what 20 refuses is any resolver of which this is false. The limit is not judged.
unfoldable pub is_table : (text records : List ℕ) → Head → Bool
is_table text records head =
    is_within head.used head.count head.level
    && (opens_built_in text (record_at records) head.count
    && (is_chain (record_at records) head.used head.count
    && (is_rising (record_at records) head.count head.level
    && is_clear text records head.used head.count)))

unfoldable pub valid_of : NamespaceResolver → Bool
valid_of x = is_table x.text x.records x.head

-- The fresh resolver: the built-ins at level 0, the default limit, and zeros.
unfoldable pub fresh_of : NamespaceResolver
fresh_of =
    resolver_of (built_in ++ replicate (TEXT - 73) 0)
    (built_in_rows ++ replicate (NUMBERS - 2 * ROW) 0)
    (head_of 73 2 0 LIMIT)
