-- The numbers that a caller's memory is held against.
use Rattle.std.specs.Prelude.{ℕ, List, [], ◌∷◌, get_or}
use Rattle.tag_keys.specs.Keys.{capacity}
use Rattle.tag_pieces.specs.Reader.{hold}
use Rattle.scope_table.specs.Records.{ROW}
use Rattle.scope_table.specs.Table.{TEXT, RECORDS}

-- In order, from 0: key places of a table, numbers of an iterator's state and of an answer; bytes of text, records, numbers
-- of a record, of a head, of a detail and of a listing's detail; bytes of a number and its alignment; bytes of a hash; numbers of a reader in pieces
-- and the bytes that it holds.
abbrev pub layout : List ℕ
layout = capacity ∷ 4 ∷ 5 ∷ TEXT ∷ RECORDS ∷ ROW ∷ 4 ∷ 2 ∷ 5 ∷ 8 ∷ 8 ∷ 4 ∷ 9 ∷ hold ∷ []

-- one of them, and 0 past the last
unfoldable pub layout_of : ℕ → ℕ
layout_of what = get_or layout what 0
