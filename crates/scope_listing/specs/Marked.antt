-- What the bounds of a listing's answer mark: the prefix and the value that the record shown has in the resolver's text.
use Rattle.std.specs.Prelude.{ℕ, ◌-◌, List, Some, None, Ok, Err}
use Rattle.scan.specs.Bytes.{Marks}
use Rattle.scope_table.specs.Records.{prefix_in, value_in}
use Rattle.scope_table.specs.declared.NamespaceBinding.{NamespaceBinding}
use Rattle.scope_listing.specs.Listing.{Listed}
use Rattle.scope_listing.specs.declared.Listing.{Listing}

-- of one record
abbrev pub MarksRecord : (text : List ℕ) → NamespaceBinding → Listed → Type 0
MarksRecord text b (Ok (Some r)) = Marks text r.prefix_from r.value_from (prefix_in text b) × Marks text r.value_from r.value_to (value_in text b)
MarksRecord text b (Ok None) = Unit {0}
MarksRecord text b (Err why) = Unit {0}

-- The record shown is the one before the place to go on from.
abbrev pub MarksShown : (text : List ℕ) (rows : ℕ → NamespaceBinding) → Listing → Type 0
MarksShown text rows l = MarksRecord text (rows (l.place - 1)) l.answer
