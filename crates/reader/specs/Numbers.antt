-- What the reader answers, by numbers: what a call for users promises.
use Rattle.std.specs.Prelude.{ℕ, List, [], ◌∷◌, Option, None, Some, Result, Ok, Err}
use Rattle.tag_step.specs.Answer.{Answer}
use Rattle.tag_step.specs.Numbers.{numbers_of}
use Rattle.tag_pieces.specs.declared.Reader.{Reader}
use Rattle.tag_pieces.specs.declared.Feeding.{Feeding}
use Rattle.tag_pieces.specs.declared.MoreKeys.{MoreKeys}
use Rattle.tag_pieces.specs.declared.Take.{Take}
use Rattle.tag_pieces.specs.Reader.{fed_number}

-- A piece or a finish: its number, and the reader that it leaves.
abbrev pub numbered_feeding : Feeding → ℕ × Reader
numbered_feeding x = (fed_number x.fed, x.reader)

-- An answer has the numbers of document 01. More has none; 98 is that of lent key tables.
unfoldable pub taken_numbers : Result (Option Answer) MoreKeys → List ℕ
taken_numbers (Ok None) = []
taken_numbers (Ok (Some a)) = numbers_of a
taken_numbers (Err m) = 98 ∷ []

-- The same beside the reader.
abbrev pub numbered_take : Take → List ℕ × Reader
numbered_take x = (taken_numbers x.taken, x.reader)
