-- The iterator that carries its tag stands above the plain one: the tag stays, and all else is the plain iterator's.
use Rattle.std.specs.Prelude.{ℕ, Bool, true, List}
use Rattle.std.specs.Borrow.{Bor}
use Rattle.tag_step.specs.Answer.{Answer}
use Rattle.tag_step.specs.Next.{next_of, opened, with_checks}
use Rattle.tag_carried.specs.declared.Attributes.{Attributes}

-- an iterator over a tag, opened at position o, with checks on
abbrev pub opened_on : Bor (List ℕ) → ℕ → Bool → Attributes
opened_on tag o html = record { tag = tag; state = opened o html true }

-- the same iterator with checks set on or off
abbrev pub checked_as : Bool → Attributes → Attributes
checked_as checks it = record { tag = it.tag; state = with_checks checks it.state }

-- what an iterator answers next
abbrev pub answer_of : Attributes → Answer
answer_of it = (next_of it.tag.now it.state).answer

-- the iterator after that answer
abbrev pub after_next : Attributes → Attributes
after_next it = record { tag = it.tag; state = (next_of it.tag.now it.state).state }
