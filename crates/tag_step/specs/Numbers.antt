-- The number of document 01 for each answer, and its values in the table's order.
use Rattle.std.specs.Prelude.{ℕ, List, [], ◌∷◌, None, Some, Ok, Err}
use Rattle.tag_step.specs.declared.IterState.{IterState}
use Rattle.tag_step.specs.declared.Step.{Step}
use Rattle.tag_step.specs.Answer.{Answer}
use Rattle.tag_step.specs.declared.Attr.TheVariants.{DoubleQ, SingleQ, Unquoted, Empty}
use Rattle.tag_step.specs.declared.AttrError.TheVariants.{ExpectedEq, ExpectedValue, UnquotedValue, ExpectedQuote, Duplicated, KeyTableFull, BadState}

-- The end, which has no number there, is 0; a refusal has its own, 1 to 7; an attribute is 101 for `"`, 102 for `'`, 103
-- unquoted, 104 with no value, and its bounds follow.
unfoldable pub numbers_of : Answer → List ℕ
numbers_of None = 0 ∷ []
numbers_of (Some (Ok (DoubleQ k v))) = 101 ∷ k.start ∷ k.end ∷ v.start ∷ v.end ∷ []
numbers_of (Some (Ok (SingleQ k v))) = 102 ∷ k.start ∷ k.end ∷ v.start ∷ v.end ∷ []
numbers_of (Some (Ok (Unquoted k v))) = 103 ∷ k.start ∷ k.end ∷ v.start ∷ v.end ∷ []
numbers_of (Some (Ok (Empty k))) = 104 ∷ k.start ∷ k.end ∷ []
numbers_of (Some (Err (ExpectedEq p))) = 1 ∷ p ∷ []
numbers_of (Some (Err (ExpectedValue l))) = 2 ∷ l ∷ []
numbers_of (Some (Err (UnquotedValue p))) = 3 ∷ p ∷ []
numbers_of (Some (Err (ExpectedQuote l q))) = 4 ∷ l ∷ q ∷ []
numbers_of (Some (Err (Duplicated this earlier))) = 5 ∷ this ∷ earlier ∷ []
numbers_of (Some (Err (KeyTableFull this))) = 6 ∷ this ∷ []
numbers_of (Some (Err BadState)) = 7 ∷ []

-- An answer by its numbers, beside the state that it leaves: what a call for users promises.
abbrev pub numbered_step : Step → List ℕ × IterState
numbered_step x = (numbers_of x.answer, x.state)
