-- The answers that a body is due: its attributes in order, D or S by its quotes, the bounds being sums of the lengths of
-- what stands before them.
use Rattle.std.specs.Prelude.{ℕ, ◌+◌, Bool, true, not, ◌&&◌, List, [], ◌∷◌, length, get_or, leb, Some, Ok}
use Rattle.tag_step.specs.declared.Span.{Span}
use Rattle.tag_step.specs.Answer.{Answer}
use Rattle.tag_step.specs.declared.Attr.TheVariants.{DoubleQ, SingleQ}
use Rattle.tag_step.specs.Read.{span}
use Rattle.tag_step.specs.Numbers.{numbers_of}
use Rattle.law_wellformed.specs.Grammar.{Quote, double, single, Attribute}

-- An attribute whose text begins at `at`:
--
--        name =  "value"
--     |  |   |    |    |^
--
-- The marks are `at`, `name_start`, `name_end`, `value_start_at`, `value_end_at` and `next`.
unfoldable pub name_start : ℕ → Attribute → ℕ
name_start at a = at + length a.before

unfoldable pub name_end : ℕ → Attribute → ℕ
name_end at a = name_start at a + length a.name

-- past the `=` with its whitespace and the opening quote
unfoldable pub value_start_at : ℕ → Attribute → ℕ
value_start_at at a = name_end at a + length a.before_eq + 1 + length a.after_eq + 1

unfoldable pub value_end_at : ℕ → Attribute → ℕ
value_end_at at a = value_start_at at a + length a.value

-- past the closing quote
unfoldable pub next : ℕ → Attribute → ℕ
next at a = value_end_at at a + 1

unfoldable pub in_quotes : Quote → Span → Span → Answer
in_quotes double key value = Some (Ok (DoubleQ key value))
in_quotes single key value = Some (Ok (SingleQ key value))

unfoldable pub attribute_of : ℕ → Attribute → Answer
attribute_of at a = in_quotes a.quote (span (name_start at a) (name_end at a)) (span (value_start_at at a) (value_end_at at a))

unfoldable pub attributes_of : ℕ → List Attribute → List Answer
attributes_of at [] = []
attributes_of at (a ∷ more) = attribute_of at a ∷ attributes_of (next at a) more

-- A refusal of the iterator has a number from 1 to 7.
unfoldable pub is_refusal : Answer → Bool
is_refusal x = leb 1 (get_or (numbers_of x) 0 0) && leb (get_or (numbers_of x) 0 0) 7

unfoldable pub no_refusal : List Answer → Bool
no_refusal [] = true
no_refusal (x ∷ xs) = not (is_refusal x) && no_refusal xs
