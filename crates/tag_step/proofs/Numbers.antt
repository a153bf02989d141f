-- `numbers_of` tells all answers apart: each can be read back from its numbers.
use Prim.Native.Nat.{ℕ}
use mathlib.Core.Path.{◌≡◌, refl, sym, ap, ◌∙◌}
use mathlib.Core.List.{List}
use lib.ListN.{get_or}
use lib.Dec.{eqb}
use Rattle.std.specs.Prelude.{None, Some, Ok, Err}
use Rattle.scan.specs.First.{pick}
use Rattle.tag_step.specs.declared.IterState.{IterState}
use Rattle.tag_step.specs.declared.Step.{Step}
use Rattle.tag_step.specs.Answer.{Answer}
use Rattle.tag_step.specs.declared.Attr.TheVariants.{DoubleQ, SingleQ, Unquoted, Empty}
use Rattle.tag_step.specs.declared.AttrError.TheVariants.{ExpectedEq, ExpectedValue, UnquotedValue, ExpectedQuote, Duplicated, KeyTableFull, BadState}
use Rattle.tag_step.specs.Read.{span}
use Rattle.tag_step.specs.Numbers.{numbers_of, numbered_step}

-- the answer with the number n and the values a, b, c, d
answer_by : ℕ → ℕ → ℕ → ℕ → ℕ → Answer
answer_by n a b c d =
    pick (eqb n 101) (Some (Ok (DoubleQ (span a b) (span c d))))
    (pick (eqb n 102) (Some (Ok (SingleQ (span a b) (span c d))))
    (pick (eqb n 103) (Some (Ok (Unquoted (span a b) (span c d))))
    (pick (eqb n 104) (Some (Ok (Empty (span a b))))
    (pick (eqb n 1) (Some (Err (ExpectedEq a)))
    (pick (eqb n 2) (Some (Err (ExpectedValue a)))
    (pick (eqb n 3) (Some (Err (UnquotedValue a)))
    (pick (eqb n 4) (Some (Err (ExpectedQuote a b)))
    (pick (eqb n 5) (Some (Err (Duplicated a b)))
    (pick (eqb n 6) (Some (Err (KeyTableFull a)))
    (pick (eqb n 7) (Some (Err BadState)) None))))))))))

answer_of : List ℕ → Answer
answer_of l = answer_by (get_or l 0 0) (get_or l 1 0) (get_or l 2 0) (get_or l 3 0) (get_or l 4 0)

read_back : (a : Answer) → answer_of (numbers_of a) ≡ a
unfolding numbers_of answer_of answer_by
read_back None = refl
read_back (Some (Ok (DoubleQ k v))) = refl
read_back (Some (Ok (SingleQ k v))) = refl
read_back (Some (Ok (Unquoted k v))) = refl
read_back (Some (Ok (Empty k))) = refl
read_back (Some (Err (ExpectedEq p))) = refl
read_back (Some (Err (ExpectedValue l))) = refl
read_back (Some (Err (UnquotedValue p))) = refl
read_back (Some (Err (ExpectedQuote l q))) = refl
read_back (Some (Err (Duplicated this earlier))) = refl
read_back (Some (Err (KeyTableFull this))) = refl
read_back (Some (Err BadState)) = refl

pub numbers_apart : (a b : Answer) → numbers_of a ≡ numbers_of b → a ≡ b
numbers_apart a b e = sym (read_back a) ∙ ap answer_of e ∙ read_back b

-- and with them the state, what a step hands back
abbrev step_to : Answer → IterState → Step
step_to a st = record { answer = a; state = st }

pub step_apart : (x y : Step) → numbered_step x ≡ numbered_step y → x ≡ y
step_apart x y e =
    ap (λ (a : Answer). step_to a x.state) (numbers_apart x.answer y.answer (ap (λ (z : List ℕ × IterState). z.0) e))
    ∙ ap (step_to y.answer) (ap (λ (z : List ℕ × IterState). z.1) e)
