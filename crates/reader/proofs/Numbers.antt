-- The numbers of a piece, a finish or an answer tell all cases apart, so that a contract by them says which it is.
use Prim.Native.Nat.{ℕ}
use mathlib.Core.Path.{◌≡◌, refl, sym, ap, ◌∙◌}
use mathlib.Core.List.{List}
use native.Mathlib.Omega.{arith}
use lib.Dec.{eqb}
use lib.ListN.{length, get_or}
use Rattle.std.specs.Prelude.{None, Some, Ok, Err, Option, Result}
use Rattle.scan.specs.First.{pick}
use Rattle.tag_step.specs.Answer.{Answer}
use Rattle.tag_step.specs.declared.Attr.TheVariants.{DoubleQ, SingleQ, Unquoted, Empty}
use Rattle.tag_step.specs.declared.AttrError.TheVariants.{ExpectedEq, ExpectedValue, UnquotedValue, ExpectedQuote, Duplicated, KeyTableFull, BadState}
use Rattle.tag_step.specs.Numbers.{numbers_of}
use Rattle.tag_step.proofs.Numbers.{numbers_apart}
use Rattle.tag_pieces.specs.declared.Reader.{Reader}
use Rattle.tag_pieces.specs.declared.FeedError.{FeedError}
use Rattle.tag_pieces.specs.declared.FeedError.TheVariants.{Finished, TooLong, LendMore}
use Rattle.tag_pieces.specs.declared.Feeding.{Feeding}
use Rattle.tag_pieces.specs.declared.MoreKeys.{MoreKeys}
use Rattle.tag_pieces.specs.declared.Take.{Take}
use Rattle.tag_pieces.specs.Reader.{fed_number, feeding, took}
use Rattle.reader.specs.Numbers.{numbered_feeding, taken_numbers, numbered_take}

-- what a number says of a piece or a finish
fed_by : ℕ → Result (Unit {0}) FeedError
fed_by n = pick (eqb n 0) (Ok tt) (pick (eqb n 32) (Err Finished) (pick (eqb n 31) (Err TooLong) (Err LendMore)))

fed_back : (x : Result (Unit {0}) FeedError) → fed_by (fed_number x) ≡ x
unfolding fed_number fed_by
fed_back (Ok u) = refl
fed_back (Err Finished) = refl
fed_back (Err TooLong) = refl
fed_back (Err LendMore) = refl

pub feeding_apart : (x y : Feeding) → numbered_feeding x ≡ numbered_feeding y → x ≡ y
feeding_apart x y e =
    ap (λ (a : Result (Unit {0}) FeedError). feeding a x.reader) (sym (fed_back x.fed) ∙ ap (λ (z : ℕ × Reader). fed_by z.0) e ∙ fed_back y.fed)
    ∙ ap (λ (z : ℕ × Reader). feeding y.fed z.1) e

-- no numbers, 98, or those of an answer
kind_of : List ℕ → ℕ
kind_of l = pick (eqb (length l) 0) 0 (pick (eqb (get_or l 0 0) 98) 1 2)

answer_kind : (a : Answer) → kind_of (numbers_of a) ≡ 2
unfolding kind_of numbers_of
answer_kind None = refl
answer_kind (Some (Ok (DoubleQ k v))) = refl
answer_kind (Some (Ok (SingleQ k v))) = refl
answer_kind (Some (Ok (Unquoted k v))) = refl
answer_kind (Some (Ok (Empty k))) = refl
answer_kind (Some (Err (ExpectedEq p))) = refl
answer_kind (Some (Err (ExpectedValue l))) = refl
answer_kind (Some (Err (UnquotedValue p))) = refl
answer_kind (Some (Err (ExpectedQuote l q))) = refl
answer_kind (Some (Err (Duplicated this earlier))) = refl
answer_kind (Some (Err (KeyTableFull this))) = refl
answer_kind (Some (Err BadState)) = refl

more_kind : kind_of (taken_numbers (Ok None)) ≡ 0
unfolding kind_of taken_numbers
more_kind = refl

keys_kind : kind_of (taken_numbers (Err (record {}))) ≡ 1
unfolding kind_of taken_numbers
keys_kind = refl

taken_apart : (x y : Result (Option Answer) MoreKeys) → taken_numbers x ≡ taken_numbers y → x ≡ y
unfolding taken_numbers
taken_apart (Ok None) (Ok None) e = refl
taken_apart (Ok None) (Ok (Some b)) e = absurd (omega (arith, sym more_kind ∙ ap kind_of e ∙ answer_kind b))
taken_apart (Ok None) (Err m) e = absurd (omega (arith, sym more_kind ∙ ap kind_of e ∙ keys_kind))
taken_apart (Ok (Some a)) (Ok None) e = absurd (omega (arith, sym (answer_kind a) ∙ ap kind_of e ∙ more_kind))
taken_apart (Ok (Some a)) (Ok (Some b)) e = ap (λ (x : Answer). Ok (Some x)) (numbers_apart a b e)
taken_apart (Ok (Some a)) (Err m) e = absurd (omega (arith, sym (answer_kind a) ∙ ap kind_of e ∙ keys_kind))
taken_apart (Err m) (Ok None) e = absurd (omega (arith, sym keys_kind ∙ ap kind_of e ∙ more_kind))
taken_apart (Err m) (Ok (Some b)) e = absurd (omega (arith, sym keys_kind ∙ ap kind_of e ∙ answer_kind b))
taken_apart (Err m) (Err n) e = refl

pub take_apart : (x y : Take) → numbered_take x ≡ numbered_take y → x ≡ y
take_apart x y e =
    ap (λ (a : Result (Option Answer) MoreKeys). took a x.reader) (taken_apart x.taken y.taken (ap (λ (z : List ℕ × Reader). z.0) e))
    ∙ ap (λ (z : List ℕ × Reader). took y.taken z.1) e
