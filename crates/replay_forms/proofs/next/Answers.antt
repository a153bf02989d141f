-- The numbers of an answer tell it apart, and the state is the one that the iterator is left in.
use Rattle.std.proofs.Common.{◌≡◌, ap, ◌∙◌}
use Rattle.tag_step.specs.Answer.{Answer}
use Rattle.tag_step.specs.declared.Step.{Step}
use Rattle.tag_step.specs.Next.{next_of}
use Rattle.tag_step.specs.Numbers.{numbers_of}
use Rattle.tag_step.proofs.Numbers.{numbers_apart}
use Rattle.tag_carried.specs.declared.Attributes.{Attributes}
use Rattle.tag_carried.specs.Held.{answer_of, after_next}
use Rattle.replay_forms.proofs.next.Goals as goal

abbrev stepped : Answer → Attributes → Step
stepped a it = record { answer = a; state = it.state }

told : (a : Answer) (it left : Attributes) → numbers_of a ≡ numbers_of (answer_of it) → left ≡ after_next it → stepped a left ≡ next_of it.tag.now it.state
told a it left e f = ap (stepped a) f ∙ ap (λ (b : Answer). stepped b (after_next it)) (numbers_apart a (answer_of it) e)

pub returns : goal.returns
returns c = told _ _ _ c.next-answer.ensures.0 c.next-answer.ensures.1
