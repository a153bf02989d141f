-- `has_nil` as a question about all answers: it is a yes exactly if one of them is what it looks for.
use Prim.Native.Nat.{ℕ, zero, suc}
use mathlib.Core.Path.{◌≡◌, refl, sym, ap, ◌∙◌}
use mathlib.Core.Bool.{Bool, true, false, ◌||◌}
use mathlib.Core.List.{List, [], ◌∷◌}
use native.Mathlib.Numerals.{add-one}
use lib.ListN.{length}
use Rattle.std.specs.Prelude.{Result, Ok}
use Rattle.scan.specs.First.{pick}
use Rattle.tag_step.specs.Answer.{Answer}
use Rattle.tag_step.specs.declared.IterState.{IterState}
use Rattle.tag_step.specs.Next.{state_good, next_of}
use Rattle.tag_step.specs.Run.{is_end, cons_unless, run_of, answers_of}
use Rattle.tag_step.proofs.Good.{Sized}
use Rattle.tag_step.proofs.Run.{run_whole}
use Rattle.scope_table.specs.Table.{valid_of}
use Rattle.scope_table.specs.declared.NamespaceResolver.{NamespaceResolver}
use Rattle.scope_nil.specs.declared.NilError.{NilError}
use Rattle.scope_nil.specs.declared.HasNil.{HasNil}
use Rattle.scope_nil.specs.Nil.{said, says_nil, search_of, searched, has_nil_of}
use Rattle.scope_nil.proofs.Turns.{has_search}

-- whether one of the answers is what is looked for
unfoldable pub any_nil : NamespaceResolver → (tag : List ℕ) → List Answer → Bool
any_nil x s [] = false
any_nil x s (a ∷ more) = says_nil x s a || any_nil x s more

abbrev pub yes_or_no : Bool → Result Bool NilError
yes_or_no b = pick b (Ok true) (Ok false)

-- one answer, whether it is the end (t) and what is looked for (p), before what a search finds later
among_by : (x : NamespaceResolver) (s : List ℕ) (a : Answer) (t p : Bool) (after : IterState) (later : HasNil) (more : List Answer) → says_nil x s a ≡ p → later.answer ≡ yes_or_no (any_nil x s more) → (pick t (said (Ok false) after) (pick p (said (Ok true) after) later)).answer ≡ yes_or_no (any_nil x s (cons_unless t a more))
unfolding any_nil cons_unless
among_by x s a true p after later more e h = refl
among_by x s a false true after later more e h = rw e
among_by x s a false false after later more e h = rw e h

among : (n : ℕ) (x : NamespaceResolver) (s : List ℕ) (st : IterState) → (search_of n x s st).answer ≡ yes_or_no (any_nil x s (run_of n s st))
unfolding search_of run_of any_nil
among zero x s st = refl
among (suc n) x s st =
    let y = next_of s st in
    among_by x s y.answer (is_end y.answer) (says_nil x s y.answer) y.state (search_of n x s y.state) (run_of n s y.state) refl (among n x s y.state)

-- Of a resolver and an iterator that are not refused, `has_nil` says yes exactly if an answer of the run does.
pub nil_among_answers : (s : List ℕ) (st : IterState) (x : NamespaceResolver) → valid_of x ≡ true → Sized st → state_good s st ≡ true → (has_nil_of s st x).answer ≡ yes_or_no (any_nil x s (answers_of s st))
unfolding searched
nil_among_answers s st x v z g =
    ap (λ (h : HasNil). h.answer) (sym (has_search s st x v (searched x s st) refl g))
    ∙ among (suc (suc (length s))) x s st
    ∙ ap (λ (n : ℕ). yes_or_no (any_nil x s (run_of n s st))) (sym (add-one (suc (length s))))
    ∙ ap (λ (l : List Answer). yes_or_no (any_nil x s l)) (run_whole 1 s st z)
