-- A call across the boundary is the call on lent memory, with its head and its answer's numbers written.
use Prim.Native.Nat.{ℕ}
use mathlib.Core.Path.{◌≡◌, ap, ◌∙◌}
use mathlib.Core.List.{List, []}
use lib.ListN.{set}
use Rattle.scope_table.specs.Answer.{told_of, change_numbers}
use Rattle.scope_table.specs.Lent.{Given, given}
use Rattle.scope_table.specs.declared.Head.{Head}
use Rattle.scope_table.specs.declared.Outcome.{Outcome}
use Rattle.scope_table.specs.declared.Told.{Told}
use Rattle.export_memory.specs.Boundary.{head_in, head_after, code_of, detail_after, crossed, crossed_of, change_in, Asked, asked, ask_in}

-- the numbers of an answer, as they are written
pub told_is : (numbers detail : List ℕ) (told : Told) → told ≡ told_of numbers → asked told.number (set (set detail 0 told.first) 1 told.second) ≡ ask_in numbers detail
unfolding ask_in code_of detail_after
told_is numbers detail told e = ap (λ (x : Told). asked x.number (set (set detail 0 x.first) 1 x.second)) e

-- calls that have no detail
pub none_told : (numbers : List ℕ) (r : ℕ) → r ≡ code_of numbers → asked r [] ≡ ask_in numbers []
unfolding ask_in detail_after
none_told numbers r e = ap (λ (k : ℕ). asked k []) e

-- what was made is what is to be left
pub change_made : (call : (text records : List ℕ) → Head → Given) (text records head detail : List ℕ) (h : Head) (out : Outcome) (text' records' head' : List ℕ) (r : ℕ) (detail' : List ℕ) →
    h ≡ head_in head →
    given out.answer text' records' out.head ≡ call text records h →
    asked r detail' ≡ ask_in (change_numbers out.answer) detail → head' ≡ head_after head out.head →
    crossed r text' records' head' detail' ≡ change_in call text records head detail
unfolding change_in crossed_of ask_in
change_made call text records head detail h out text' records' head' r detail' read made told left =
    ap (λ (x : Asked). crossed x.result text' records' head' x.detail) told
    ∙ ap (λ (x : List ℕ). crossed (code_of (change_numbers out.answer)) text' records' x (detail_after (change_numbers out.answer) detail)) left
    ∙ ap (crossed_of head detail) (made ∙ ap (call text records) read)
