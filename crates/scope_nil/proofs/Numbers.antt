-- The numbers of the answers tell all cases apart: each can be read back from its own.
use Prim.Native.Nat.{ℕ}
use mathlib.Core.Bool.{Bool, true, false}
use mathlib.Core.Path.{◌≡◌, refl, sym, ap, ◌∙◌}
use lib.Dec.{eqb}
use Rattle.std.specs.Prelude.{Result, Ok, Err}
use Rattle.scan.specs.First.{pick}
use Rattle.tag_step.specs.declared.IterState.{IterState}
use Rattle.scope_nil.specs.declared.NilError.{NilError}
use Rattle.scope_nil.specs.declared.HasNil.{HasNil}
use Rattle.scope_nil.specs.Nil.{nil_number, said, numbered_nil}

nil_by : ℕ → Result Bool NilError
nil_by n =
    pick (eqb n 1) (Ok true)
    (pick (eqb n 7) (Err NilError.BadState)
    (pick (eqb n 20) (Err NilError.BadResolver)
    (pick (eqb n 98) (Err NilError.LendMore)
    (pick (eqb n 99) (Err NilError.WrongLength) (Ok false)))))

nil_back : (a : Result Bool NilError) → nil_by (nil_number a) ≡ a
unfolding nil_by
nil_back (Ok true) = refl
nil_back (Ok false) = refl
nil_back (Err NilError.BadState) = refl
nil_back (Err NilError.BadResolver) = refl
nil_back (Err NilError.LendMore) = refl
nil_back (Err NilError.WrongLength) = refl

pub nil_apart : (a b : Result Bool NilError) → nil_number a ≡ nil_number b → a ≡ b
nil_apart a b e = sym (nil_back a) ∙ ap nil_by e ∙ nil_back b

-- and with them the iterator, what a search hands back
pub search_apart : (g h : HasNil) → numbered_nil g ≡ numbered_nil h → g ≡ h
search_apart g h e =
    ap (λ (a : Result Bool NilError). said a g.state) (nil_apart g.answer h.answer (ap (λ (x : ℕ × IterState). x.0) e))
    ∙ ap (said h.answer) (ap (λ (x : ℕ × IterState). x.1) e)
