-- `scan::marks_of` meets its contract: the word trick marks each equal byte.
use Prim.Native.Nat.{ℕ, ◌<◌}
use native.Mathlib.Omega.{arith}
use lib.ListN.{get_or}
use Rattle.scan.proofs.Second.{word_marks}
use Rattle.scan.proofs.marks_of.Goals as goal

pub returns : goal.returns
returns c =
    let a = c.args in
    let f : ℕ → ℕ = λ k. get_or a.tag.now k 0 in
    let small : (k : ℕ) → f k < 256 = λ k. omega (arith, c.type_inv.tag k) in
    let b : a.b < 256 = omega arith in
    rw (c.zero_marks.ensures, c.word.ensures, c.in_each_byte.ensures) (word_marks f a.b small b a.i)
