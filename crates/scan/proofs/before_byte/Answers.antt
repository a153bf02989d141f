-- `scan::before_byte` meets its contract: the word trick, with the code's own numbers.
use Prim.Native.Nat.{ℕ, ◌<◌}
use native.Mathlib.Omega.{arith}
use lib.ListN.{get_or}
use Rattle.scan.proofs.Second.{marked_first}
use Rattle.scan.proofs.before_byte.Goals as goal

pub returns : goal.returns
returns c =
    let a = c.args in
    let f : ℕ → ℕ = λ k. get_or a.tag.now k 0 in
    let small : (k : ℕ) → f k < 256 = λ k. omega (arith, c.type_inv.tag k) in
    let b : a.b < 256 = omega arith in (
      marked_first f a.b small b _ _ a.i c.marks_of.ensures c.eighth.ensures.0,
      c.eighth.ensures.1,
    )
