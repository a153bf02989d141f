-- `scan::alike` meets its contract: two words, and the trailing zeros of what differs.
use Prim.Native.Nat.{ℕ, ◌<◌}
use native.Mathlib.Omega.{arith}
use lib.ListN.{get_or}
use Rattle.scan.proofs.Words.{eight_alike}
use Rattle.scan.proofs.alike.Goals as goal

pub returns : goal.returns
returns c =
    let a = c.args in
    let f : ℕ → ℕ = λ k. get_or a.x.now k 0 in
    let g : ℕ → ℕ = λ k. get_or a.y.now k 0 in
    let sf : (k : ℕ) → f k < 256 = λ k. omega (arith, c.type_inv.x k) in
    let sg : (k : ℕ) → g k < 256 = λ k. omega (arith, c.type_inv.y k) in
    rw (c.eighth.ensures.0, c.word.ensures, c.word-2.ensures) (eight_alike f g sf sg a.i 0)
