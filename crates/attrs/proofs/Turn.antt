-- One turn of counting: a batch of 256 answers, full or the last.
use Prim.Native.Nat.{ℕ, suc, ◌+◌, ◌≤◌}
use mathlib.Core.Path.{◌≡◌, ap, ◌∙◌}
use mathlib.Core.List.{List}
use native.Mathlib.Omega.{arith}
use lib.ListN.{length, length-append}
use Rattle.tag_step.specs.declared.IterState.{IterState}
use Rattle.tag_step.specs.Run.{run_of}
use Rattle.tag_batch.specs.Batch.{answers_room}
use Rattle.lines.proofs.Batches.{Stand, run_most, run_bound}

pub room : (out first : List ℕ) → length out ≡ length first → answers_room first ≡ 256 → answers_room out ≡ 256
unfolding answers_room
room out first e h = rw e h

pub full : (s : List ℕ) (st : IterState) (out first : List ℕ) {n : ℕ} → length out ≡ length first → answers_room first ≡ 256 → n ≡ length (run_of (answers_room out) s st) → 256 ≤ n → length (run_of (answers_room out) s st) ≡ answers_room out
full s st out first e h en le = omega (arith, run_most (answers_room out) s st, room out first e h)

-- the count stays within the length and one
pub total_fits : (s : List ℕ) (first : IterState) (n : ℕ) (st : IterState) → Stand s first n st → (m : ℕ) → n + length (run_of m s st) ≤ suc (length s)
total_fits s first n st a m =
    let b = run_bound (n + m) s first a.begun in
    let e = ap length (a.on m) ∙ length-append (run_of n s first) (run_of m s st) in
    omega (arith, a.many)
