-- What a cut leaves: the part before it stays. Lists that have the same up to a place, and zeros after it, are the same.
use Prim.Native.Nat.{ℕ, ◌-◌, ◌≤◌}
use mathlib.Core.Path.{◌≡◌, sym, ◌∙◌}
use mathlib.Core.Bool.{true}
use mathlib.Core.List.{List}
use native.Mathlib.Omega.{arith}
use lib.ListN.{length, take, drop, replicate}
use lib.Seq.{length-take-le, take-append-le, take-take, drop_at}
use Rattle.scope_table.specs.Lists.{all_zero, cut}
use Rattle.scope_table.proofs.Lists.{cut_zeros}
use Rattle.scope_table.proofs.Pad.{zeros_all}

module _ (t : List ℕ) (n : ℕ) (h : n ≤ length t) where
  pub take_of_cut : (j : ℕ) → j ≤ n → take j (cut t n) ≡ take j t
  unfolding cut
  take_of_cut j i =
      let l = length-take-le n t h in
      take-append-le j (take n t) (replicate (length t - n) 0) (omega arith) ∙ take-take j n t i

  pub cut_rest : all_zero (drop n (cut t n)) ≡ true
  unfolding cut
  cut_rest = rw (drop_at (take n t) (replicate (length t - n) 0) n (length-take-le n t h)) (zeros_all (length t - n))

cut_same : (n : ℕ) (l m : List ℕ) → take n l ≡ take n m → length l ≡ length m → cut l n ≡ cut m n
unfolding cut
cut_same n l m e f = rw (e, f)

pub all_same : (n : ℕ) (l m : List ℕ) → take n l ≡ take n m → length l ≡ length m → all_zero (drop n l) ≡ true → all_zero (drop n m) ≡ true → l ≡ m
all_same n l m e f zl zm = sym (cut_zeros l n zl) ∙ cut_same n l m e f ∙ cut_zeros m n zm
