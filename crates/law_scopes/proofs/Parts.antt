-- What was written into a text is read back.
use Prim.Native.Nat.{ℕ, ◌+◌, ◌-◌, ◌≤◌}
use mathlib.Core.Path.{◌≡◌, ap, ◌∙◌}
use mathlib.Core.List.{List, ◌++◌, append_assoc}
use native.Mathlib.Omega.{arith}
use lib.ListN.{length, take, drop}
use lib.Seq.{drop_at, drop-drop, take-append_seam, drop-append_seam, length-take-le}
use Rattle.scan.specs.Bytes.{part}
use Rattle.scan.specs.Lists.{over}

-- A prefix and a value written one after the other.
module _ (t : List ℕ) (n : ℕ) (p v : List ℕ) (h : n ≤ length t) where
  rest : List ℕ
  rest = drop (n + length (p ++ v)) t

  written : drop n (over t n (p ++ v)) ≡ p ++ (v ++ rest)
  unfolding over rest
  written =
      ap (drop n) (append_assoc (take n t) (p ++ v) rest) ∙ drop_at (take n t) ((p ++ v) ++ rest) n (length-take-le n t h)
      ∙ append_assoc p v rest

  pub prefix_back : part (over t n (p ++ v)) n (n + length p) ≡ p
  unfolding part
  prefix_back =
      let e : n + length p - n ≡ length p = omega arith in
      rw (e, written) (take-append_seam p (v ++ rest))

  pub value_back : part (over t n (p ++ v)) (n + length p) (n + length p + length v) ≡ v
  unfolding part
  value_back =
      let e : n + length p + length v - (n + length p) ≡ length v = omega arith in
      rw (e, ← drop-drop (length p) n (over t n (p ++ v)), written, drop-append_seam p (v ++ rest)) (take-append_seam v rest)
