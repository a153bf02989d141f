-- The first numbers of a record: how many they are, each by its place, and those behind the first ones.
use Prim.Native.Nat.{ℕ, zero, suc, ◌+◌, ◌*◌, ◌<◌}
use mathlib.Core.Path.{◌≡◌, refl, ap, ◌∙◌}
use mathlib.Core.List.{List, ◌++◌}
use native.Mathlib.Omega.{arith}
use lib.ListN.{length, drop, get_or}
use lib.Seq.{drop-drop, get_or-drop}
use Rattle.replay.specs.Numbers.{two_at, twos_of}

pub twos_length : (n : ℕ) (l : List ℕ) → length (twos_of n l) ≡ n
unfolding twos_of
twos_length zero l = refl
twos_length (suc n) l = ap suc (twos_length n (drop 2 l))

pub twos_at : (n : ℕ) (l : List ℕ) (i : ℕ) → i < n → get_or (twos_of n l) i 0 ≡ two_at l (2 * i)
unfolding twos_of
twos_at zero l i h = absurd (omega arith)
twos_at (suc n) l zero h = refl
twos_at (suc n) l (suc i) h =
    let a : 2 + 2 * i ≡ 2 * suc i = omega arith in
    let b : 2 + (2 * i + 1) ≡ 2 * suc i + 1 = omega arith in
    twos_at n (drop 2 l) i (omega arith) ∙ rw (get_or-drop 2 l (2 * i) 0, get_or-drop 2 l (2 * i + 1) 0, a, b)

pub twos_add : (n m : ℕ) (l : List ℕ) → twos_of (n + m) l ≡ twos_of n l ++ twos_of m (drop (2 * n) l)
unfolding twos_of
twos_add zero m l =
    let e : 0 + m ≡ m = omega arith in
    rw e
twos_add (suc n) m l =
    let e : suc n + m ≡ suc (n + m) = omega arith in
    let d : 2 + 2 * n ≡ 2 * suc n = omega arith in
    rw (e, twos_add n m (drop 2 l), drop-drop (2 * n) 2 l, d)
