-- The laws of a record of a name: where the declared prefix starts, the record at the front, and what it passes.
use Prim.Native.Nat.{ℕ, ◌+◌, ◌-◌, ◌≤◌, ◌<◌}
use mathlib.Core.Path.{◌≡◌, sym, ap, ◌∙◌}
use mathlib.Core.Bool.{Bool}
use mathlib.Core.List.{List}
use native.Mathlib.Omega.{arith}
use lib.ListN.{length, take, drop}
use lib.Dec.{eqb, ltb}
use borrow.Author.Tests.{lt-ltb, le-ltb, ltb-false, eq-eqb, ne_eqb}
use Rattle.scan.specs.First.{pick}
use Rattle.scan.specs.Bytes.{part}
use Rattle.scan.proofs.Lists.{to_end}
use Rattle.name.specs.Declares.{declares_of, declares_number, declared_prefix}
use Rattle.replay.specs.Run.{agrees, differs, cut}
use Rattle.replay.specs.Numbers.{two_at}
use Rattle.replay.proofs.Turns.{Passes, passes_agrees, passes_differs, passes_cut, passes_pick}
use Rattle.replay_names.specs.Replay.{start_number, name_agrees, name_record_of}

-- a test of the code with a number, and what that number is
pub told : (a : ℕ) {b : Bool} {n m : ℕ} → b ≡ eqb a n → n ≡ m → eqb a m ≡ b
told a e f = sym (e ∙ ap (eqb a) f)

-- where the declared prefix starts
module _ (name : List ℕ) {n : ℕ} (e : n ≡ declares_number (declares_of name)) where
  pub start_none : (n ≡ 2 → ⊥) → 0 ≡ start_number name
  unfolding start_number
  start_none h = rw (← e, ne_eqb n 2 h)

  pub start_at_lem : n ≡ 2 → length name - length (declared_prefix name) ≡ start_number name
  unfolding start_number
  start_at_lem h = rw (← e, eq-eqb n 2 h)

-- the record at the front
module _ (rest : List ℕ) where
  pub too_few : length rest < 9 → cut ≡ name_record_of rest
  unfolding name_record_of
  too_few h = rw (lt-ltb (length rest) 9 h)

  pub name_cut : {n : ℕ} → 9 ≤ length rest → n ≡ two_at rest 0 → length rest - 9 < n → cut ≡ name_record_of rest
  unfolding name_record_of
  name_cut {n} a e b = rw (le-ltb (length rest) 9 a, ← e, lt-ltb (length rest - 9) n b)

  pub whole : {n : ℕ} {t : Bool} → 9 ≤ length rest → n ≡ two_at rest 0 → n ≤ length rest - 9 → t ≡ name_agrees (take (2 + n - 2) (drop 2 rest)) (take (length rest - (2 + n)) (drop (2 + n) rest)) → pick t (agrees (9 + n) 0 0) differs ≡ name_record_of rest
  unfolding name_record_of part
  whole {n} {t} a e b h =
      let g = rw (to_end (2 + n) rest) at h in
      rw (le-ltb (length rest) 9 a, ← e, le-ltb (length rest - 9) n b, ← g)

-- A record that agrees has at least nine bytes, and they are all there.
pub passes : (rest : List ℕ) → Passes (name_record_of rest) (length rest)
unfolding name_record_of
passes rest =
    passes_pick (ltb (length rest) 9) (λ t. passes_cut) (λ t.
    passes_pick (ltb (length rest - 9) (two_at rest 0)) (λ u. passes_cut) (λ u.
    passes_pick (name_agrees (part rest 2 (2 + two_at rest 0)) (drop (2 + two_at rest 0) rest)) (λ v.
    (let a = ltb-false (length rest) 9 t in
    let b = ltb-false (length rest - 9) (two_at rest 0) u in
    passes_agrees (omega arith) (omega arith) (omega arith) (omega arith))) (λ v. passes_differs)))
