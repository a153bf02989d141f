-- The laws of a record of a tag: the record at the front, and what it passes.
use Prim.Native.Nat.{ℕ, ◌+◌, ◌-◌, ◌*◌, ◌/◌, ◌≤◌, ◌<◌}
use mathlib.Core.Path.{◌≡◌, sym, ◌∙◌}
use mathlib.Core.Bool.{Bool}
use mathlib.Core.List.{List}
use native.Mathlib.Omega.{arith}
use lib.ListN.{length, take, drop, get_or, length-drop}
use lib.Dec.{eqb, ltb}
use borrow.Author.Tests.{lt-ltb, le-ltb, ltb-false}
use Rattle.scan.specs.First.{pick}
use Rattle.scan.specs.Bytes.{part}
use Rattle.scan.proofs.Lists.{to_end}
use Rattle.tag_step.specs.Next.{opened}
use Rattle.replay.specs.Run.{agrees, differs, cut}
use Rattle.replay.specs.Numbers.{two_at}
use Rattle.replay.proofs.Turns.{Passes, passes_agrees, passes_differs, passes_cut, passes_pick}
use Rattle.replay_tags.specs.Replay.{answers_agree, tail_agrees, tail_of, tag_record_of}

-- the record at the front
module _ (rest : List ℕ) where
  pub too_few : length rest < 8 → cut ≡ tag_record_of rest
  unfolding tag_record_of
  too_few h = rw (lt-ltb (length rest) 8 h)

  module _ {n : ℕ} (a : 8 ≤ length rest) (e : n ≡ two_at rest 0) where
    pub tag_cut : length rest - 8 < n → cut ≡ tag_record_of rest
    unfolding tag_record_of
    tag_cut b = rw (le-ltb (length rest) 8 a, ← e, lt-ltb (length rest - 8) n b)

    module _ (b : n ≤ length rest - 8) {tail : List ℕ} (et : tail ≡ take (length rest - (2 + n)) (drop (2 + n) rest)) {k : ℕ} (ek : k ≡ two_at tail 4) where
      is_tail : tail ≡ drop (2 + n) rest
      is_tail = et ∙ to_end (2 + n) rest

      opens : tag_record_of rest ≡ tail_of rest n tail
      unfolding tag_record_of
      opens = rw (le-ltb (length rest) 8 a, ← e, le-ltb (length rest - 8) n b, is_tail)

      pub answers_cut : (length tail - 6) / 10 < k → cut ≡ tag_record_of rest
      unfolding tail_of
      answers_cut h = sym (opens ∙ rw (← ek, lt-ltb ((length tail - 6) / 10) k h))

      pub whole : {t html checks : Bool} {o : ℕ} {recorded : List ℕ} → k ≤ (length tail - 6) / 10 → html ≡ eqb (get_or tail 0 0) 1 → checks ≡ eqb (get_or tail 1 0) 1 → o ≡ two_at tail 2 → recorded ≡ take (length tail - 6) (drop 6 tail) → t ≡ answers_agree (take (2 + n - 2) (drop 2 rest)) (opened o html checks) k recorded → pick t (agrees (8 + n + 10 * k) 0 0) differs ≡ tag_record_of rest
      unfolding tail_of tail_agrees part
      whole {t} {html} {checks} {o} {recorded} h eh ec eo er et' =
          let er' = er ∙ to_end 6 tail in
          let g : t ≡ answers_agree (take (2 + n - 2) (drop 2 rest)) (opened (two_at tail 2) (eqb (get_or tail 0 0) 1) (eqb (get_or tail 1 0) 1)) (two_at tail 4) (drop 6 tail) = et' ∙ rw (eh, ec, eo, er', ek) in
          sym (opens ∙ rw (← g, ← ek, le-ltb ((length tail - 6) / 10) k h))

-- A record that agrees has at least eight bytes, and they are all there.
pub passes : (rest : List ℕ) → Passes (tag_record_of rest) (length rest)
unfolding tag_record_of tail_of
passes rest =
    let n = two_at rest 0 in
    let tail = drop (2 + n) rest in
    passes_pick (ltb (length rest) 8) (λ t. passes_cut) (λ t.
    passes_pick (ltb (length rest - 8) n) (λ u. passes_cut) (λ u.
    passes_pick (ltb ((length tail - 6) / 10) (two_at tail 4)) (λ v. passes_cut) (λ v.
    passes_pick (tail_agrees (part rest 2 (2 + n)) tail) (λ w.
    (let a = ltb-false (length rest) 8 t in
    let b = ltb-false (length rest - 8) n u in
    let c = ltb-false ((length tail - 6) / 10) (two_at tail 4) v in
    let d = length-drop (2 + n) rest in
    passes_agrees (omega arith) (omega arith) (omega arith) (omega arith))) (λ w. passes_differs))))
