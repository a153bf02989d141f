-- Where a list stands at position n in w and then r: how to move past w, which bytes stand there, and where a scan stops.
use Prim.Native.Nat.{ℕ, zero, suc, ◌+◌, ◌-◌, ◌≤◌, ◌<◌}
use mathlib.Core.Path.{◌≡◌, sym, ap, subst, ◌∙◌}
use mathlib.Core.Bool.{Bool, true, false, false≢true}
use mathlib.Core.List.{List, [], ◌∷◌, ◌++◌}
use native.Mathlib.Nat.{add-zero, le_of_suc-le-suc}
use native.Mathlib.Omega.{arith}
use lib.ListN.{length, get_or, drop, length-append, length-drop, get_or-append}
use lib.Seq.{drop-drop, get_or-drop, get_or-append-add, take-append_seam, drop-append_seam}
use Rattle.scan.specs.First.{first_from}
use Rattle.scan.specs.Bytes.{part}
use Rattle.scan.proofs.Laws.{first, first_only}
use Rattle.scan.proofs.Bytes.{both}
use Rattle.law_wellformed.specs.Grammar.{each, some}

-- no byte of w passes p
abbrev pub Fails : (ℕ → Bool) → List ℕ → Type 0
Fails p w = (k : ℕ) → k < length w → p (get_or w k 0) ≡ false

-- what passes q fails p
pub each_fails : (p q : ℕ → Bool) → ((b : ℕ) → q b ≡ true → p b ≡ false) → (w : List ℕ) → each q w ≡ true → Fails p w
unfolding each
each_fails p q f [] h k lt = absurd (omega arith)
each_fails p q f (x ∷ xs) h zero lt = f x (both (q x) (each q xs) h).0
each_fails p q f (x ∷ xs) h (suc k) lt = each_fails p q f xs (both (q x) (each q xs) h).1 k (le_of_suc-le-suc lt)

module _ (p : ℕ → Bool) (w : List ℕ) where
  -- a nonempty run has bytes, and its first one passes
  pub some_each : some p w ≡ true → each p w ≡ true
  unfolding some each
  some_each = by w where
    by : (u : List ℕ) → some p u ≡ true → each p u ≡ true
    by [] h = absurd (false≢true h)
    by (x ∷ xs) h = h

  pub some_length : some p w ≡ true → 0 < length w
  unfolding some
  some_length = by w where
    by : (u : List ℕ) → some p u ≡ true → 0 < length u
    by [] h = absurd (false≢true h)
    by (x ∷ xs) h = omega arith

  pub some_first : some p w ≡ true → p (get_or w 0 0) ≡ true
  unfolding some
  some_first = by w where
    by : (u : List ℕ) → some p u ≡ true → p (get_or u 0 0) ≡ true
    by [] h = absurd (false≢true h)
    by (x ∷ xs) h = (both (p x) (each p xs) h).0

module _ (s : List ℕ) (n : ℕ) (w r : List ℕ) (here : drop n s ≡ w ++ r) where
  pub move : drop (n + length w) s ≡ r
  move = sym (drop-drop (length w) n s) ∙ ap (λ (l : List ℕ). drop (length w) l) here ∙ drop-append_seam w r

  pub part_is : part s n (n + length w) ≡ w
  unfolding part
  part_is =
      let e : n + length w - n ≡ length w = omega arith in
      rw (e, here) (take-append_seam w r)

  pub word_at : (k : ℕ) → k < length w → get_or s (n + k) 0 ≡ get_or w k 0
  word_at k h = sym (get_or-drop n s k 0) ∙ ap (λ (l : List ℕ). get_or l k 0) here ∙ get_or-append w r 0 k h

  pub rest_at : get_or s (n + length w) 0 ≡ get_or r 0 0
  rest_at =
      sym (get_or-drop n s (length w) 0)
      ∙ ap (λ (l : List ℕ). get_or l (length w) 0) here
      ∙ ap (λ (k : ℕ). get_or (w ++ r) k 0) (sym (add-zero (length w)))
      ∙ get_or-append-add w r 0 0

  module _ (more : 0 < length r) where
    pub rest_inside : n + length w < length s
    rest_inside = omega (arith, ap length here, length-drop n s, length-append w r)

    -- A scan from a place in w stops at r, where w fails and r's first byte passes.
    pub stops : (p : ℕ → Bool) → Fails p w → p (get_or r 0 0) ≡ true → (m : ℕ) → n ≤ m → m ≤ n + length w → first_from p s m ≡ n + length w
    stops p none hit m lo hi =
        first_only (λ j. p (get_or s j 0)) m (length s) (first_from p s m) (n + length w) (first p s m (omega (arith, rest_inside)))
        (record {
          ahead = hi;
          inside = omega (arith, rest_inside);
          found = λ _. ap p rest_at ∙ hit;
          before = λ k a b.
              let e : n + (k - n) ≡ k = omega arith in
              let h : k - n < length w = omega arith in
              subst (λ (j : ℕ). p (get_or s j 0) ≡ false) e (ap p (word_at (k - n) h) ∙ none (k - n) h);
        })
