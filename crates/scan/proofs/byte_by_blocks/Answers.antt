-- `scan::byte_by_blocks` meets its contract: each block that has not the byte is skipped.
use Rattle.std.proofs.Common.{arith, ◌≡◌, ◌<◌, ◌≤◌, ◌+◌, ◌-◌, ℕ, zero, suc, Bool, false, ◌||◌, List, [], ◌∷◌, length, get_or, sym, ap, ◌∙◌}
use Rattle.std.specs.List.{fold}
use Rattle.scan.specs.Bytes.{is_byte, part}
use Rattle.scan.proofs.Bytes.{both_false}
use Rattle.scan.proofs.Laws.{skip, past}
use Rattle.scan.proofs.Lists.{part_length, part_at}
use Rattle.scan.proofs.byte_by_blocks.Goals as goal

-- a fold of a test that comes to "no": none of the list passes
none_passed : (p : ℕ → Bool) (xs : List ℕ) (any : Bool) → fold (λ any x. any || p x) any xs ≡ false → (any ≡ false) × ((k : ℕ) → k < length xs → p (get_or xs k 0) ≡ false)
none_passed p [] any e = (e, λ k l. absurd (omega arith))
none_passed p (x ∷ xs) any e = here (none_passed p xs (any || p x) e) where
  here : ((any || p x) ≡ false) × ((k : ℕ) → k < length xs → p (get_or xs k 0) ≡ false) → (any ≡ false) × ((k : ℕ) → k < length (x ∷ xs) → p (get_or (x ∷ xs) k 0) ≡ false)
  here rest = ((both_false any (p x) rest.0).0, at) where
    at : (k : ℕ) → k < length (x ∷ xs) → p (get_or (x ∷ xs) k 0) ≡ false
    at zero l = (both_false any (p x) rest.0).1
    at (suc k) l = rest.1 k (omega arith)

none_in : (p : ℕ → Bool) (s : List ℕ) (i e : ℕ) → i ≤ e → e ≤ length s → fold (λ any x. any || p x) false (part s i e) ≡ false → (k : ℕ) → i ≤ k → k < e → p (get_or s k 0) ≡ false
none_in p s i e h l all k lo hi =
    let at : i + (k - i) ≡ k = omega arith in
    ap (λ (j : ℕ). p (get_or s j 0)) (sym at)
    ∙ ap p (sym (part_at s i e (k - i) (omega arith)))
    ∙ (none_passed p (part s i e) false all).1 (k - i) (omega (arith, part_length s i e h l))

pub loop-i-preserved : goal.loop-i-preserved
unfolding part
loop-i-preserved c =
    let a = c.args in
    let s = a.tag.now in
    let i = c.loop-i.i in
    let none = none_in (is_byte a.b) s c.loop-i.i (c.loop-i.i + 32) (omega arith) (omega arith) (sym c.block_has.ensures ∙ c.if-block_has.false) in
    c.loop-i.invariant ∙ skip (is_byte a.b) s c.loop-i.i (c.loop-i.i + 32) (omega arith) (omega arith) none

pub returns : goal.returns
returns c = sym (c.loop-i.invariant ∙ past _ _ _ c.loop-i-test.false)
