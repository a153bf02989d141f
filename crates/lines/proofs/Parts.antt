-- Text that is written part by part: what was written so far, and what is left of it.
use Prim.Native.Nat.{ℕ, ◌+◌, ◌≤◌, ◌<◌}
use mathlib.Core.Path.{◌≡◌, refl, sym, ◌∙◌}
use mathlib.Core.List.{List, [], ◌∷◌, ◌++◌, append_assoc}
use native.Mathlib.Numerals.{add-one}
use native.Mathlib.Omega.{arith}
use lib.ListN.{length, take, drop, set, length-append}
use lib.Seq.{set_split}
use Rattle.scan.specs.Lists.{over}
use Rattle.scan.proofs.Lists.{over_length, over_none, over_more}

-- one byte
pub store_over : (out : List ℕ) (at v : ℕ) → at < length out → set out at v ≡ over out at (v ∷ [])
unfolding over
store_over out at v h = set_split out at v h ∙ rw (append_assoc (take at out) (v ∷ []) (drop (at + 1) out), sym (add-one at))

-- `whole` is to stand in `first` from `from` on; `out` has it up to `at`, and `rest` is left.
pub record Part (first : List ℕ) (from : ℕ) (whole out : List ℕ) (at : ℕ) (rest : List ℕ) : Type 0 where
  pub size : length out ≡ length first
  pub text : over first from whole ≡ over out at rest
  pub many : from + length whole ≡ at + length rest

pub part_first : (out : List ℕ) (at : ℕ) (whole : List ℕ) → Part out at whole out at whole
part_first out at whole = record { size = refl; text = refl; many = refl }

module _ {first : List ℕ} {from : ℕ} {whole : List ℕ} (out : List ℕ) (at : ℕ) where
  pub part_next : (x rest : List ℕ) → at + length x ≤ length out → Part first from whole out at (x ++ rest) → Part first from whole (over out at x) (at + length x) rest
  part_next x rest h p =
      record {
        size = over_length out at x h ∙ p.size;
        text = p.text ∙ over_more out at x h rest;
        many = omega (arith, p.many, length-append x rest);
      }

  -- the next byte, as the code stores it
  pub part_byte : (v : ℕ) (rest : List ℕ) → at < length out → Part first from whole out at (v ∷ rest) → Part first from whole (set out at v) (at + 1) rest
  part_byte v rest h p = rw (store_over out at v h) (part_next (v ∷ []) rest (omega arith) p)

  -- nothing is left
  pub part_last : Part first from whole out at [] → (at ≡ from + length whole) × (out ≡ over first from whole)
  part_last p = (omega (arith, p.many), sym (p.text ∙ over_none out at))
