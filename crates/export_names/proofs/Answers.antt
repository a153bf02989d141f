-- What a call for all the names of a tag promises: none is left out, and each gets the numbers that a call for it alone gives.
use Prim.Native.Nat.{ℕ, ◌+◌, ◌<◌}
use mathlib.Core.Path.{◌≡◌, ◌∙◌}
use mathlib.Core.Bool.{true}
use mathlib.Core.List.{List}
use native.Mathlib.Omega.{arith}
use lib.Dec.{ltb}
use lib.ListN.{length, drop, get_or, get_or-append}
use Rattle.scan.specs.Bytes.{inside}
use Rattle.scan.specs.Lists.{over, list_to}
use Rattle.scan.proofs.Lists.{list_length, list_at}
use Rattle.scope_table.specs.Table.{valid_of}
use Rattle.scope_table.specs.Answer.{told_of}
use Rattle.scope_table.specs.declared.NamespaceResolver.{NamespaceResolver}
use Rattle.scope_lookup.specs.Lookup.{resolved_numbers, resolve_of}
use Rattle.export_memory.specs.Boundary.{code_of}
use Rattle.export_names.specs.Names.{Names, nth_of, written_of, many_of}

-- What is written at k.

written_at : (d : List ℕ) (f : ℕ → ℕ) (n k : ℕ) → k < n → get_or (over d 0 (list_to f n)) k 0 ≡ f k
unfolding over
written_at d f n k h =
    get_or-append (list_to f n) (drop (0 + length (list_to f n)) d) 0 k (omega (arith, list_length f n)) ∙ list_at f n k 0 h

module _ (x : NamespaceResolver) (good : valid_of x ≡ true) (tag from to : List ℕ) (elements : ℕ) (kinds begins ends : List ℕ) where
  abbrev after : Names
  after = many_of tag from to elements kinds begins ends x

  -- what a call for name k alone answers
  abbrev alone : ℕ → List ℕ
  alone k = resolved_numbers (resolve_of (inside tag (get_or from k 0) (get_or to k 0)) (ltb k elements) x)

  pub names_answered : after.result ≡ 0
  unfolding many_of written_of
  names_answered = rw good

  pub kind_as_alone : (k : ℕ) → k < length from → get_or after.kinds k 0 ≡ code_of (alone k)
  unfolding many_of written_of nth_of code_of
  kind_as_alone k h = rw good (written_at kinds (λ i. (nth_of tag from to elements x i).number) (length from) k h)

  begin_at_lem : (k : ℕ) → k < length from → get_or after.begins k 0 ≡ (told_of (alone k)).first
  unfolding many_of written_of nth_of
  begin_at_lem k h = rw good (written_at begins (λ i. (nth_of tag from to elements x i).first) (length from) k h)

  end_at : (k : ℕ) → k < length from → get_or after.ends k 0 ≡ (told_of (alone k)).second
  unfolding many_of written_of nth_of
  end_at k h = rw good (written_at ends (λ i. (nth_of tag from to elements x i).second) (length from) k h)

  pub bounds_as_alone : (k : ℕ) → k < length from → (get_or after.begins k 0 ≡ get_or (alone k) 1 0) × (get_or after.ends k 0 ≡ get_or (alone k) 2 0)
  bounds_as_alone k h = (begin_at_lem k h, end_at k h)
