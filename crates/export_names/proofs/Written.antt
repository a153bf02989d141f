-- Arrays that are filled one number after another: after i turns an array has the first i numbers, and behind them what stood
-- there.
use Prim.Native.Nat.{ℕ, suc, ◌+◌, ◌≤◌, ◌<◌}
use mathlib.Core.Path.{◌≡◌, refl, sym, ap, ◌∙◌}
use mathlib.Core.List.{List, ◌++◌}
use native.Mathlib.Nat.{zero-add}
use native.Mathlib.Numerals.{add-one}
use native.Mathlib.Omega.{arith}
use lib.ListN.{length, drop, set, get_or, length-set}
use lib.Seq.{drop-cons, set_at, append_snoc}
use Rattle.scan.specs.Lists.{over, list_to}
use Rattle.scan.proofs.Lists.{list_length}
use Rattle.scope_table.specs.declared.Told.{Told}
use Rattle.export_names.specs.Names.{names, written_of}

module _ (d : List ℕ) (f : ℕ → ℕ) where
  front : (i : ℕ) → over d 0 (list_to f i) ≡ list_to f i ++ drop i d
  unfolding over
  front i = rw (zero-add (length (list_to f i)), list_length f i)

  -- the number at i is written
  write_next : (i : ℕ) → i < length d → set (over d 0 (list_to f i)) i (f i) ≡ over d 0 (list_to f (i + 1))
  unfolding list_to
  write_next i h =
      ap (λ (l : List ℕ). set l i (f i)) (front i ∙ ap (λ (l : List ℕ). list_to f i ++ l) (drop-cons d i 0 h))
      ∙ set_at (list_to f i) (get_or d i 0) (drop (suc i) d) (f i) i (list_length f i)
      ∙ sym (ap (λ (k : ℕ). over d 0 (list_to f k)) (add-one i) ∙ front (suc i) ∙ append_snoc (list_to f i) (f i) (drop (suc i) d))

  -- nothing is written yet
  write_none : d ≡ over d 0 (list_to f 0)
  unfolding list_to
  write_none = sym (front 0)

-- An array of n places that was d, with the first i numbers.
pub record Part (d now : List ℕ) (f : ℕ → ℕ) (n i : ℕ) : Type 0 where
  pub long : length d ≡ n
  pub kept : length now ≡ length d
  pub holds : now ≡ over d 0 (list_to f i)

part_none : (d : List ℕ) (f : ℕ → ℕ) (n : ℕ) → length d ≡ n → Part d d f n 0
part_none d f n e = record { long = e; kept = refl; holds = write_none d f }

part_next : (d now : List ℕ) (f : ℕ → ℕ) (n i v : ℕ) → Part d now f n i → i < n → v ≡ f i → Part d (set now i v) f n (i + 1)
part_next d now f n i v p h e =
    let l : length d ≡ n = p.long in
    record {
      long = l;
      kept = length-set now i v ∙ p.kept;
      holds = ap (λ (t : List ℕ). set t i v) p.holds ∙ ap (set (over d 0 (list_to f i)) i) e ∙ write_next d f i (omega arith);
    }

-- The three arrays of the answers, with the first i of n.
pub record Filled (f : ℕ → Told) (n : ℕ) (kinds₀ begins₀ ends₀ kinds begins ends : List ℕ) (i : ℕ) : Type 0 where
  pub most : i ≤ n
  pub kinds_part : Part kinds₀ kinds (λ j. (f j).number) n i
  pub begins_part : Part begins₀ begins (λ j. (f j).first) n i
  pub ends_part : Part ends₀ ends (λ j. (f j).second) n i

module _ (f : ℕ → Told) (n : ℕ) (kinds₀ begins₀ ends₀ : List ℕ) where
  pub filled_none : length kinds₀ ≡ n → length begins₀ ≡ n → length ends₀ ≡ n → Filled f n kinds₀ begins₀ ends₀ kinds₀ begins₀ ends₀ 0
  filled_none k b e =
      record {
        most = omega arith;
        kinds_part = part_none kinds₀ (λ j. (f j).number) n k;
        begins_part = part_none begins₀ (λ j. (f j).first) n b;
        ends_part = part_none ends₀ (λ j. (f j).second) n e;
      }

  module _ (kinds begins ends : List ℕ) (i : ℕ) (p : Filled f n kinds₀ begins₀ ends₀ kinds begins ends i) where
    pub filled_next : i < n → (t : Told) → t ≡ f i → Filled f n kinds₀ begins₀ ends₀ (set kinds i t.number) (set begins i t.first) (set ends i t.second) (i + 1)
    filled_next h t e =
        record {
          most = omega arith;
          kinds_part = part_next kinds₀ kinds (λ j. (f j).number) n i t.number p.kinds_part h (ap (λ (x : Told). x.number) e);
          begins_part = part_next begins₀ begins (λ j. (f j).first) n i t.first p.begins_part h (ap (λ (x : Told). x.first) e);
          ends_part = part_next ends₀ ends (λ j. (f j).second) n i t.second p.ends_part h (ap (λ (x : Told). x.second) e);
        }

    pub filled_all : n ≤ i → names 0 kinds begins ends ≡ written_of f n kinds₀ begins₀ ends₀
    unfolding written_of
    filled_all h =
        let l : i ≤ n = p.most in
        let z : i ≡ n = omega arith in
        rw (p.kinds_part.holds, p.begins_part.holds, p.ends_part.holds, z)
