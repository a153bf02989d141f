-- The turns of the loops that test the form of a table: each way out of a loop decides the whole test, and what a turn passes
-- is as it should be. `b` is the record that the turn has read.
use Prim.Native.Nat.{ℕ, zero, suc, ◌+◌, ◌≤◌, ◌<◌}
use mathlib.Core.Path.{◌≡◌, refl, sym, ap, ◌∙◌, subst}
use mathlib.Core.Bool.{Bool, true, false, ◌&&◌}
use mathlib.Core.Logic.{⊎_elim}
use native.Mathlib.Nat.{eq-or-lt_of_le}
use native.Mathlib.Numerals.{add-one}
use native.Mathlib.Omega.{arith}
use lib.Bits.{bit_or, or_add_and, and_le_l, and_le_r}
use lib.Dec.{eqb, leb}
use borrow.Author.Tests.{eq-eqb, ne_eqb, le-leb, lt-leb, leb-true, leb-false}
use Rattle.scope_table.specs.Lists.{all_below}
use Rattle.scope_table.specs.Table.{text_of, level_before, is_chain, is_rising}
use Rattle.scope_table.specs.declared.NamespaceBinding.{NamespaceBinding}
use Rattle.scope_table.proofs.Lists.{and_take, and_fail, and_off, all_of, all_off}

module _ (rows : ℕ → NamespaceBinding) where
  pub text_next : (i : ℕ) (b : NamespaceBinding) → b ≡ rows i → text_of rows (i + 1) ≡ text_of rows i + (b.prefix_len + b.value_len)
  unfolding text_of
  text_next i b e = rw (e, add-one i)

  -- more records have no less text
  pub text_grows : (i n : ℕ) → i ≤ n → text_of rows i ≤ text_of rows n
  unfolding text_of
  text_grows i zero h =
      let z : i ≡ 0 = omega arith in
      rw z (omega arith)
  text_grows i (suc n) h =
      ⊎_elim (λ (q : i ≡ suc n). rw q (omega arith)) (λ (l : i < suc n). let g = text_grows i n (omega arith) in omega arith) (eq-or-lt_of_le h)

  pub before_next : (i : ℕ) (b : NamespaceBinding) → b ≡ rows i → b.level ≡ level_before rows (i + 1)
  unfolding level_before
  before_next i b e = rw (e, add-one i)

-- Texts that follow each other.
module _ (rows : ℕ → NamespaceBinding) (used n : ℕ) where
  abbrev pub linked : ℕ → Bool
  linked k = eqb (rows k).start (text_of rows k)

  abbrev pub Links : ℕ → Type 0
  Links i = (k : ℕ) → k < i → linked k ≡ true

  pub link_on : (i : ℕ) (b : NamespaceBinding) → b ≡ rows i → b.start ≡ text_of rows i → linked i ≡ true
  link_on i b e h = eq-eqb (rows i).start (text_of rows i) (ap (λ (x : NamespaceBinding). x.start) (sym e) ∙ h)

  -- a record that starts elsewhere
  pub chain_off : (i : ℕ) (b : NamespaceBinding) → b ≡ rows i → i < n → (b.start ≡ text_of rows i → ⊥) → false ≡ is_chain rows used n
  unfolding is_chain
  chain_off i b e h d =
      sym (and_fail _ (all_off linked n i h (ne_eqb (rows i).start (text_of rows i) (λ q. d (ap (λ (x : NamespaceBinding). x.start) e ∙ q)))))

  -- one that ends past the text in use
  pub chain_long : (i : ℕ) (b : NamespaceBinding) → b ≡ rows i → i < n → used < text_of rows i + (b.prefix_len + b.value_len) → false ≡ is_chain rows used n
  unfolding is_chain
  chain_long i b e h d =
      sym (and_off (all_below linked n) (ne_eqb (text_of rows n) used (λ q. omega (arith, text_next rows i b e, text_grows rows (i + 1) n (omega arith)))))

  -- all of them
  pub chain_all : (i at : ℕ) → i ≡ n → at ≡ text_of rows i → Links i → eqb at used ≡ is_chain rows used n
  unfolding is_chain
  chain_all i at e f l = rw (f, e) (sym (and_take (all_of linked n (subst Links e l)) refl))

-- Lengths by their bits: as long as the longer one at least, and no longer than both.
pub bits_left : (a b : ℕ) → a ≤ bit_or a b
bits_left a b = omega (arith, or_add_and a b, and_le_r a b)

pub bits_right : (a b : ℕ) → b ≤ bit_or a b
bits_right a b = omega (arith, or_add_and a b, and_le_l a b)

pub bits_sum : (a b : ℕ) → bit_or a b ≤ a + b
bits_sum a b = omega (arith, or_add_and a b)

-- Levels that rise: each is held against the one before it, and the last against the top.
module _ (rows : ℕ → NamespaceBinding) where
  abbrev pub rises : ℕ → Bool
  rises k = leb (level_before rows k) (rows k).level

  abbrev pub Rises : ℕ → Type 0
  Rises i = (k : ℕ) → k < i → rises k ≡ true

  level_is : (i : ℕ) (b : NamespaceBinding) → b ≡ rows i → b.level ≡ (rows i).level
  level_is i b e = ap (λ (x : NamespaceBinding). x.level) e

  pub rises_on : (i : ℕ) (b : NamespaceBinding) → b ≡ rows i → level_before rows i ≤ b.level → rises i ≡ true
  rises_on i b e p = le-leb (level_before rows i) (rows i).level (omega (arith, level_is i b e))

  -- so none is above the last
  levels_grow : (i : ℕ) → Rises i → (k : ℕ) → k < i → (rows k).level ≤ level_before rows i
  unfolding level_before
  levels_grow zero r k h = absurd (omega arith)
  levels_grow (suc i) r k h =
      ⊎_elim (λ (q : k ≡ i). rw q (omega arith))
      (λ (l : k < i). let g = levels_grow i (λ m w. r m (omega arith)) k l in let up = leb-true (level_before rows i) (rows i).level (r i (omega arith)) in omega arith)
      (eq-or-lt_of_le (omega arith))

  module _ (n top : ℕ) where
    abbrev pub risen : ℕ → Bool
    risen k = leb (level_before rows k) (rows k).level && leb (rows k).level top

    pub rise_on : (i : ℕ) (b : NamespaceBinding) → b ≡ rows i → level_before rows i ≤ b.level → b.level ≤ top → risen i ≡ true
    rise_on i b e p q = and_take (rises_on i b e p) (le-leb (rows i).level top (omega (arith, level_is i b e)))

    pub rise_low : (i : ℕ) (b : NamespaceBinding) → b ≡ rows i → i < n → b.level < level_before rows i → is_rising rows n top ≡ false
    unfolding is_rising
    rise_low i b e h d = all_off risen n i h (and_fail _ (lt-leb (level_before rows i) (rows i).level (omega (arith, level_is i b e))))

  pub rise_all : (n top : ℕ) → Rises n → leb (level_before rows n) top ≡ is_rising rows n top
  unfolding is_rising level_before
  rise_all n top r = by (leb (level_before rows n) top) refl where
    high : (m : ℕ) → top < level_before rows m → m ≡ n → false ≡ all_below (risen n top) n
    high zero h e = absurd (omega arith)
    high (suc m) h e = sym (all_off (risen n top) n m (omega arith) (and_off (leb (level_before rows m) (rows m).level) (lt-leb (rows m).level top h)))

    by : (t : Bool) → leb (level_before rows n) top ≡ t → t ≡ all_below (risen n top) n
    by true h = sym (all_of (risen n top) n (λ k m. and_take (r k m) (le-leb (rows k).level top (let g = levels_grow n r k m in let u = leb-true (level_before rows n) top h in omega arith))))
    by false h = high n (leb-false (level_before rows n) top h) refl
