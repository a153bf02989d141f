-- Laws of a lookup in a table, one for each way through the code, over any rows: a record's prefix beside a name's, and what
-- is no bound or unknown name.
use Prim.Native.Nat.{ℕ, ◌+◌, ◌-◌, ◌≤◌, ◌<◌}
use mathlib.Core.Path.{◌≡◌, sym, ap, ◌∙◌}
use mathlib.Core.Bool.{true, false}
use mathlib.Core.List.{List}
use native.Mathlib.Omega.{arith}
use lib.ListN.{length, take, get_or}
use lib.Seq.{length-take-le, get_or-take}
use borrow.Author.Tests.{lt-ltb, le-ltb}
use Rattle.scan.specs.Bytes.{part, same_bytes}
use Rattle.scan.proofs.Bytes.{same_ne, same_length}
use Rattle.scan.proofs.Lists.{part_length, part_at}
use Rattle.name.specs.Split.{colon_at, has_colon, prefix_of}
use Rattle.scope_table.specs.Records.{row_at, record_at, value_start, value_end, prefix_in}
use Rattle.scope_table.specs.Table.{TEXT}
use Rattle.scope_table.specs.declared.NamespaceBinding.{NamespaceBinding}
use Rattle.scope_table.proofs.Rows.{rows_before}
use Rattle.scope_lookup.specs.Inside.{Inside}
use Rattle.scope_lookup.specs.Lookup.{has_prefix}

-- what a record in use is read with: its row is lent, and it ends within the text
module _ (records : List ℕ) (count size i : ℕ) (s : Inside records count size) (h : i < count) where
  pub row_lent : row_at (i + 1) ≤ length records
  row_lent = rows_before (i + 1) count (length records) (omega arith) s.rows

  pub record_ends : (b : NamespaceBinding) → b ≡ record_at records i → value_end b ≤ size
  record_ends b e = rw e (s.each i h)

-- a record's prefix beside that of a name, its first n bytes
module _ (text name : List ℕ) (n : ℕ) (b : NamespaceBinding) (hn : n ≤ length name) (h : value_end b ≤ length text) where
  prefix_length : length (prefix_in text b) ≡ b.prefix_len
  unfolding prefix_in
  prefix_length = part_length text b.start (value_start b) (omega arith) (omega arith) ∙ omega arith

  -- of two lengths
  pub unlike_length : (b.prefix_len ≡ n → ⊥) → has_prefix text (take n name) b ≡ false
  unfolding has_prefix
  unlike_length d = same_length (prefix_in text b) (take n name) (λ e. d (sym prefix_length ∙ e ∙ length-take-le n name hn))

  module _ (e : b.prefix_len ≡ n) where
    pub like_length : has_prefix text (take n name) b ≡ same_bytes (part text b.start (b.start + n)) (take n name)
    unfolding has_prefix prefix_in
    like_length = ap (λ (k : ℕ). same_bytes (part text b.start (b.start + k)) (take n name)) e

    -- with a last byte that differs
    pub unlike_last : 0 < n → (get_or text (b.start + n - 1) 0 ≡ get_or name (n - 1) 0 → ⊥) → has_prefix text (take n name) b ≡ false
    unlike_last some other =
        let a : b.start + (n - 1) ≡ b.start + n - 1 = omega arith in
        let l : n - 1 < b.start + n - b.start = omega arith in
        like_length
        ∙ same_ne (part text b.start (b.start + n)) (take n name)
        (λ x. other (ap (λ (k : ℕ). get_or text k 0) (sym a) ∙ sym (part_at text b.start (b.start + n) (n - 1) l) ∙ ap (λ (t : List ℕ). get_or t (n - 1) 0) x ∙ get_or-take n name (n - 1) 0 (omega arith)))

-- fewer records stand within as many bytes
pub fewer : (records : List ℕ) (m n size : ℕ) → m ≤ n → Inside records n size → Inside records m size
fewer records m n size h i =
    record { rows = rows_before m n (length records) h i.rows; small = i.small; each = λ k l. i.each k (omega arith) }

-- and within as many as there can be
pub widest : (records : List ℕ) (n size : ℕ) → Inside records n size → Inside records n TEXT
widest records n size i =
    record { rows = i.rows; small = omega arith; each = λ k l. omega (arith, i.each k l, i.small) }

-- the first colon as a place: what stands before it is the explicit prefix
module _ (name : List ℕ) (c : ℕ) (e : c ≡ colon_at name) where
  pub colon_in : c < length name → has_colon name ≡ true
  unfolding has_colon
  colon_in h = rw (← e) (lt-ltb c (length name) h)

  pub colon_out : length name ≤ c → has_colon name ≡ false
  unfolding has_colon
  colon_out h = rw (← e) (le-ltb c (length name) h)

  pub colon_prefix : c < length name → prefix_of name ≡ take c name
  unfolding prefix_of
  colon_prefix h = rw (colon_in h, ← e)
