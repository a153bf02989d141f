-- Zeros after a list change nothing that is read of it, since a place beyond its end is read as zero anyway; and what lent
-- memory holds.
use Prim.Native.Nat.{ℕ, zero, suc, ◌+◌, ◌-◌, ◌≤◌, ◌<◌}
use mathlib.Core.Path.{◌≡◌, refl, sym, ap, ◌∙◌, fun_ext}
use mathlib.Core.Bool.{Bool, true, false, ◌&&◌, ◌||◌, and-true, and-false, false≢true}
use mathlib.Core.List.{List, [], ◌∷◌, ◌++◌, append_assoc}
use native.Mathlib.Omega.{arith}
use lib.Dec.{eqb, leb, ltb}
use borrow.Author.Tests.{leb-true, leb-false, eqb-false, le-leb, lt-leb, lt-ltb, le-ltb}
use lib.ListN.{length, take, drop, get_or, replicate, replicate-append-replicate, get_or-eq_default}
use lib.Seq.{take_at, take-append-le, drop-append-le, get_or-take}
use Rattle.scan.specs.Bytes.{bytes, bytes_from, same_bytes}
use Rattle.scan.specs.Lists.{over, pad_to}
use Rattle.scan.proofs.Bytes.{same_ne}
use Rattle.scan.proofs.Lists.{length_over, pad_at, pad_length}
use Rattle.scope_table.specs.Lists.{all_zero, cut}
use Rattle.scope_table.specs.Records.{row_at, record_at}
use Rattle.scope_table.specs.Table.{TEXT, RECORDS, NUMBERS, built_in, opens_built_in, is_clear, is_table}
use Rattle.scope_table.specs.Lent.{holds_of, fits_of}
use Rattle.scope_table.specs.declared.Head.{Head}
use Rattle.scope_table.specs.declared.NamespaceBinding.{NamespaceBinding}
use Rattle.scope_table.proofs.Lists.{and_left, and_right, and_take, cut_length}

-- What is read.

-- of each record
pub pad_records : (n : ℕ) (xs : List ℕ) → record_at (pad_to n xs) ≡ record_at xs
pad_records n xs = fun_ext (λ i. rw (pad_at n xs (row_at i), pad_at n xs (row_at i + 1), pad_at n xs (row_at i + 2), pad_at n xs (row_at i + 3)))

-- The test for zeros.

pub zeros_all : (m : ℕ) → all_zero (replicate m 0) ≡ true
unfolding all_zero
zeros_all zero = refl
zeros_all (suc m) = and_take refl (zeros_all m)

zeros_rest : (m k : ℕ) → all_zero (drop k (replicate m 0)) ≡ true
unfolding all_zero
zeros_rest m zero = zeros_all m
zeros_rest zero (suc k) = refl
zeros_rest (suc m) (suc k) = zeros_rest m k

after_zeros : (xs : List ℕ) (m k : ℕ) → all_zero (drop k (xs ++ replicate m 0)) ≡ all_zero (drop k xs)
unfolding all_zero
after_zeros [] m zero = zeros_all m
after_zeros [] m (suc k) = zeros_rest m (suc k)
after_zeros (x ∷ xs) m zero = ap (λ (t : Bool). eqb x 0 && t) (after_zeros xs m zero)
after_zeros (x ∷ xs) m (suc k) = after_zeros xs m k

pub pad_zeros : (n : ℕ) (xs : List ℕ) (k : ℕ) → all_zero (drop k (pad_to n xs)) ≡ all_zero (drop k xs)
unfolding pad_to
pad_zeros n xs k = after_zeros xs (n - length xs) k

-- What lent memory holds.

or_true : (t : Bool) → (t || true) ≡ true
or_true true = refl
or_true false = refl

-- more in use than the capacity: only the length counts
pub holds_beyond : (capacity lent inUse : ℕ) → capacity < inUse → holds_of capacity lent inUse ≡ leb lent capacity
unfolding holds_of
holds_beyond capacity lent inUse h = rw (lt-ltb capacity inUse h, or_true (leb inUse lent)) (and-true (leb lent capacity))

-- else it is within what is lent
pub holds_within : (capacity lent inUse : ℕ) → inUse ≤ capacity → holds_of capacity lent inUse ≡ true → (lent ≤ capacity) × (inUse ≤ lent)
unfolding holds_of
holds_within capacity lent inUse h e =
    let l = leb-true lent capacity (and_left (leb lent capacity) _ e) in
    (l, by (leb inUse lent) refl (and_right (leb lent capacity) _ e)) where
      by : (t : Bool) → leb inUse lent ≡ t → (leb inUse lent || ltb capacity inUse) ≡ true → inUse ≤ lent
      by true q f = leb-true inUse lent q
      by false q f = absurd (false≢true (sym (le-ltb capacity inUse h) ∙ sym (rw q) ∙ f))

pub holds_is : (capacity lent inUse : ℕ) → lent ≤ capacity → inUse ≤ lent → holds_of capacity lent inUse ≡ true
unfolding holds_of
holds_is capacity lent inUse h l = rw (le-leb lent capacity h, le-leb inUse lent l)

pub holds_not : (capacity lent inUse : ℕ) → inUse ≤ capacity → lent < inUse → holds_of capacity lent inUse ≡ false
unfolding holds_of
holds_not capacity lent inUse h l = rw (lt-leb inUse lent l, le-ltb capacity inUse h) (and-false (leb lent capacity))

-- the records in use are lent
pub fits_rows : (bytes numbers used count : ℕ) → count ≤ RECORDS → fits_of bytes numbers used count ≡ true → row_at count ≤ numbers
unfolding fits_of
fits_rows bytes numbers used count h e = (holds_within NUMBERS numbers (row_at count) (omega arith) (and_right (holds_of TEXT bytes used) _ e)).1

-- The built-in text: a list that is shorter does not begin with it, and zeros after it change nothing, since its last byte
-- is none.

opens_not : (xs : List ℕ) → ◌≡◌ {A = ℕ} (get_or xs 72 0) 0 → same_bytes (take 73 xs) built_in ≡ false
unfolding built_in bytes bytes_from
opens_not xs z = same_ne (take 73 xs) built_in (λ e. eqb-false 0 47 refl (sym z ∙ sym (get_or-take 73 xs 72 0 (omega arith)) ∙ ap (λ (l : List ℕ). get_or l 72 0) e))

pub pad_opens : (n : ℕ) (xs : List ℕ) → same_bytes (take 73 (pad_to n xs)) built_in ≡ same_bytes (take 73 xs) built_in
unfolding pad_to
pad_opens n xs = by (leb 73 (length xs)) refl where
  by : (t : Bool) → leb 73 (length xs) ≡ t → same_bytes (take 73 (pad_to n xs)) built_in ≡ same_bytes (take 73 xs) built_in
  by true e = ap (λ (l : List ℕ). same_bytes l built_in) (take-append-le 73 xs (replicate (n - length xs) 0) (leb-true 73 (length xs) e))
  by false e =
      let l = leb-false 73 (length xs) e in
      let z : ◌≡◌ {A = ℕ} (get_or xs 72 0) 0 = get_or-eq_default xs 0 (omega arith) in
      opens_not (pad_to n xs) (pad_at n xs 72 ∙ z) ∙ sym (opens_not xs z)

pub pad_built_in : (n : ℕ) (xs : List ℕ) (rows : ℕ → NamespaceBinding) (count : ℕ) → opens_built_in (pad_to n xs) rows count ≡ opens_built_in xs rows count
unfolding opens_built_in
pad_built_in n xs rows count = rw (pad_opens n xs)

-- What is lent is of the right form exactly if the resolver that it stands for is.
pub pad_table : (m n : ℕ) (text records : List ℕ) (head : Head) → is_table (pad_to m text) (pad_to n records) head ≡ is_table text records head
unfolding is_table is_clear
pad_table m n text records head = rw (pad_records n records, pad_built_in m text (record_at records) head.count, pad_zeros m text head.used, pad_zeros n records (row_at head.count))

-- Writes.

-- A write over what is lent is that over the resolver it stands for.
pub pad_over : (m : ℕ) (xs : List ℕ) (n : ℕ) (s : List ℕ) → n + length s ≤ length xs → take (length xs) (over (pad_to m xs) n s) ≡ over xs n s
unfolding over pad_to
pad_over m xs n s h =
    let z = replicate {A = ℕ} (m - length xs) 0 in
    rw (take-append-le n xs z (omega arith), drop-append-le (n + length s) xs z h, ← append_assoc (take n xs ++ s) (drop (n + length s) xs) z)
    (take_at (take n xs ++ s ++ drop (n + length s) xs) z (length xs) (length_over xs n s (omega arith)))

pad_front : (m : ℕ) (xs : List ℕ) (n : ℕ) → n ≤ length xs → take n (pad_to m xs) ≡ take n xs
unfolding pad_to
pad_front m xs n h = take-append-le n xs (replicate (m - length xs) 0) h

cut_split : (m : ℕ) (xs : List ℕ) (n : ℕ) → length xs ≤ m → n ≤ length xs → cut (pad_to m xs) n ≡ cut xs n ++ replicate (m - length xs) 0
unfolding cut
cut_split m xs n k h =
    let q : length (pad_to m xs) - n ≡ (length xs - n) + (m - length xs) = omega (arith, pad_length m xs k) in
    rw (pad_front m xs n h, q, ← replicate-append-replicate {A = ℕ} (length xs - n) (m - length xs) 0) (sym (append_assoc (take n xs) (replicate (length xs - n) 0) (replicate (m - length xs) 0)))

-- So are zeros from a place on.
pub pad_cut : (m : ℕ) (xs : List ℕ) (n : ℕ) → length xs ≤ m → n ≤ length xs → take (length xs) (cut (pad_to m xs) n) ≡ cut xs n
pad_cut m xs n k h = rw (cut_split m xs n k h) (take_at (cut xs n) (replicate (m - length xs) 0) (length xs) (cut_length xs n h))
