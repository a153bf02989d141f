-- Rows: where they stand, so that nothing else counts the numbers of one; a record as it is written, whose numbers one by one
-- are one write, with what is read after it: the record itself and the records before it; and tables that have the same
-- records.
use Prim.Native.Nat.{ℕ, zero, suc, ◌+◌, ◌≤◌, ◌<◌}
use mathlib.Core.Path.{◌≡◌, refl, sym, ap, ◌∙◌}
use mathlib.Core.Bool.{true}
use mathlib.Core.List.{List, ◌++◌}
use native.Mathlib.Nat.{add-zero}
use native.Mathlib.Numerals.{add-one}
use native.Mathlib.Omega.{arith}
use lib.ListN.{length, take, drop, set, get_or, length-append, get_or-append}
use lib.Seq.{paste, paste-zero, length-take-le, get_or-append-add, get_or-take, take-add, drop-cons}
use Rattle.scan.specs.Lists.{over}
use Rattle.scan.proofs.Lists.{paste_more, paste_all, take_of_over, drop_over}
use Rattle.scope_table.specs.Lists.{all_zero}
use Rattle.scope_table.specs.Records.{ROW, row_at, record_at, row_of}
use Rattle.scope_table.specs.Table.{RECORDS, NUMBERS, text_of, level_before}
use Rattle.scope_table.specs.declared.NamespaceBinding.{NamespaceBinding}
use Rattle.scope_table.proofs.Lists.{zeros_later}

-- Where rows stand.

-- a later row stands no earlier
pub rows_rise : (m n : ℕ) → m ≤ n → row_at m ≤ row_at n
rows_rise m n h = omega arith

-- where so many rows are within a length, fewer are
pub rows_before : (m n size : ℕ) → m ≤ n → row_at n ≤ size → row_at m ≤ size
rows_before m n size h k = omega arith

-- as many rows as there are records are within the capacity
pub rows_within : (n : ℕ) → n ≤ RECORDS → row_at n ≤ NUMBERS
rows_within n h = omega arith

-- and so within a table of full size
pub rows_full : (t : List ℕ) (n : ℕ) → length t ≡ NUMBERS → n ≤ RECORDS → row_at n ≤ length t
rows_full t n e h = omega arith

-- the next row stands where a record ends
pub row_next : (n : ℕ) (b : NamespaceBinding) → row_at (n + 1) ≡ row_at n + length (row_of b)
row_next n b = omega arith

-- so a record whose next row is lent is lent itself
pub row_fits : (n size : ℕ) (b : NamespaceBinding) → row_at (n + 1) ≤ size → row_at n + length (row_of b) ≤ size
row_fits n size b h = omega arith

-- Writing a record.

-- the numbers of a record, written one by one
pub row_written : (t : List ℕ) (i : ℕ) (b : NamespaceBinding) → row_at i + ROW ≤ length t → set (set (set (set t (row_at i) b.start) (row_at i + 1) b.prefix_len) (row_at i + 2) b.value_len) (row_at i + 3) b.level ≡ over t (row_at i) (row_of b)
row_written t i b h =
    let n = row_at i in
    let s = row_of b in
    let s₁ : set (paste t n s 0) (n + 0) b.start ≡ paste t n s 1 = paste_more t n s 0 (omega arith) (omega arith) in
    let s₂ : set (paste t n s 1) (n + 1) b.prefix_len ≡ paste t n s 2 = paste_more t n s 1 (omega arith) (omega arith) in
    let s₃ : set (paste t n s 2) (n + 2) b.value_len ≡ paste t n s 3 = paste_more t n s 2 (omega arith) (omega arith) in
    let s₄ : set (paste t n s 3) (n + 3) b.level ≡ paste t n s 4 = paste_more t n s 3 (omega arith) (omega arith) in
    let z : set t n b.start ≡ paste t n s 1 = rw (← paste-zero t n s, add-zero n) at s₁ in
    rw (z, s₂, s₃, s₄) (paste_all t n s 4 refl)

-- What is read after it.

over_at : (t : List ℕ) (m : ℕ) (s : List ℕ) (k : ℕ) → m ≤ length t → k < length s → get_or (over t m s) (m + k) 0 ≡ get_or s k 0
unfolding over
over_at t m s k h l =
    let e = length-take-le m t h in
    get_or-append (take m t ++ s) (drop (m + length s) t) 0 (m + k) (omega (arith, e, length-append (take m t) s))
    ∙ ap (λ (j : ℕ). get_or (take m t ++ s) (j + k) 0) (sym e)
    ∙ get_or-append-add (take m t) s k 0

-- the record itself
pub record_new : (t : List ℕ) (n : ℕ) (b : NamespaceBinding) → row_at n ≤ length t → record_at (over t (row_at n) (row_of b)) n ≡ b
record_new t n b h =
    let s = row_of b in
    let u : get_or (over t (row_at n) s) (row_at n) 0 ≡ b.start = rw (add-zero (row_at n)) at (over_at t (row_at n) s 0 h (omega arith)) in
    let p : get_or (over t (row_at n) s) (row_at n + 1) 0 ≡ b.prefix_len = over_at t (row_at n) s 1 h (omega arith) in
    let v : get_or (over t (row_at n) s) (row_at n + 2) 0 ≡ b.value_len = over_at t (row_at n) s 2 h (omega arith) in
    let l : get_or (over t (row_at n) s) (row_at n + 3) 0 ≡ b.level = over_at t (row_at n) s 3 h (omega arith) in
    rw (u, p, v, l)

-- The first n records are the same.
abbrev pub Same : ℕ → (rows others : ℕ → NamespaceBinding) → Type 0
Same n rows others = (k : ℕ) → k < n → rows k ≡ others k

-- tables that are the same up to record n have the same records there
pub same_take : (n : ℕ) (R Q : List ℕ) → take (row_at n) R ≡ take (row_at n) Q → Same n (record_at R) (record_at Q)
same_take n R Q e k h =
    let at : (j : ℕ) → j < row_at n → get_or R j 0 ≡ get_or Q j 0 = λ j l. sym (get_or-take (row_at n) R j 0 l) ∙ ap (λ (u : List ℕ). get_or u j 0) e ∙ get_or-take (row_at n) Q j 0 l in
    rw (at (row_at k) (omega arith), at (row_at k + 1) (omega arith), at (row_at k + 2) (omega arith), at (row_at k + 3) (omega arith))

-- the records before the one that is written
pub record_old : (t : List ℕ) (n : ℕ) (b : NamespaceBinding) → row_at n ≤ length t → Same n (record_at (over t (row_at n) (row_of b))) (record_at t)
record_old t n b h = same_take n (over t (row_at n) (row_of b)) t (take_of_over (row_at n) t (row_at n) (row_of b) (omega arith) h)

-- the same records have the same text, and the same levels

pub text_same : (n : ℕ) (rows others : ℕ → NamespaceBinding) → Same n rows others → text_of rows n ≡ text_of others n
unfolding text_of
text_same zero rows others s = refl
text_same (suc n) rows others s =
    let i = text_same n rows others (λ k h. s k (omega arith)) in
    let e = s n (omega arith) in
    let p = ap (λ (b : NamespaceBinding). b.prefix_len) e in
    let v = ap (λ (b : NamespaceBinding). b.value_len) e in
    omega (arith, i, p, v)

pub before_same : (n i : ℕ) (rows others : ℕ → NamespaceBinding) → Same n rows others → i ≤ n → level_before rows i ≡ level_before others i
unfolding level_before
before_same n zero rows others s h = refl
before_same n (suc i) rows others s h = ap (λ (b : NamespaceBinding). b.level) (s i h)

-- where zeros follow, zeros follow the record that is written
pub rest_after : (t : List ℕ) (n : ℕ) (b : NamespaceBinding) → row_at (n + 1) ≤ length t → all_zero (drop (row_at n) t) ≡ true → all_zero (drop (row_at (n + 1)) (over t (row_at n) (row_of b))) ≡ true
rest_after t n b h z =
    rw (row_next n b, drop_over t (row_at n) (row_of b) (row_fits n (length t) b h))
    (zeros_later t (row_at n) (row_at n + length (row_of b)) (omega arith) z)

-- The numbers of a record are what stands in its row; so tables with the same records are the same there.

row_stands : (t : List ℕ) (n : ℕ) → row_at n + ROW ≤ length t → take ROW (drop (row_at n) t) ≡ row_of (record_at t n)
row_stands t n h =
    let a = row_at n in
    let one : a + 1 ≡ suc a = add-one a in
    let two : a + 2 ≡ suc (suc a) = omega arith in
    let three : a + 3 ≡ suc (suc (suc a)) = omega arith in
    rw (drop-cons t a 0 (omega arith), drop-cons t (suc a) 0 (omega arith), drop-cons t (suc (suc a)) 0 (omega arith), drop-cons t (suc (suc (suc a))) 0 (omega arith), one, two, three)

pub take_same : (n : ℕ) (l m : List ℕ) → row_at n ≤ length l → row_at n ≤ length m → Same n (record_at l) (record_at m) → take (row_at n) l ≡ take (row_at n) m
take_same zero l m h k s = refl
take_same (suc n) l m h k s =
    let e : row_at (suc n) ≡ row_at n + ROW = omega arith in
    let i = take_same n l m (omega arith) (omega arith) (λ j b. s j (omega arith)) in
    rw (e, take-add (row_at n) ROW l, take-add (row_at n) ROW m, row_stands l n (omega arith), row_stands m n (omega arith), i)
    (ap (λ (b : NamespaceBinding). take (row_at n) m ++ row_of b) (s n (omega arith)))
