-- The fresh resolver in lent memory: zeros, with the built-ins written over their beginning.
use Prim.Native.Nat.{ℕ, zero, suc, ◌+◌, ◌-◌, ◌≤◌}
use mathlib.Core.Path.{◌≡◌, refl, sym, ap, ◌∙◌}
use mathlib.Core.Bool.{Bool, true, false, ◌&&◌}
use mathlib.Core.List.{List, ◌++◌}
use native.Mathlib.Omega.{arith}
use lib.Dec.{leb}
use lib.ListN.{length, take, drop, replicate, length-append, length-replicate, replicate-append-replicate}
use lib.Seq.{take_at, drop_at, take_all, take-append-add}
use borrow.Author.Tests.{leb-true, le-leb}
use Rattle.std.specs.Prelude.{Ok, Err}
use Rattle.scan.specs.Bytes.{bytes, bytes_from}
use Rattle.scan.specs.Lists.{over}
use Rattle.scope_table.specs.Lists.{all_zero, cut}
use Rattle.scope_table.specs.Records.{row_at}
use Rattle.scope_table.specs.Table.{TEXT, NUMBERS, LIMIT, built_in, built_in_rows, head_of, resolver_of, fresh_of}
use Rattle.scope_table.specs.Answer.{changed}
use Rattle.scope_table.specs.Lent.{holds_of, fits_of, given, held_of, fresh_in}
use Rattle.scope_table.specs.declared.Head.{Head}
use Rattle.scope_table.specs.declared.NamespaceError.TheVariants.{LendMore, WrongLength}
use Rattle.scope_table.proofs.Lists.{and_left, and_right, and_take}
use Rattle.scope_table.proofs.Pad.{zeros_all, holds_within}
use Rattle.scope_table.proofs.Full.{fits_full}

abbrev zeros : ℕ → List ℕ
zeros n = replicate n 0

-- Zeros with b written over their beginning are b before zeros, as many as are left.

drop_zeros : (k n : ℕ) → drop k (zeros n) ≡ zeros (n - k)
drop_zeros zero n =
    let e : n ≡ n - 0 = omega arith in
    ap zeros e
drop_zeros (suc k) zero =
    let e : ◌≡◌ {A = ℕ} 0 (0 - suc k) = omega arith in
    ap zeros e
drop_zeros (suc k) (suc n) =
    let e : n - k ≡ suc n - suc k = omega arith in
    drop_zeros k n ∙ ap zeros e

take_zeros : (n m : ℕ) → n ≤ m → take n (zeros m) ≡ zeros n
take_zeros n m h =
    let e : n + (m - n) ≡ m = omega arith in
    ap (λ (j : ℕ). take n (zeros j)) (sym e)
    ∙ ap (take n) (sym (replicate-append-replicate {A = ℕ} n (m - n) 0))
    ∙ take_at (zeros n) (zeros (m - n)) n (length-replicate n 0)

over_zeros : (t b : List ℕ) → over (cut t 0) 0 b ≡ b ++ zeros (length t - length b)
unfolding over cut
over_zeros t b =
    let e : 0 + length b ≡ length b = omega arith in
    let f : length t - 0 ≡ length t = omega arith in
    rw (f, e, drop_zeros (length b) (length t))

take_fresh : (n m : ℕ) (b : List ℕ) → length b ≤ n → n ≤ length b + m → take n (b ++ zeros m) ≡ b ++ zeros (n - length b)
take_fresh n m b h k =
    let e : length b + (n - length b) ≡ n = omega arith in
    ap (λ (j : ℕ). take j (b ++ zeros m)) (sym e)
    ∙ take-append-add b (zeros m) (n - length b)
    ∙ ap (λ (u : List ℕ). b ++ u) (take_zeros (n - length b) m (omega arith))

-- the parts of the fresh resolver
pub built_in_length : length built_in ≡ 73
unfolding built_in bytes bytes_from
built_in_length = refl

pub fresh_is : fresh_of ≡ resolver_of (built_in ++ zeros (TEXT - 73)) (built_in_rows ++ zeros (NUMBERS - row_at 2)) (head_of 73 2 0 LIMIT)
unfolding fresh_of
fresh_is = refl

-- its sizes, and that zeros follow its text and its records
pub fresh_bytes : length fresh_of.text ≡ TEXT
unfolding fresh_of
fresh_bytes = length-append built_in (zeros (TEXT - 73)) ∙ omega (arith, built_in_length, length-replicate {A = ℕ} (TEXT - 73) 0)

pub fresh_numbers : length fresh_of.records ≡ NUMBERS
unfolding fresh_of
fresh_numbers = length-append built_in_rows (zeros (NUMBERS - row_at 2)) ∙ omega (arith, length-replicate {A = ℕ} (NUMBERS - row_at 2) 0)

pub fresh_rest_text : all_zero (drop 73 fresh_of.text) ≡ true
unfolding fresh_of
fresh_rest_text = rw (drop_at built_in (zeros (TEXT - 73)) 73 built_in_length) (zeros_all (TEXT - 73))

pub fresh_rest_records : all_zero (drop (row_at 2) fresh_of.records) ≡ true
unfolding fresh_of
fresh_rest_records = rw (drop_at built_in_rows (zeros (NUMBERS - row_at 2)) (row_at 2) refl) (zeros_all (NUMBERS - row_at 2))

-- The ways in which the call ends.
module _ (text records : List ℕ) (head : Head) where
  abbrev WithinCapacity : Bool → Type 0
  WithinCapacity t = (leb (length text) TEXT && leb (length records) NUMBERS) ≡ t

  pub fresh_wrong : WithinCapacity false → given (Err WrongLength) text records head ≡ fresh_in text records head
  unfolding fresh_in
  fresh_wrong w = rw w

  module _ (w : WithinCapacity true) where
    fresh_held : fresh_in text records head ≡ held_of text records head (changed (Ok tt) fresh_of)
    unfolding fresh_in
    fresh_held = rw w

    pub fresh_more : fits_of (length text) (length records) 73 2 ≡ false → given (Err LendMore) text records head ≡ fresh_in text records head
    unfolding held_of
    fresh_more f = sym (fresh_held ∙ rw (fresh_is, f))

    pub fresh_lent : fits_of (length text) (length records) 73 2 ≡ true → (73 ≤ length text) × (row_at 2 ≤ length records)
    unfolding fits_of
    fresh_lent f = (
      (holds_within TEXT (length text) 73 (omega arith) (and_left (holds_of TEXT (length text) 73) _ f)).1,
      (holds_within NUMBERS (length records) (row_at 2) (omega arith) (and_right (holds_of TEXT (length text) 73) _ f)).1,
    )

    pub fresh_done : fits_of (length text) (length records) 73 2 ≡ true → given (Ok tt) (over (cut text 0) 0 built_in) (over (cut records 0) 0 built_in_rows) (head_of 73 2 0 LIMIT) ≡ fresh_in text records head
    unfolding held_of
    fresh_done f =
        let l = fresh_lent f in
        let b = built_in_length in
        let h : length text ≤ TEXT = leb-true (length text) TEXT (and_left (leb (length text) TEXT) _ w) in
        let k : length records ≤ NUMBERS = leb-true (length records) NUMBERS (and_right (leb (length text) TEXT) _ w) in
        let t = over_zeros text built_in ∙ sym (take_fresh (length text) (TEXT - 73) built_in (omega (arith, b, l.0)) (omega (arith, b, h))) in
        let r = over_zeros records built_in_rows ∙ sym (take_fresh (length records) (NUMBERS - row_at 2) built_in_rows (omega (arith, l.1)) (omega (arith, k))) in
        sym (fresh_held ∙ rw (fresh_is, f, t, r))

-- In memory of full size it is the fresh resolver itself.
pub fresh_full : (text records : List ℕ) (head : Head) → length text ≡ TEXT → length records ≡ NUMBERS → fresh_in text records head ≡ given (Ok tt) fresh_of.text fresh_of.records fresh_of.head
unfolding held_of
fresh_full text records head t r =
    let b = built_in_length in
    let p : length (built_in ++ zeros (TEXT - 73)) ≤ length text = omega (arith, t, b, length-append built_in (zeros (TEXT - 73)), length-replicate {A = ℕ} (TEXT - 73) 0) in
    let q : length (built_in_rows ++ zeros (NUMBERS - row_at 2)) ≤ length records = omega (arith, r, length-append built_in_rows (zeros (NUMBERS - row_at 2)), length-replicate {A = ℕ} (NUMBERS - row_at 2) 0) in
    fresh_held text records head (and_take (le-leb (length text) TEXT (omega arith)) (le-leb (length records) NUMBERS (omega arith)))
    ∙ rw (fresh_is, fits_full (length text) (length records) 73 2 t r, take_all (length text) (built_in ++ zeros (TEXT - 73)) p, take_all (length records) (built_in_rows ++ zeros (NUMBERS - row_at 2)) q)
