-- What is cut off a resolver where memory holds what is in use is zeros, so that the memory stands for all of it.
use Prim.Native.Nat.{ℕ, ◌-◌, ◌≤◌}
use mathlib.Core.Path.{◌≡◌, refl, sym, ap, subst, ◌∙◌}
use mathlib.Core.Bool.{Bool, true, false}
use mathlib.Core.List.{List}
use mathlib.Core.Logic.{◌⊎◌, inl, inr}
use native.Mathlib.Omega.{arith}
use lib.ListN.{length, take, drop}
use lib.Seq.{length-take-le}
use Rattle.std.specs.Prelude.{Ok, Err}
use Rattle.scan.specs.Lists.{pad_to}
use Rattle.scan.proofs.Lists.{pad_length}
use Rattle.scope_table.specs.Lists.{all_zero, cut}
use Rattle.scope_table.specs.Records.{row_at}
use Rattle.scope_table.specs.Table.{TEXT, NUMBERS, valid_of}
use Rattle.scope_table.specs.Lent.{stands_for, holds_of, fits_of, Given, given, lent_of, form_of}
use Rattle.scope_table.specs.declared.Head.{Head}
use Rattle.scope_table.specs.declared.NamespaceResolver.{NamespaceResolver}
use Rattle.scope_table.specs.declared.Changed.{Changed}
use Rattle.scope_table.specs.Answer.{NamespaceResult}
use Rattle.scope_table.specs.declared.NamespaceError.TheVariants.{LendMore}
use Rattle.scope_table.proofs.Lists.{and_left, and_right, zeros_later, cut_zeros}
use Rattle.scope_table.proofs.Rows.{rows_within}
use Rattle.scope_table.proofs.Pad.{holds_within}
use Rattle.scope_table.proofs.Good.{form_of_lem, valid_lent, form_good, ready}
use Rattle.scope_table.proofs.Calls.{changes, lends_more}
use Rattle.law_scopes.specs.Calls.{Call, call_of}
use Rattle.law_scopes.specs.Promises.{Proper, ValidStays}
use Rattle.law_scopes.proofs.Valid.{valid_stays}
use Rattle.law_lent.specs.Follows.{MemoryFor, LentLeft, LentFollows}

-- a list that is zeros from n on, cut at n and padded again
pad_of_take : (m n : ℕ) (ys : List ℕ) → length ys ≡ m → n ≤ m → all_zero (drop n ys) ≡ true → pad_to m (take n ys) ≡ ys
unfolding pad_to cut
pad_of_take m n ys e h z =
    let l = length-take-le n ys (omega arith) in
    let k : m - length (take n ys) ≡ length ys - n = omega arith in
    rw k (cut_zeros ys n z)

module _ (bytes numbers : ℕ) (y : NamespaceResolver) (p : Proper y) where
  -- what is left of it
  abbrev left : NamespaceResult → Given
  left a = given a (take bytes y.text) (take numbers y.records) y.head

  pub held_kept : (text records : List ℕ) (a : NamespaceResult) → length text ≡ bytes → length records ≡ numbers →
      fits_of bytes numbers y.head.used y.head.count ≡ true → MemoryFor text records y (left a)
  unfolding fits_of
  held_kept text records a t r e =
      let f = form_of_lem y p.valid in
      let b = holds_within TEXT bytes y.head.used f.small (and_left (holds_of TEXT bytes y.head.used) _ e) in
      let n = holds_within NUMBERS numbers (row_at y.head.count) (rows_within y.head.count f.few) (and_right (holds_of TEXT bytes y.head.used) _ e) in
      let lt = length-take-le bytes y.text (omega (arith, b.0, p.sized.text)) in
      let lr = length-take-le numbers y.records (omega (arith, n.0, p.sized.records)) in
      let et = pad_of_take TEXT bytes y.text p.sized.text b.0 (zeros_later y.text y.head.used bytes b.1 f.rest_text) in
      let er = pad_of_take NUMBERS numbers y.records p.sized.records n.0 (zeros_later y.records (row_at y.head.count) numbers n.1 f.rest_records) in
      let st : stands_for (take bytes y.text) (take numbers y.records) y.head ≡ y = rw (et, er) in
      let fit : fits_of (length (take bytes y.text)) (length (take numbers y.records)) y.head.used y.head.count ≡ true = rw (lt, lr) e in
      record {
        stands = st;
        text_length = lt ∙ sym t;
        records_length = lr ∙ sym r;
        ready = form_good (take bytes y.text) (take numbers y.records) y.head fit
            (sym (valid_lent (take bytes y.text) (take numbers y.records) y.head) ∙ ap valid_of st ∙ p.valid);
      }

module _ (text records : List ℕ) (head : Head) (good : form_of text records head ≡ Ok tt) where
  -- memory that is ready stands for a resolver that 20 does not refuse
  pub stands_proper : Proper (stands_for text records head)
  stands_proper =
      let r = ready text records head good in
      record {
        sized = record { text = pad_length TEXT text r.bytes_most; records = pad_length NUMBERS records r.numbers_most };
        valid = r.valid;
      }

  module _ (c : Call) where
    abbrev after : Changed
    after = call_of c (stands_for text records head)

    abbrev Held : Bool → Type 0
    Held t = fits_of (length text) (length records) after.resolver.head.used after.resolver.head.count ≡ t

    -- the memory holds what the call leaves
    pub call_left : Held true → LentLeft text records after (lent_of (call_of c) text records head)
    unfolding ValidStays
    call_left e =
        let y = after.resolver in
        let g = changes text records head (ready text records head good).fit (call_of c) after.answer y (take (length text) y.text) (take (length records) y.records) refl e refl refl in
        subst (λ (h : Given). LentLeft text records after h) g
        (record { answer = refl; kept = held_kept (length text) (length records) y (valid_stays (stands_for text records head) stands_proper c) text records after.answer refl refl e })

    -- or it does not
    pub call_more : Held false → lent_of (call_of c) text records head ≡ given (Err LendMore) text records head
    call_more e = sym (lends_more text records head (ready text records head good).fit (call_of c) after.answer after.resolver refl e)

  -- one of both
  call_either : (c : Call) (t : Bool) → Held c t → (lent_of (call_of c) text records head ≡ given (Err LendMore) text records head) ⊎ LentLeft text records (after c) (lent_of (call_of c) text records head)
  call_either c true e = inr (call_left c e)
  call_either c false e = inl (call_more c e)

pub lent_follows : LentFollows
unfolding LentFollows
lent_follows text records head good c = call_either text records head good c _ refl
