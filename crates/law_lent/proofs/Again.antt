-- Zeros lent after what was lent: the same resolver, and what is in use is still held.
use Prim.Native.Nat.{ℕ, ◌≤◌}
use mathlib.Core.Path.{◌≡◌, refl, sym, ap, subst, ◌∙◌}
use mathlib.Core.Bool.{Bool, true, false}
use mathlib.Core.List.{List}
use native.Mathlib.Omega.{arith}
use lib.Dec.{leb}
use lib.ListN.{length}
use borrow.Author.Tests.{leb-true, leb-false, le-leb}
use Rattle.std.specs.Prelude.{Ok}
use Rattle.scan.specs.Lists.{pad_to}
use Rattle.scan.proofs.Lists.{pad_length}
use Rattle.scope_table.specs.Records.{row_at}
use Rattle.scope_table.specs.Table.{TEXT, NUMBERS, valid_of}
use Rattle.scope_table.specs.Lent.{stands_for, holds_of, fits_of, lent_of, form_of}
use Rattle.scope_table.specs.declared.Head.{Head}
use Rattle.scope_table.specs.declared.NamespaceResolver.{NamespaceResolver}
use Rattle.scope_table.proofs.Lists.{and_left, and_right, and_take}
use Rattle.scope_table.proofs.Pad.{holds_beyond, holds_within, holds_is}
use Rattle.scope_table.proofs.Good.{valid_lent, form_good, ready}
use Rattle.scope_table.proofs.Calls.{asks}
use Rattle.scope_table.proofs.Full.{lent_again}
use Rattle.law_scopes.specs.Calls.{call_of}
use Rattle.law_lent.specs.Follows.{LentLeft, Longer, AsksAgain, CallsAgain}
use Rattle.law_lent.proofs.Held.{call_left, call_more}

-- what a list holds, a longer one holds
holds_longer : (capacity l m inUse : ℕ) → l ≤ m → m ≤ capacity → holds_of capacity l inUse ≡ true → holds_of capacity m inUse ≡ true
holds_longer capacity l m inUse h k e = by (leb inUse capacity) refl where
  by : (t : Bool) → leb inUse capacity ≡ t → holds_of capacity m inUse ≡ true
  by true f = holds_is capacity m inUse k (omega (arith, (holds_within capacity l inUse (leb-true inUse capacity f) e).1))
  by false f = holds_beyond capacity m inUse (leb-false inUse capacity f) ∙ le-leb m capacity k

module _ (text records : List ℕ) (head : Head) (bytes numbers : ℕ) (longer : Longer text records bytes numbers) where
  bytes_are : length (pad_to bytes text) ≡ bytes
  bytes_are = pad_length bytes text longer.bytes_least

  numbers_are : length (pad_to numbers records) ≡ numbers
  numbers_are = pad_length numbers records longer.numbers_least

  stands_again : stands_for (pad_to bytes text) (pad_to numbers records) head ≡ stands_for text records head
  stands_again = lent_again bytes numbers text records head longer.bytes_least longer.bytes_most longer.numbers_least longer.numbers_most

  fits_again : fits_of (length text) (length records) head.used head.count ≡ true → fits_of (length (pad_to bytes text)) (length (pad_to numbers records)) head.used head.count ≡ true
  unfolding fits_of
  fits_again e =
      rw (bytes_are, numbers_are)
      (and_take (holds_longer TEXT (length text) bytes head.used longer.bytes_least longer.bytes_most (and_left (holds_of TEXT (length text) head.used) _ e))
      (holds_longer NUMBERS (length records) numbers (row_at head.count) longer.numbers_least longer.numbers_most (and_right (holds_of TEXT (length text) head.used) _ e)))

  good_again : form_of text records head ≡ Ok tt → form_of (pad_to bytes text) (pad_to numbers records) head ≡ Ok tt
  good_again good =
      let r = ready text records head good in
      form_good (pad_to bytes text) (pad_to numbers records) head (fits_again r.fit)
      (sym (valid_lent (pad_to bytes text) (pad_to numbers records) head) ∙ ap valid_of stands_again ∙ r.valid)

pub asks_again : AsksAgain
unfolding AsksAgain
asks_again text records head fit bytes numbers longer =
    let s = stands_again text records head bytes numbers longer in
    let f = fits_again text records head bytes numbers longer fit in
    (s, f, λ A wrong call. asks (pad_to bytes text) (pad_to numbers records) head wrong call f ∙ ap call s ∙ sym (asks text records head wrong call fit))

pub calls_again : CallsAgain
unfolding CallsAgain
calls_again text records head good bytes numbers longer c =
    let more = pad_to bytes text in
    let rows = pad_to numbers records in
    let s = stands_again text records head bytes numbers longer in
    let g = good_again text records head bytes numbers longer good in (
      λ e. subst (λ (x : NamespaceResolver). LentLeft more rows (call_of c x) (lent_of (call_of c) more rows head)) s (call_left more rows head g c (fitted true e)),
      λ e. call_more more rows head g c (fitted false e),
    ) where
      fitted : (t : Bool) → fits_of bytes numbers (call_of c (stands_for text records head)).resolver.head.used (call_of c (stands_for text records head)).resolver.head.count ≡ t →
          fits_of (length (pad_to bytes text)) (length (pad_to numbers records)) (call_of c (stands_for (pad_to bytes text) (pad_to numbers records) head)).resolver.head.used (call_of c (stands_for (pad_to bytes text) (pad_to numbers records) head)).resolver.head.count ≡ t
      fitted t e = rw (stands_again text records head bytes numbers longer, bytes_are text records head bytes numbers longer, numbers_are text records head bytes numbers longer) e
