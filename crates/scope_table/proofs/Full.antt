-- Two laws for whoever lends. Memory of full size is the resolver itself, and no call on it answers LendMore or WrongLength;
-- and more zeros lent make no other resolver, so that a call that answered LendMore is the same call when it is made again.
use Prim.Native.Nat.{ℕ, ◌≤◌}
use mathlib.Core.Path.{◌≡◌, refl, sym, ap, ◌∙◌}
use mathlib.Core.Bool.{Bool, true, false}
use mathlib.Core.List.{List}
use native.Mathlib.Omega.{arith}
use lib.Dec.{leb}
use lib.ListN.{length}
use lib.Seq.{take_all}
use borrow.Author.Tests.{leb-true, leb-false, le-leb}
use Rattle.scan.specs.Lists.{pad_to}
use Rattle.scan.proofs.Lists.{pad_full, pad_pad}
use Rattle.scope_table.specs.Records.{row_at}
use Rattle.scope_table.specs.Table.{TEXT, NUMBERS, resolver_of}
use Rattle.scope_table.specs.Lent.{stands_for, holds_of, fits_of, lent, given, lent_of}
use Rattle.scope_table.specs.declared.Head.{Head}
use Rattle.scope_table.specs.declared.NamespaceResolver.{NamespaceResolver}
use Rattle.scope_table.specs.declared.Changed.{Changed}
use Rattle.scope_table.proofs.Lists.{and_take}
use Rattle.scope_table.proofs.Pad.{holds_beyond, holds_is}
use Rattle.scope_table.proofs.Calls.{asks, changes}

-- memory of full size holds whatever a head says
holds_full : (capacity inUse : ℕ) → holds_of capacity capacity inUse ≡ true
holds_full capacity inUse = by (leb inUse capacity) refl where
  by : (t : Bool) → leb inUse capacity ≡ t → holds_of capacity capacity inUse ≡ true
  by true e = holds_is capacity capacity inUse (omega arith) (leb-true inUse capacity e)
  by false e = holds_beyond capacity capacity inUse (leb-false inUse capacity e) ∙ le-leb capacity capacity (omega arith)

pub fits_full : (bytes numbers used count : ℕ) → bytes ≡ TEXT → numbers ≡ NUMBERS → fits_of bytes numbers used count ≡ true
unfolding fits_of
fits_full bytes numbers used count b n = rw (b, n) (and_take (holds_full TEXT used) (holds_full NUMBERS (row_at count)))

module _ (text records : List ℕ) (head : Head) (t : length text ≡ TEXT) (r : length records ≡ NUMBERS) where
  -- it stands for itself
  pub full_stands : stands_for text records head ≡ resolver_of text records head
  full_stands = rw (pad_full TEXT text t, pad_full NUMBERS records r)

  -- a call that asks
  pub full_asks : {A : Type 0} (wrong : A) (f : NamespaceResolver → A) → lent wrong f text records head ≡ f (resolver_of text records head)
  full_asks wrong f =
      asks text records head wrong f (fits_full (length text) (length records) head.used head.count t r) ∙ ap f full_stands

  -- one that changes the resolver: its answer, and what it leaves
  pub full_is : (f : NamespaceResolver → Changed) →
      let c = f (resolver_of text records head) in
      length c.resolver.text ≡ TEXT → length c.resolver.records ≡ NUMBERS →
      lent_of f text records head ≡ given c.answer c.resolver.text c.resolver.records c.resolver.head
  full_is f t' r' =
      let c = f (resolver_of text records head) in
      sym (changes text records head (fits_full (length text) (length records) head.used head.count t r) f c.answer c.resolver c.resolver.text c.resolver.records
      (ap f full_stands)
      (fits_full (length text) (length records) c.resolver.head.used c.resolver.head.count t r)
      (take_all (length text) c.resolver.text (omega arith))
      (take_all (length records) c.resolver.records (omega arith)))

-- More is lent, zeros: it stands for the same resolver.
pub lent_again : (b n : ℕ) (text records : List ℕ) (head : Head) → length text ≤ b → b ≤ TEXT → length records ≤ n → n ≤ NUMBERS →
    stands_for (pad_to b text) (pad_to n records) head ≡ stands_for text records head
lent_again b n text records head h k i j = rw (pad_pad b TEXT text h k, pad_pad n NUMBERS records i j)
