-- Exactly when 16, 18 and 19 come: the three tests of a binding, one after the other, read off the answer. `add` comes to them
-- where neither 20 nor 12 to 15 refuse.
use Prim.Native.Nat.{ℕ, ◌+◌, ◌-◌, ◌≤◌, ◌<◌}
use mathlib.Core.Path.{◌≡◌, refl, sym, ap, ◌∙◌}
use mathlib.Core.Bool.{Bool, true, false, false≢true}
use mathlib.Core.List.{List}
use mathlib.Core.Logic.{◌↔◌}
use native.Mathlib.Omega.{arith}
use lib.Dec.{eqb, leb, ltb}
use lib.ListN.{length, take, get_or}
use borrow.Author.Tests.{ltb-true, leb-true, leb-false, lt-ltb, le-leb, lt-leb}
use Rattle.std.specs.Prelude.{Ok, Err, Option, Some}
use Rattle.scan.specs.First.{pick}
use Rattle.scope_table.specs.Table.{TEXT, RECORDS, valid_of}
use Rattle.scope_table.specs.Answer.{change_numbers, NamespaceResult}
use Rattle.scope_table.specs.declared.NamespaceResolver.{NamespaceResolver}
use Rattle.scope_table.specs.declared.NamespaceError.TheVariants.{TooManyBindings, BindingTableFull, TextFull}
use Rattle.scope_table.proofs.Good.{form_of_lem}
use Rattle.scope_change.specs.Change.{whole, refusal_of, appended, append_of}
use Rattle.scope_declare.specs.Declare.{wholly, judge_of, settle_of, declare_of, add_of}
use Rattle.name.specs.declared.PrefixDeclaration.{PrefixDeclaration}
use Rattle.law_scopes.specs.Promises.{SixteenExactly, EighteenExactly, NineteenExactly}

module _ (limit : ℕ) (x : NamespaceResolver) (p v : List ℕ) where
  -- what the three tests give
  abbrev tested : (t₁ t₂ t₃ : Bool) → NamespaceResult
  tested t₁ t₂ t₃ = (appended (pick t₁ (Err (TooManyBindings limit)) (pick t₂ (Err BindingTableFull) (pick t₃ (Err TextFull) (Ok tt)))) p v x).answer

  -- the number of an answer is not this one
  another : (a b : NamespaceResult) (n : ℕ) → eqb (get_or (change_numbers a) 0 0) n ≡ false → eqb (get_or (change_numbers b) 0 0) n ≡ true → a ≡ b → ⊥
  another a b n f t e = false≢true (sym f ∙ ap (λ (c : NamespaceResult). eqb (get_or (change_numbers c) 0 0) n) e ∙ t)

  tested_many : (t₁ t₂ t₃ : Bool) → tested t₁ t₂ t₃ ≡ Err (TooManyBindings limit) → t₁ ≡ true
  unfolding change_numbers
  tested_many true t₂ t₃ e = refl
  tested_many false true t₃ e = absurd (another (Err BindingTableFull) (Err (TooManyBindings limit)) 16 refl refl e)
  tested_many false false true e = absurd (another (Err TextFull) (Err (TooManyBindings limit)) 16 refl refl e)
  tested_many false false false e = absurd (another (Ok tt) (Err (TooManyBindings limit)) 16 refl refl e)

  tested_full : (t₁ t₂ t₃ : Bool) → tested t₁ t₂ t₃ ≡ Err BindingTableFull → (t₁ ≡ false) × (t₂ ≡ true)
  unfolding change_numbers
  tested_full true t₂ t₃ e = absurd (another (Err (TooManyBindings limit)) (Err BindingTableFull) 18 refl refl e)
  tested_full false true t₃ e = (refl, refl)
  tested_full false false true e = absurd (another (Err TextFull) (Err BindingTableFull) 18 refl refl e)
  tested_full false false false e = absurd (another (Ok tt) (Err BindingTableFull) 18 refl refl e)

  tested_text : (t₁ t₂ t₃ : Bool) → tested t₁ t₂ t₃ ≡ Err TextFull → (t₁ ≡ false) × ((t₂ ≡ false) × (t₃ ≡ true))
  unfolding change_numbers
  tested_text true t₂ t₃ e = absurd (another (Err (TooManyBindings limit)) (Err TextFull) 19 refl refl e)
  tested_text false true t₃ e = absurd (another (Err BindingTableFull) (Err TextFull) 19 refl refl e)
  tested_text false false true e = (refl, (refl, refl))
  tested_text false false false e = absurd (another (Ok tt) (Err TextFull) 19 refl refl e)

module _ (x : NamespaceResolver) (ok : valid_of x ≡ true) (p v : List ℕ) where
  abbrev limited : Bool
  limited = leb x.head.limit (x.head.count - 2)

  abbrev full : Bool
  full = leb RECORDS x.head.count

  abbrev over : Bool
  over = ltb TEXT (x.head.used + (length p + length v))

  append_sixteen : (append_of whole p v x).answer ≡ Err (TooManyBindings x.head.limit) ↔ (x.head.limit ≤ x.head.count - 2)
  unfolding append_of refusal_of
  append_sixteen = (there, back_again) where
    there : (append_of whole p v x).answer ≡ Err (TooManyBindings x.head.limit) → x.head.limit ≤ x.head.count - 2
    there e = leb-true x.head.limit (x.head.count - 2) (tested_many x.head.limit x p v limited full over e)

    back_again : x.head.limit ≤ x.head.count - 2 → (append_of whole p v x).answer ≡ Err (TooManyBindings x.head.limit)
    back_again h = rw (le-leb x.head.limit (x.head.count - 2) h)

  append_eighteen : (append_of whole p v x).answer ≡ Err BindingTableFull ↔ ((x.head.count - 2 < x.head.limit) × (x.head.count ≡ RECORDS))
  unfolding append_of refusal_of
  append_eighteen = (there, back_again) where
    there : (append_of whole p v x).answer ≡ Err BindingTableFull → (x.head.count - 2 < x.head.limit) × (x.head.count ≡ RECORDS)
    there e =
        let t = tested_full x.head.limit x p v limited full over e in
        (leb-false x.head.limit (x.head.count - 2) t.0, omega (arith, (form_of_lem x ok).few, leb-true RECORDS x.head.count t.1))

    back_again : (x.head.count - 2 < x.head.limit) × (x.head.count ≡ RECORDS) → (append_of whole p v x).answer ≡ Err BindingTableFull
    back_again h = rw (lt-leb x.head.limit (x.head.count - 2) h.0, le-leb RECORDS x.head.count (omega (arith, h.1)))

  append_nineteen :
      (append_of whole p v x).answer ≡ Err TextFull
      ↔ ((x.head.count - 2 < x.head.limit) × ((x.head.count < RECORDS) × (TEXT < x.head.used + (length p + length v))))
  unfolding append_of refusal_of
  append_nineteen = (there, back_again) where
    there : (append_of whole p v x).answer ≡ Err TextFull → (x.head.count - 2 < x.head.limit) × ((x.head.count < RECORDS) × (TEXT < x.head.used + (length p + length v)))
    there e =
        let t = tested_text x.head.limit x p v limited full over e in (
          leb-false x.head.limit (x.head.count - 2) t.0,
          (leb-false RECORDS x.head.count t.1.0, ltb-true TEXT (x.head.used + (length p + length v)) t.1.1),
        )

    back_again : (x.head.count - 2 < x.head.limit) × ((x.head.count < RECORDS) × (TEXT < x.head.used + (length p + length v))) → (append_of whole p v x).answer ≡ Err TextFull
    back_again h =
        rw (lt-leb x.head.limit (x.head.count - 2) h.0, lt-leb RECORDS x.head.count h.1.0, lt-ltb TEXT (x.head.used + (length p + length v)) h.1.1)

-- what 12 to 15 let through is appended
add_is : (x : NamespaceResolver) → valid_of x ≡ true → (d : Option PrefixDeclaration) (p v : List ℕ) (n : ℕ) → judge_of d p v (wholly p v) ≡ Ok (Some n) → add_of d p v x ≡ append_of whole (take n p) v x
unfolding add_of declare_of settle_of
add_is x ok d p v n e = rw (ok, e)

pub sixteen_exactly : SixteenExactly
unfolding SixteenExactly
sixteen_exactly x ok d p v n e = rw (add_is x ok d p v n e) (append_sixteen x ok (take n p) v)

pub eighteen_exactly : EighteenExactly
unfolding EighteenExactly
eighteen_exactly x ok d p v n e = rw (add_is x ok d p v n e) (append_eighteen x ok (take n p) v)

pub nineteen_exactly : NineteenExactly
unfolding NineteenExactly
nineteen_exactly x ok d p v n e = rw (add_is x ok d p v n e) (append_nineteen x ok (take n p) v)
