-- The bounds of a lookup's answer mark the text that they stand for: a record that refusal 20 passes ends within the text in
-- use, and a prefix is the start of its name.
use Prim.Native.Nat.{ℕ, zero, suc, ◌-◌, ◌≤◌, ◌<◌, zero-le}
use mathlib.Core.Path.{◌≡◌, refl, ap}
use mathlib.Core.Bool.{Bool, true, false}
use mathlib.Core.List.{List, []}
use native.Mathlib.Omega.{arith}
use lib.Dec.{eqb}
use lib.ListN.{length, take}
use lib.Seq.{take_all, length-take-le}
use borrow.Author.Tests.{ltb-true}
use Rattle.scan.specs.Bytes.{Marks, part}
use Rattle.scan.proofs.Laws.{picks}
use Rattle.name.specs.Split.{colon_at, has_colon, prefix_of}
use Rattle.scope_table.specs.Lists.{last_below}
use Rattle.scope_table.specs.Records.{record_at, value_end, value_in}
use Rattle.scope_table.specs.Table.{valid_of}
use Rattle.scope_table.specs.declared.NamespaceBinding.{NamespaceBinding}
use Rattle.scope_table.specs.declared.NamespaceResolver.{NamespaceResolver}
use Rattle.scope_table.proofs.Good.{form_of_lem, lies}
use Rattle.scope_table.proofs.Last.{last_within}
use Rattle.scope_lookup.specs.Lookup.{has_prefix, is_default, value_or, explicit_of, default_of, among_of, resolve_prefix_of, resolve_of}
use Rattle.scope_lookup.specs.Marked.{last_for, value_nth, MarksFound, PrefixMarks, ResolveMarks}
use Rattle.std.specs.Prelude.{Ok}
use Rattle.scope_lookup.specs.declared.ResolveResult.{ResolveResult}
use Rattle.scope_lookup.specs.declared.ResolveResult.TheVariants.{Unbound, Unknown}

module _ (text name p : List ℕ) (rows : ℕ → NamespaceBinding) (count : ℕ) (within : (k : ℕ) → k < count → value_end (rows k) ≤ length text) (here : Marks name 0 (length p) p) where
  value_marks : (other : ResolveResult) → ((uri : List ℕ) → MarksFound text name uri p (Ok other)) → (n : ℕ) → n ≤ count → MarksFound text name (value_nth text rows n) p (Ok (value_or rows other n))
  unfolding value_or value_nth value_in
  value_marks other o zero h = o []
  value_marks other o (suc i) h =
      picks (λ (r : ResolveResult). MarksFound text name (value_nth text rows (suc i)) p (Ok r)) (eqb (rows i).value_len 0) (λ e. o _)
      (λ e. record { ahead = omega arith; inside = within i (omega arith); between = refl })

  among_marks : (explicit wanted : Bool) → MarksFound text name (value_nth text rows (last_for text rows count p explicit)) p (Ok (among_of text rows count p explicit wanted))
  unfolding among_of explicit_of default_of
  among_marks true wanted =
      let like : ℕ → Bool = λ i. has_prefix text p (rows i) in
      picks (λ (r : ResolveResult). MarksFound text name (value_nth text rows (last_below like count)) p (Ok r)) (eqb (length p) 0) (λ e. here)
      (λ e. value_marks (Unknown 0 (length p)) (λ uri. here) (last_below like count) (last_within like count))
  among_marks false wanted =
      let none : ℕ → Bool = λ i. is_default (rows i) in
      picks (λ (r : ResolveResult). MarksFound text name (value_nth text rows (last_below none count)) p (Ok r)) wanted
      (λ e. value_marks Unbound (λ uri. tt) (last_below none count) (last_within none count)) (λ e. tt)

-- a prefix as a whole, and in its name
whole_at : (p : List ℕ) → Marks p 0 (length p) p
unfolding part
whole_at p = record { ahead = zero-le; inside = omega arith; between = take_all (length p - 0) p (omega arith) }

prefix_at : (name : List ℕ) → Marks name 0 (length (prefix_of name)) (prefix_of name)
unfolding prefix_of has_colon part
prefix_at name =
    picks (λ (p : List ℕ). Marks name 0 (length p) p) (has_colon name)
    (λ e.
    let c = colon_at name in
    let l = ltb-true c (length name) e in
    let n = length-take-le c name (omega arith) in
    let q : length (take c name) - 0 ≡ c = omega arith in
    record { ahead = zero-le; inside = omega arith; between = ap (λ (k : ℕ). take k name) q })
    (λ e. record { ahead = zero-le; inside = zero-le; between = refl })

-- `resolve_prefix`, and `resolve`.
module _ (x : NamespaceResolver) (v : valid_of x ≡ true) (w : x.head.used ≤ length x.text) where
  within_text : (k : ℕ) → k < x.head.count → value_end (record_at x.records k) ≤ length x.text
  within_text k h = omega (arith, lies x.text x.records x.head (form_of_lem x v) k h)

  pub prefix_marks : (p : List ℕ) (explicit wanted : Bool) → PrefixMarks p explicit wanted x
  unfolding resolve_prefix_of
  prefix_marks p explicit wanted = rw v (among_marks x.text p p (record_at x.records) x.head.count within_text (whole_at p) explicit wanted)

  pub resolve_marks : (name : List ℕ) (wanted : Bool) → ResolveMarks name wanted x
  unfolding resolve_of resolve_prefix_of
  resolve_marks name wanted = rw v (among_marks x.text name (prefix_of name) (record_at x.records) x.head.count within_text (prefix_at name) (has_colon name) wanted)
