-- A lookup in lent memory is that in the resolver it stands for: zeros after the lent text and the lent records change
-- nothing that a lookup reads, since every record in use ends within the lent text.
use Prim.Native.Nat.{ℕ, ◌≤◌, ◌<◌}
use mathlib.Core.Path.{◌≡◌, sym, ap, ◌∙◌}
use mathlib.Core.Bool.{Bool}
use mathlib.Core.List.{List}
use native.Mathlib.Omega.{arith}
use lib.ListN.{length}
use lib.Seq.{take-length}
use Rattle.std.specs.Prelude.{Ok, Err}
use Rattle.scan.specs.Bytes.{same_bytes}
use Rattle.scan.proofs.Lists.{part_same, pad_take}
use Rattle.scan.specs.Lists.{pad_to}
use Rattle.scope_table.specs.Records.{record_at, value_start, value_end, prefix_in}
use Rattle.scope_table.specs.Table.{TEXT, NUMBERS}
use Rattle.scope_table.specs.Lent.{lent, form_of}
use Rattle.scope_table.proofs.Pad.{pad_records}
use Rattle.scope_table.proofs.Good.{Ready, ready, lies}
use Rattle.scope_table.proofs.Calls.{asks_bad, asks_good, asks_wrong}
use Rattle.scope_table.specs.declared.Head.{Head}
use Rattle.scope_table.specs.declared.NamespaceBinding.{NamespaceBinding}
use Rattle.scope_table.specs.declared.NamespaceResolver.{NamespaceResolver}
use Rattle.scope_table.specs.declared.FormError.{FormError}
use Rattle.scope_table.specs.declared.FormError.TheVariants as Is
use Rattle.scope_table.specs.Lists.{last_below}
use Rattle.scope_lookup.specs.Inside.{Inside}
use Rattle.scope_lookup.specs.Lookup.{has_prefix, explicit_of, among_of, resolve_prefix_of}
use Rattle.scope_lookup.specs.declared.ResolveResult.{ResolveResult}
use Rattle.scope_table.proofs.Last.{last_same}

-- the prefix of a record that ends within the lent text
pub pad_prefix : (m : ℕ) (text : List ℕ) (b : NamespaceBinding) → value_end b ≤ length text → prefix_in (pad_to m text) b ≡ prefix_in text b
unfolding prefix_in
pad_prefix m text b h =
    part_same (length text) (pad_to m text) text b.start (value_start b) (pad_take m text ∙ sym (take-length text)) (omega arith) (omega arith)

module _ (m : ℕ) (text : List ℕ) (rows : ℕ → NamespaceBinding) (count : ℕ) (h : (k : ℕ) → k < count → value_end (rows k) ≤ length text) where
  pad_last : (p : List ℕ) → last_below (λ i. has_prefix (pad_to m text) p (rows i)) count ≡ last_below (λ i. has_prefix text p (rows i)) count
  unfolding has_prefix
  pad_last p =
      last_same (λ i. has_prefix (pad_to m text) p (rows i)) (λ i. has_prefix text p (rows i)) count
      (λ k l. ap (λ (s : List ℕ). same_bytes s p) (pad_prefix m text (rows k) (h k l)))

  pub pad_among : (p : List ℕ) (explicit wanted : Bool) → among_of (pad_to m text) rows count p explicit wanted ≡ among_of text rows count p explicit wanted
  unfolding among_of explicit_of
  pad_among p explicit wanted = rw (pad_last p)

-- The form of a resolver gives what a lookup asks of its records.
pub ready_inside : (text records : List ℕ) (head : Head) → Ready text records head → Inside records head.count (length text)
ready_inside text records head y =
    record {
      rows = y.rows_lent;
      small = y.bytes_most;
      each = λ k l. omega (arith, lies text records head y.table k l, y.bytes_lent);
    }

-- A lookup on lent memory: where the form is good it is the lookup in what is lent, and where it is not, refusal 20.
module _ (text records : List ℕ) (head : Head) (p : List ℕ) (explicit wanted : Bool) where
  among_in : NamespaceResolver → ResolveResult
  among_in x = among_of x.text (record_at x.records) x.head.count p explicit wanted

  pub lookup_bad : form_of text records head ≡ Err Is.BadResolver → Err Is.BadResolver ≡ lent (Err Is.WrongLength) (resolve_prefix_of p explicit wanted) text records head
  unfolding resolve_prefix_of among_in
  lookup_bad e = sym (asks_bad text records head (Err Is.WrongLength) (λ x. Ok (among_in x)) (λ x. Err Is.BadResolver) e)

  pub lookup_refused : (why : FormError) → form_of text records head ≡ Err why → Err why ≡ lent (Err Is.WrongLength) (resolve_prefix_of p explicit wanted) text records head
  lookup_refused Is.BadResolver e = lookup_bad e
  lookup_refused Is.WrongLength e = sym (asks_wrong text records head (Err Is.WrongLength) (resolve_prefix_of p explicit wanted) e)

  pub lookup_good : form_of text records head ≡ Ok tt → Ok (among_of text (record_at records) head.count p explicit wanted) ≡ lent (Err Is.WrongLength) (resolve_prefix_of p explicit wanted) text records head
  unfolding resolve_prefix_of among_in
  lookup_good e =
      let i = ready_inside text records head (ready text records head e) in
      sym (asks_good text records head (Err Is.WrongLength) (λ x. Ok (among_in x)) (λ x. Err Is.BadResolver) e ∙ ap (λ (r : ResolveResult). Ok r) (ap (λ (rows : ℕ → NamespaceBinding). among_of (pad_to TEXT text) rows head.count p explicit wanted) (pad_records NUMBERS records) ∙ pad_among TEXT text (record_at records) head.count i.each p explicit wanted))
