-- The ways in which a call for the names of a tag comes back, each as `many_in` says it; and a name that is looked up in what is
-- lent is answered as in the resolver that this stands for.
use Prim.Native.Nat.{ℕ, ◌≤◌}
use mathlib.Core.Path.{◌≡◌, refl, sym, ap, ◌∙◌}
use mathlib.Core.Bool.{Bool, true, false, ◌&&◌}
use mathlib.Core.List.{List}
use lib.ListN.{length, get_or}
use lib.Dec.{eqb, ltb}
use borrow.Author.Tests.{eqb-true}
use Rattle.std.specs.Prelude.{Result, Ok, Err}
use Rattle.scan.specs.Bytes.{inside}
use Rattle.scan.proofs.Bytes.{both}
use Rattle.name.specs.Split.{has_colon, prefix_of}
use Rattle.scope_table.specs.Records.{record_at}
use Rattle.scope_table.specs.Answer.{form_number, told_of}
use Rattle.scope_table.specs.Lent.{stands_for, lent, form_of}
use Rattle.scope_table.specs.declared.Head.{Head}
use Rattle.scope_table.specs.declared.Told.{Told}
use Rattle.scope_table.specs.declared.FormError.{FormError}
use Rattle.scope_table.specs.declared.FormError.TheVariants as Is
use Rattle.scope_table.proofs.Good.{ready}
use Rattle.scope_table.proofs.Calls.{asks, asks_wrong, asks_bad, asks_good}
use Rattle.scope_lookup.specs.Inside.{Inside}
use Rattle.scope_lookup.specs.Lookup.{Resolved, among_of, resolve_prefix_of, resolve_of, resolved_numbers}
use Rattle.scope_lookup.proofs.Padded.{ready_inside, lookup_good}
use Rattle.export_memory.specs.Boundary.{head_in}
use Rattle.export_names.specs.Names.{Names, names, nth_of, written_of, many_of, alike_of, many_in}
use Rattle.export_names.proofs.Written.{Filled, filled_all}

-- What the test of the lengths says.
pub record Alike (from to kinds begins ends : List ℕ) : Type 0 where
  pub to_long : length to ≡ length from
  pub kinds_long : length kinds ≡ length from
  pub begins_long : length begins ≡ length from
  pub ends_long : length ends ≡ length from

pub alike_long : (from to kinds begins ends : List ℕ) → alike_of from to kinds begins ends ≡ true → Alike from to kinds begins ends
unfolding alike_of
alike_long from to kinds begins ends h =
    let n = length from in
    let t = both (eqb (length to) n) (eqb (length kinds) n && (eqb (length begins) n && eqb (length ends) n)) h in
    let k = both (eqb (length kinds) n) (eqb (length begins) n && eqb (length ends) n) t.1 in
    let b = both (eqb (length begins) n) (eqb (length ends) n) k.1 in
    record {
      to_long = eqb-true (length to) n t.0;
      kinds_long = eqb-true (length kinds) n k.0;
      begins_long = eqb-true (length begins) n b.0;
      ends_long = eqb-true (length ends) n b.1;
    }

module _ (tag from to : List ℕ) (elements : ℕ) (kinds begins ends text records head : List ℕ) where
  abbrev all : Names
  all = many_in tag from to elements kinds begins ends text records head

  -- what a name is answered, by the resolver that the lent memory stands for
  abbrev pub nth : ℕ → Told
  nth = nth_of tag from to elements (stands_for text records (head_in head))

  pub names_unlike : alike_of from to kinds begins ends ≡ false → names (form_number (Err Is.WrongLength)) kinds begins ends ≡ all
  unfolding many_in
  names_unlike u = rw u

  module _ (h : Head) (read : h ≡ head_in head) where
    -- each name, where the form is good
    module _ (good : form_of text records h ≡ Ok tt) where
      pub names_inside : Inside records h.count (length text)
      names_inside = ready_inside text records h (ready text records h good)

      found_for : (name : List ℕ) (wanted : Bool) → Ok (among_of text (record_at records) h.count (prefix_of name) (has_colon name) wanted) ≡ resolve_of name wanted (stands_for text records (head_in head))
      unfolding resolve_of
      found_for name wanted =
          lookup_good text records h (prefix_of name) (has_colon name) wanted good
          ∙ asks text records h (Err Is.WrongLength) (resolve_prefix_of (prefix_of name) (has_colon name) wanted) (ready text records h good).fit
          ∙ ap (λ (x : Head). resolve_prefix_of (prefix_of name) (has_colon name) wanted (stands_for text records x)) read

      pub name_told : (i : ℕ) (name : List ℕ) → name ≡ inside tag (get_or from i 0) (get_or to i 0) →
          (found : Resolved) → found ≡ Ok (among_of text (record_at records) h.count (prefix_of name) (has_colon name) (ltb i elements)) →
          (t : Told) → t ≡ told_of (resolved_numbers found) → t ≡ nth i
      unfolding nth_of
      name_told i name e found f t told =
          told
          ∙ ap (λ (x : Resolved). told_of (resolved_numbers x)) (f ∙ found_for name (ltb i elements))
          ∙ ap (λ (x : List ℕ). told_of (resolved_numbers (resolve_of x (ltb i elements) (stands_for text records (head_in head))))) e

    -- the whole call, where each length is right
    module _ (like : alike_of from to kinds begins ends ≡ true) where
      made : all ≡ lent (names (form_number (Err Is.WrongLength)) kinds begins ends) (many_of tag from to elements kinds begins ends) text records h
      unfolding many_in
      made = rw (like, read)

      names_wrong : form_of text records h ≡ Err Is.WrongLength → names (form_number (Err Is.WrongLength)) kinds begins ends ≡ all
      names_wrong e =
          sym (made ∙ asks_wrong text records h (names (form_number (Err Is.WrongLength)) kinds begins ends) (many_of tag from to elements kinds begins ends) e)

      names_bad : form_of text records h ≡ Err Is.BadResolver → names (form_number (Err Is.BadResolver)) kinds begins ends ≡ all
      unfolding many_of
      names_bad e =
          sym
          (made
          ∙ asks_bad text records h (names (form_number (Err Is.WrongLength)) kinds begins ends) (λ x. written_of (nth_of tag from to elements x) (length from) kinds begins ends) (λ x. names (form_number (Err Is.BadResolver)) kinds begins ends) e)

      -- what is not of the right form, by its number
      pub names_refused : (f : Result (Unit {0}) FormError) → form_of text records h ≡ f → (f ≡ Ok tt → ⊥) → names (form_number f) kinds begins ends ≡ all
      names_refused (Ok tt) e k = absurd (k refl)
      names_refused (Err Is.BadResolver) e k = names_bad e
      names_refused (Err Is.WrongLength) e k = names_wrong e

      pub names_good : form_of text records h ≡ Ok tt → (kinds' begins' ends' : List ℕ) (i : ℕ) →
          Filled nth (length from) kinds begins ends kinds' begins' ends' i → length from ≤ i → names (form_number (Ok tt)) kinds' begins' ends' ≡ all
      unfolding many_of
      names_good e kinds' begins' ends' i p l =
          filled_all nth (length from) kinds begins ends kinds' begins' ends' i p l
          ∙ ap (λ (x : Head). written_of (nth_of tag from to elements (stands_for text records x)) (length from) kinds begins ends) (sym read)
          ∙ sym
          (made
          ∙ asks_good text records h (names (form_number (Err Is.WrongLength)) kinds begins ends) (λ x. written_of (nth_of tag from to elements x) (length from) kinds begins ends) (λ x. names (form_number (Err Is.BadResolver)) kinds begins ends) e)
