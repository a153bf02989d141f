-- One attribute at position o of a tag is read as itself: its key, its value, and the place after it.
use Prim.Native.Nat.{ℕ, ◌+◌, ◌≤◌, ◌<◌}
use mathlib.Core.Path.{◌≡◌, refl, sym, ap, ◌∙◌}
use mathlib.Core.Bool.{Bool, true, not}
use mathlib.Core.List.{List, [], ◌∷◌, ◌++◌}
use native.Mathlib.Omega.{arith}
use lib.ListN.{length, get_or, drop, length-append, get_or-append}
use lib.Dec.{eqb}
use Rattle.std.proofs.Common.{Some}
use Rattle.scan.specs.Bytes.{is_space, not_space, ends_key, is_byte, part}
use Rattle.scan.proofs.Bytes.{both, eq_content}
use Rattle.tag_step.specs.declared.Span.{Span}
use Rattle.tag_step.specs.declared.Place.TheVariants.{Next}
use Rattle.tag_step.specs.declared.KeyRead.TheVariants.{Valued}
use Rattle.tag_step.specs.Read.{span, found, is_quote, key_at, quoted, closed_of, quoted_of, value_at}
use Rattle.tag_step.proofs.Paths.{key_valued, value_quoted, quoted_closed}
use Rattle.law_wellformed.specs.Grammar.{each, name_byte, Quote, double, single, quote_byte, Lacks, Attribute, attribute_then, Quoted}
use Rattle.law_wellformed.specs.Expected.{name_start, name_end, value_start_at, value_end_at, next, in_quotes}
use Rattle.law_wellformed.proofs.Cursor.{each_fails, some_each, some_length, some_first, move, part_is, rest_at, rest_inside, stops}
use Rattle.law_wellformed.proofs.Tests.{space_fails, space_ends, name_content, name_goes_on, eq_ends, quote_content, quote_is, quote_closes, no_quote}

pub closed_is : (q : Quote) (key value : Span) → closed_of (quote_byte q) key value ≡ found (in_quotes q key value) (Next (value.end + 1))
unfolding closed_of quoted quote_byte in_quotes
closed_is double key value = refl
closed_is single key value = refl

-- whitespace and then `=`: either way the key ends
ends_at_eq : (w rest : List ℕ) → each is_space w ≡ true → (0 < length (w ++ (61 ∷ rest))) × (ends_key (get_or (w ++ (61 ∷ rest)) 0 0) ≡ true)
unfolding each
ends_at_eq [] rest h = (omega arith, eq_ends)
ends_at_eq (x ∷ w) rest h = (omega arith, space_ends x (both (is_space x) (each is_space w) h).0)

module _ (s : List ℕ) (o : ℕ) (a : Attribute) (rest : List ℕ) (here : drop o s ≡ attribute_then a rest) (fine : Quoted a) where
  abbrev q : ℕ
  q = quote_byte a.quote

  abbrev eq : ℕ
  eq = name_end o a + length a.before_eq

  abbrev quote_at : ℕ
  quote_at = eq + 1 + length a.after_eq

  -- what is left at each part
  abbrev r₅ : List ℕ
  r₅ = q ∷ rest

  abbrev r₄ : List ℕ
  r₄ = q ∷ (a.value ++ r₅)

  abbrev r₃ : List ℕ
  r₃ = 61 ∷ (a.after_eq ++ r₄)

  abbrev r₂ : List ℕ
  r₂ = a.before_eq ++ r₃

  abbrev r₁ : List ℕ
  r₁ = a.name ++ r₂

  at_start : drop o s ≡ a.before ++ r₁
  unfolding attribute_then
  at_start = here

  at_name : drop (name_start o a) s ≡ r₁
  unfolding name_start
  at_name = move s o a.before r₁ at_start

  at_name_end : drop (name_end o a) s ≡ r₂
  unfolding name_end
  at_name_end = move s (name_start o a) a.name r₂ at_name

  at_eq : drop eq s ≡ r₃
  at_eq = move s (name_end o a) a.before_eq r₃ at_name_end

  past_eq : drop (eq + 1) s ≡ a.after_eq ++ r₄
  past_eq = move s eq (61 ∷ []) (a.after_eq ++ r₄) at_eq

  at_quote : drop quote_at s ≡ r₄
  at_quote = move s (eq + 1) a.after_eq r₄ past_eq

  at_value : drop (value_start_at o a) s ≡ a.value ++ r₅
  unfolding value_start_at
  at_value = move s quote_at (q ∷ []) (a.value ++ r₅) at_quote

  at_close : drop (value_end_at o a) s ≡ r₅
  unfolding value_end_at
  at_close = move s (value_start_at o a) a.value r₅ at_value

  -- the next attribute begins where this one ends
  pub at_next : drop (next o a) s ≡ rest
  unfolding next
  at_next = move s (value_end_at o a) (q ∷ []) rest at_close

  pub next_inside : next o a ≤ length s
  unfolding next value_end_at
  next_inside = omega (arith, rest_inside s (value_start_at o a) a.value r₅ at_value (omega arith))

  pub name_is : part s (name_start o a) (name_end o a) ≡ a.name
  unfolding name_end
  name_is = part_is s (name_start o a) a.name r₂ at_name

  pub value_is : part s (value_start_at o a) (value_end_at o a) ≡ a.value
  unfolding value_end_at
  value_is = part_is s (value_start_at o a) a.value r₅ at_value

  pub value_order : (value_start_at o a ≤ value_end_at o a) × (value_end_at o a ≤ length s)
  unfolding value_end_at
  value_order = (omega arith, omega (arith, rest_inside s (value_start_at o a) a.value r₅ at_value (omega arith)))

  name_some : 0 < length a.name
  name_some = some_length name_byte a.name fine.name

  pub name_order : name_start o a < name_end o a
  unfolding name_end
  name_order = omega (arith, name_some)

  pub name_inside : name_end o a ≤ length s
  unfolding name_end
  name_inside = omega (arith, rest_inside s (name_start o a) a.name r₂ at_name (ends_at_eq a.before_eq (a.after_eq ++ r₄) fine.before_eq).0)

  r₁_some : 0 < length r₁
  r₁_some = omega (arith, name_some, length-append a.name r₂)

  pub key_read : key_at s o ≡ Some (Valued (span (name_start o a) (name_end o a)) eq)
  unfolding name_start name_end
  key_read =
      sym (key_valued s o (name_start o a)
      (sym (stops s o a.before r₁ at_start r₁_some not_space
      (each_fails not_space is_space space_fails a.before fine.before)
      (ap not_space (get_or-append a.name r₂ 0 0 name_some) ∙ name_content (get_or a.name 0 0) (some_first name_byte a.name fine.name))
      o (omega arith) (omega arith)))
      (rest_inside s o a.before r₁ at_start r₁_some)
      (name_end o a) eq
      (sym (stops s (name_start o a) a.name r₂ at_name (ends_at_eq a.before_eq (a.after_eq ++ r₄) fine.before_eq).0 ends_key
      (each_fails ends_key name_byte name_goes_on a.name (some_each name_byte a.name fine.name))
      (ends_at_eq a.before_eq (a.after_eq ++ r₄) fine.before_eq).1
      (name_start o a + 1) (omega arith) (omega (arith, name_some))))
      (sym (stops s (name_end o a) a.before_eq r₃ at_name_end (omega arith) not_space
      (each_fails not_space is_space space_fails a.before_eq fine.before_eq) eq_content
      (name_end o a) (omega arith) (omega arith)))
      (rest_inside s (name_end o a) a.before_eq r₃ at_name_end (omega arith))
      (rest_at s (name_end o a) a.before_eq r₃ at_name_end))

  quote_at_lem : get_or s quote_at 0 ≡ q
  quote_at_lem = rest_at s (eq + 1) a.after_eq r₄ past_eq

  pub value_read : (html : Bool) (key : Span) → value_at s html key eq ≡ found (in_quotes a.quote key (span (value_start_at o a) (value_end_at o a))) (Next (next o a))
  unfolding next value_start_at value_end_at Lacks
  value_read html key =
      sym (value_quoted s html key eq quote_at
      (sym (stops s (eq + 1) a.after_eq r₄ past_eq (omega arith) not_space
      (each_fails not_space is_space space_fails a.after_eq fine.after_eq) (quote_content a.quote)
      (eq + 1) (omega arith) (omega arith)))
      (rest_inside s (eq + 1) a.after_eq r₄ past_eq (omega arith))
      (ap is_quote quote_at_lem ∙ quote_is a.quote))
      ∙ ap (λ (b : ℕ). quoted_of s b key (quote_at + 1)) quote_at_lem
      ∙ sym (quoted_closed s q key (value_start_at o a) (value_end_at o a)
      (sym (stops s (value_start_at o a) a.value r₅ at_value (omega arith) (is_byte q)
      (each_fails (is_byte q) (λ b. not (eqb b q)) (no_quote a.quote) a.value fine.value) (quote_closes a.quote)
      (value_start_at o a) (omega arith) (omega arith)))
      (rest_inside s (value_start_at o a) a.value r₅ at_value (omega arith)))
      ∙ closed_is a.quote key (span (value_start_at o a) (value_end_at o a))
