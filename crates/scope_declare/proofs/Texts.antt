-- Refusals 12 to 15 hold the text that the crate's errors hold: their bounds mark it where the declaration stands. For `add`
-- that is its argument, whole.
use Prim.Native.Nat.{ℕ, ◌+◌, ◌-◌, zero-le}
use mathlib.Core.Path.{◌≡◌, refl}
use mathlib.Core.Bool.{Bool, true, false}
use mathlib.Core.List.{List}
use native.Mathlib.Omega.{arith}
use lib.Dec.{leb, ltb}
use lib.ListN.{length, take, get_or}
use lib.Seq.{take_all}
use Rattle.std.specs.Prelude.{Ok, Err, Option, Some, None, Result}
use Rattle.scan.specs.First.{pick}
use Rattle.scan.specs.Bytes.{part, Marks}
use Rattle.name.specs.Bind.{reserved_bind, named_numbers, number_of, refused_text}
use Rattle.name.specs.declared.PrefixDeclaration.{PrefixDeclaration}
use Rattle.name.specs.declared.PrefixDeclaration.TheVariants.{Default, Named}
use Rattle.name.specs.declared.ReservedBinding.{ReservedBinding}
use Rattle.name.specs.declared.ReservedBinding.TheVariants as Check
use Rattle.scope_table.specs.Table.{valid_of}
use Rattle.scope_table.specs.Answer.{change_numbers, is_done, changed, NamespaceResult}
use Rattle.scope_table.specs.declared.NamespaceResolver.{NamespaceResolver}
use Rattle.scope_table.specs.declared.NamespaceError.TheVariants.{TooManyBindings, BindingTableFull, TextFull, BadResolver}
use Rattle.scope_change.specs.Change.{whole, refusal_of, append_of}
use Rattle.scope_change.specs.declared.Room.{Room}
use Rattle.scope_declare.specs.Declare.{wholly, named_of, judge_of, settle_of, declare_of, add_of}
use Rattle.scope_declare.specs.Texts.{HoldsText}
use Rattle.scope_declare.specs.declared.Places.{Places}

-- 16, 18, 19 hold none
refusal_by : (ps vs text : List ℕ) (limit : ℕ) (t₁ t₂ t₃ : Bool) → HoldsText ps vs (pick t₁ (Err (TooManyBindings limit)) (pick t₂ (Err BindingTableFull) (pick t₃ (Err TextFull) (Ok tt)))) text
refusal_by ps vs text limit true t₂ t₃ = tt
refusal_by ps vs text limit false true t₃ = tt
refusal_by ps vs text limit false false true = tt
refusal_by ps vs text limit false false false = tt

module _ (ps vs text : List ℕ) (room : Room) (x : NamespaceResolver) where
  refusal_none : (n : ℕ) → HoldsText ps vs (refusal_of room x.head n) text
  unfolding refusal_of
  refusal_none n = refusal_by ps vs text x.head.limit (leb x.head.limit (x.head.count - 2)) (leb room.records x.head.count) (ltb room.bytes (x.head.used + n))

  append_by : (a : NamespaceResult) (y : NamespaceResolver) → HoldsText ps vs a text → (t : Bool) → HoldsText ps vs (pick t (changed (Ok tt) y) (changed a x)).answer text
  append_by a y h true = tt
  append_by a y h false = h

  pub append_none : (p v : List ℕ) → HoldsText ps vs (append_of room p v x).answer text
  unfolding append_of
  append_none p v = append_by (refusal_of room x.head (length p + length v)) _ (refusal_none (length p + length v)) (is_done (refusal_of room x.head (length p + length v)))

-- A prefix and a value that stand at their places in some bytes: what 12 to 15 hold of them is what the check refuses.
module _ (ps vs p v : List ℕ) (at : Places) (here : Marks ps at.prefix_start at.prefix_end p) (there : Marks vs at.value_start at.value_end v) (room : Room) (x : NamespaceResolver) where
  named_holds : (k : Result Bool ReservedBinding) → HoldsText ps vs (settle_of room (named_of k p at) p v x).answer (refused_text k p v)
  unfolding named_of settle_of refused_text
  named_holds (Ok true) = append_none ps vs _ room x (take (length p) p) v
  named_holds (Ok false) = tt
  named_holds (Err Check.InvalidXmlPrefixBind) = there
  named_holds (Err Check.InvalidXmlnsPrefixBind) = there
  named_holds (Err Check.InvalidPrefixForXml) = here
  named_holds (Err Check.InvalidPrefixForXmlns) = here

  pub declare_holds : (d : Option PrefixDeclaration) → HoldsText ps vs (declare_of room d p v at x).answer (refused_text (reserved_bind p v) p v)
  unfolding declare_of judge_of settle_of
  declare_holds None = tt
  declare_holds (Some Default) = append_none ps vs _ room x (take 0 p) v
  declare_holds (Some Named) = named_holds (reserved_bind p v)

-- the whole of some bytes
whole_marks : (t : List ℕ) → Marks t 0 (length t) t
unfolding part
whole_marks t = record { ahead = zero-le; inside = omega arith; between = take_all (length t - 0) t (omega arith) }

-- `add`: the bounds are those of its argument.
pub add_holds : (d : Option PrefixDeclaration) (p v : List ℕ) (x : NamespaceResolver) → HoldsText p v (add_of d p v x).answer (refused_text (reserved_bind p v) p v)
unfolding add_of
add_holds d p v x = by (valid_of x) where
  by : (t : Bool) → HoldsText p v (pick t (declare_of whole d p v (wholly p v) x) (changed (Err BadResolver) x)).answer (refused_text (reserved_bind p v) p v)
  by true = declare_holds p v p v (wholly p v) (whole_marks p) (whole_marks v) whole x d
  by false = tt

-- And a named declaration that is refused so has that answer, by its number.
pub add_refuses : (p v : List ℕ) (x : NamespaceResolver) → valid_of x ≡ true → (number_of (reserved_bind p v) ≡ 0 → ⊥) → get_or (change_numbers (add_of (Some Named) p v x).answer) 0 0 ≡ number_of (reserved_bind p v)
unfolding add_of declare_of judge_of named_of settle_of named_numbers change_numbers
add_refuses p v x ok n = rw ok (by (reserved_bind p v) n) where
  by : (k : Result Bool ReservedBinding) → (number_of k ≡ 0 → ⊥) → get_or (change_numbers (settle_of whole (named_of k p (wholly p v)) p v x).answer) 0 0 ≡ number_of k
  by (Ok true) n = absurd (n refl)
  by (Ok false) n = absurd (n refl)
  by (Err Check.InvalidXmlPrefixBind) n = refl
  by (Err Check.InvalidXmlnsPrefixBind) n = refl
  by (Err Check.InvalidPrefixForXml) n = refl
  by (Err Check.InvalidPrefixForXmlns) n = refl
