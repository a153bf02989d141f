-- How `push` ends on lent memory: the two refusals that come first, what went through, and what is taken back. By value the
-- arrays have full size, and keep it.
use Prim.Native.Nat.{ℕ, ◌+◌, ◌≤◌}
use mathlib.Core.Path.{◌≡◌, refl, ap, ◌∙◌}
use mathlib.Core.Bool.{true, false}
use mathlib.Core.List.{List, [], ◌∷◌}
use native.Mathlib.Omega.{arith}
use lib.Dec.{leb}
use Rattle.std.specs.Prelude.{Err}
use Rattle.scan.specs.First.{pick}
use Rattle.scan.proofs.Laws.{picks}
use Rattle.scope_table.specs.Lists.{cut}
use Rattle.scope_table.specs.Records.{row_at}
use Rattle.scope_table.specs.Table.{TEXT, RECORDS, DEEPEST, head_of, valid_of}
use Rattle.scope_table.specs.Answer.{is_done, changed, refused_form, NamespaceResult}
use Rattle.scope_table.specs.Lent.{lent, given, lent_of, form_of}
use Rattle.scope_table.specs.declared.Head.{Head}
use Rattle.scope_table.specs.declared.NamespaceResolver.{NamespaceResolver}
use Rattle.scope_table.specs.declared.Changed.{Changed}
use Rattle.scope_table.specs.declared.NamespaceError.{NamespaceError}
use Rattle.scope_table.specs.declared.NamespaceError.TheVariants.{InvalidXmlPrefixBind, InvalidXmlnsPrefixBind, InvalidPrefixForXml, InvalidPrefixForXmlns, TooManyBindings, TooDeeplyNested, BindingTableFull, TextFull, BadResolver, LendMore, WrongLength}
use Rattle.scope_table.specs.declared.FormError.{FormError}
use Rattle.scope_table.proofs.Lists.{cut_zeros}
use Rattle.scope_change.specs.Change.{whole}
use Rattle.scope_change.specs.declared.Room.{Room}
use Rattle.scope_declare.proofs.Laws.{is_more, FullSize, declare_sized}
use Rattle.scope_table.proofs.Good.{Ready}
use Rattle.scope_table.proofs.Calls.{unchanged, changes_refused}
use Rattle.scope_push.specs.Push.{Declaration, tag_declarations, declare_one, then_of, declare_all, raised_of, push_of}
use Rattle.scope_push.specs.Run.{one_by_one}
use Rattle.scope_push.proofs.Run.{Along, back_of, run_back}

-- 20 and 99
pub push_refused : (s : List ℕ) (from : ℕ) (t r : List ℕ) (h : Head) (e : FormError) → form_of t r h ≡ Err e → given (Err (refused_form e)) t r h ≡ lent_of (push_of s from) t r h
unfolding push_of
push_refused s from t r h =
    changes_refused t r h (λ x. pick (leb DEEPEST x.head.level) (changed (Err (TooDeeplyNested DEEPEST)) x) (declare_all whole (tag_declarations s from) (raised_of x)))

module _ (s : List ℕ) (from : ℕ) (t r : List ℕ) (h : Head) (good : Ready t r h) where
  abbrev ds : List Declaration
  ds = tag_declarations s from

  -- the level rises first
  abbrev pub raised : Head
  raised = head_of h.used h.count (h.level + 1) h.limit

  -- 17
  pub too_deep : leb DEEPEST h.level ≡ true → given (Err (TooDeeplyNested DEEPEST)) t r h ≡ lent_of (push_of s from) t r h
  unfolding push_of
  too_deep e = unchanged t r h good.fit (push_of s from) (Err (TooDeeplyNested DEEPEST)) (rw (good.valid, e))

  begins : Along t r h t r raised
  begins =
      record {
        fits = good.fit;
        small = good.table.small;
        few = good.table.few;
        bytes = refl;
        numbers = refl;
        ahead = omega arith;
        after = omega arith;
        text_back = cut_zeros t h.used good.table.rest_text;
        rows_back = cut_zeros r (row_at h.count) good.table.rest_records;
      }

  module _ (low : leb DEEPEST h.level ≡ false) (a : NamespaceResult) (t' r' : List ℕ) (h' : Head) (ran : given a t' r' h' ≡ one_by_one whole ds t r raised) where
    back_is : back_of h (given a t' r' h') ≡ lent_of (push_of s from) t r h
    unfolding lent_of lent push_of raised_of
    back_is = rw (good.fit, good.valid, low) (ap (back_of h) ran ∙ run_back t r h whole (omega arith) (omega arith) ds t r raised begins)

    -- all of it is held, or a rule refused it
    pub push_went : is_more a ≡ false → given a t' r' h' ≡ lent_of (push_of s from) t r h
    unfolding back_of
    push_went m = rw m at back_is

    -- it is not held: what was added is taken back, and the level is as it was
    pub push_back : a ≡ Err LendMore → given (Err LendMore) (cut t' h.used) (cut r' (row_at h.count)) h ≡ lent_of (push_of s from) t r h
    unfolding back_of
    push_back m = rw m at back_is

-- a refusal at another variant than LendMore
pub not_more : (e : NamespaceError) → (e ≡ LendMore → ⊥) → is_more (Err e) ≡ false
not_more (InvalidXmlPrefixBind a e) k = refl
not_more (InvalidXmlnsPrefixBind a e) k = refl
not_more (InvalidPrefixForXml a e) k = refl
not_more (InvalidPrefixForXmlns a e) k = refl
not_more (TooManyBindings limit) k = refl
not_more (TooDeeplyNested depth) k = refl
not_more BindingTableFull k = refl
not_more TextFull k = refl
not_more BadResolver k = refl
not_more LendMore k = absurd (k refl)
not_more WrongLength k = refl

-- By value.

declare_all_sized : (room : Room) → room.records ≤ RECORDS → room.bytes ≤ TEXT → (ds : List Declaration) (x : NamespaceResolver) → FullSize x → FullSize (declare_all room ds x).resolver
unfolding declare_all then_of
declare_all_sized room few small [] x z = z
declare_all_sized room few small (d ∷ ds) x z =
    let c = declare_one room d x in
    let y = declare_sized room d.kind d.prefix d.value d.at x few small z in
    picks (λ (c : Changed). FullSize c.resolver) (is_done c.answer) (λ e. declare_all_sized room few small ds c.resolver y) (λ e. y)

pub push_sized : (s : List ℕ) (from : ℕ) (x : NamespaceResolver) → FullSize x → FullSize (push_of s from x).resolver
unfolding push_of raised_of
push_sized s from x z =
    picks (λ (c : Changed). FullSize c.resolver) (valid_of x)
    (λ e. picks (λ (c : Changed). FullSize c.resolver) (leb DEEPEST x.head.level) (λ f. z)
    (λ f. declare_all_sized whole (omega arith) (omega arith) (tag_declarations s from) (raised_of x) (record { text = z.text; records = z.records })))
    (λ e. z)
