-- 20 comes on a resolver that is not of the right form, and never else; 98 and 99 never come. Every answer of a call that
-- goes on is one of 0 and 12 to 19.
use Prim.Native.Nat.{ℕ, ◌+◌, ◌-◌}
use mathlib.Core.Path.{◌≡◌, refl, sym, ap, subst, ◌∙◌}
use mathlib.Core.Bool.{Bool, true, false, false≢true, true≢false}
use mathlib.Core.List.{List, [], ◌∷◌}
use lib.Dec.{eqb, leb, ltb}
use lib.ListN.{length, take, get_or}
use Rattle.std.specs.Prelude.{Err, Option, Some, None, Result, Ok}
use Rattle.scan.proofs.Laws.{picks}
use Rattle.name.specs.Bind.{reserved_bind}
use Rattle.name.specs.declared.PrefixDeclaration.{PrefixDeclaration}
use Rattle.name.specs.declared.PrefixDeclaration.TheVariants.{Default, Named}
use Rattle.name.specs.declared.ReservedBinding.{ReservedBinding}
use Rattle.name.specs.declared.ReservedBinding.TheVariants as Check
use Rattle.scope_table.specs.Table.{TEXT, RECORDS, DEEPEST, valid_of}
use Rattle.scope_table.specs.Answer.{change_numbers, is_done, changed, NamespaceResult}
use Rattle.scope_table.specs.declared.NamespaceResolver.{NamespaceResolver}
use Rattle.scope_table.specs.declared.NamespaceError.TheVariants.{BadResolver, LendMore, WrongLength}
use Rattle.scope_table.specs.declared.Changed.{Changed}
use Rattle.scope_change.specs.Change.{whole, refusal_of, append_of, level_of}
use Rattle.scope_declare.specs.declared.Places.{Places}
use Rattle.scope_declare.specs.Declare.{named_of, judge_of, settle_of, declare_of, add_of, pop_of}
use Rattle.scope_push.specs.Push.{Declaration, declarations_of, tag_answers, then_of, declare_all, raised_of, push_of}
use Rattle.law_scopes.specs.Sized.{Sized}
use Rattle.law_scopes.specs.Calls.{Call, add, push, pop, set_level, set_limit, call_of, tests_form}
use Rattle.law_scopes.specs.Promises.{ValidStays, BadStays, BadOnly, SizedStays, NeverLends}
use Rattle.law_scopes.proofs.Declared.{refusal}
use Rattle.law_scopes.proofs.Valid.{limited_sized, valid_stays}

pub bad_stays : BadStays
unfolding BadStays call_of tests_form add_of push_of pop_of level_of
bad_stays x b (add d p v) t = rw b
bad_stays x b (push s from) t = rw b
bad_stays x b pop t = rw b
bad_stays x b (set_level to h) t = rw b
bad_stays x b (set_limit limit) t = absurd (false≢true t)

-- Any other answer has a number below 20.

Other : NamespaceResult → Type 0
Other a = ltb (get_or (change_numbers a) 0 0) 20 ≡ true

refusal_other : (x : NamespaceResolver) (p v : List ℕ) → Other (refusal x p v)
unfolding Other refusal_of change_numbers
refusal_other x p v =
    let h = x.head in
    picks Other (leb h.limit (h.count - 2)) (λ e. refl)
    (λ e. picks Other (leb RECORDS h.count) (λ e. refl) (λ e. picks Other (ltb TEXT (h.used + (length p + length v))) (λ e. refl) (λ e. refl)))

append_other : (x : NamespaceResolver) (p v : List ℕ) → Other (append_of whole p v x).answer
unfolding Other append_of change_numbers
append_other x p v =
    picks (λ (c : Changed). Other c.answer) (is_done (refusal x p v)) (λ e. refl) (λ e. refusal_other x p v)

module _ (x : NamespaceResolver) (p v : List ℕ) (at : Places) where
  named_other : (k : Result Bool ReservedBinding) → Other (settle_of whole (named_of k p at) p v x).answer
  unfolding Other settle_of named_of change_numbers
  named_other (Ok true) = append_other x (take (length p) p) v
  named_other (Ok false) = refl
  named_other (Err Check.InvalidXmlPrefixBind) = refl
  named_other (Err Check.InvalidXmlnsPrefixBind) = refl
  named_other (Err Check.InvalidPrefixForXml) = refl
  named_other (Err Check.InvalidPrefixForXmlns) = refl

  declare_other : (d : Option PrefixDeclaration) → Other (declare_of whole d p v at x).answer
  unfolding Other declare_of judge_of settle_of change_numbers
  declare_other None = refl
  declare_other (Some Default) = append_other x (take 0 p) v
  declare_other (Some Named) = named_other (reserved_bind p v)

all_other : (ds : List Declaration) (x : NamespaceResolver) → Other (declare_all whole ds x).answer
unfolding Other declare_all then_of change_numbers
all_other [] x = refl
all_other (d ∷ more) x =
    let c = declare_of whole d.kind d.prefix d.value d.at x in
    picks (λ (r : Changed). Other r.answer) (is_done c.answer) (λ e. all_other more c.resolver) (λ e. declare_other x d.prefix d.value d.at d.kind)

call_other : (x : NamespaceResolver) → valid_of x ≡ true → (c : Call) → Other (call_of c x).answer
unfolding Other call_of add_of push_of pop_of level_of change_numbers
call_other x e (add d p v) = rw e (declare_other x p v _ d)
call_other x e (push s from) =
    rw e
    (picks (λ (r : Changed). Other r.answer) (leb DEEPEST x.head.level) (λ f. refl) (λ f. all_other (declarations_of s (tag_answers s from)) (raised_of x)))
call_other x e pop = rw e
call_other x e (set_level to h) = rw e
call_other x e (set_limit limit) = refl

-- an answer whose number is not below 20 is no such answer
not_other : (a b : NamespaceResult) → Other a → ltb (get_or (change_numbers b) 0 0) 20 ≡ false → a ≡ b → ⊥
unfolding Other
not_other a b o n e = true≢false (sym o ∙ ap (λ (r : NamespaceResult). ltb (get_or (change_numbers r) 0 0) 20) e ∙ n)

pub bad_only : BadOnly
unfolding BadOnly change_numbers
bad_only x e c b = not_other (call_of c x).answer (Err BadResolver) (call_other x e c) refl b

-- 98 and 99: on a resolver of the right form no answer has such a number, and on another it is 20, or that of the limit.

module _ (x : NamespaceResolver) where
  Never : Changed → Type 0
  Never c = (c.answer ≡ Err LendMore → ⊥) × (c.answer ≡ Err WrongLength → ⊥)

  other_never : (c : Changed) → Other c.answer → Never c
  unfolding Never change_numbers
  other_never c o = (not_other c.answer (Err LendMore) o refl, not_other c.answer (Err WrongLength) o refl)

  -- the numbers themselves, for an answer that is 20
  differ : (a b : NamespaceResult) → eqb (get_or (change_numbers a) 0 0) (get_or (change_numbers b) 0 0) ≡ false → eqb (get_or (change_numbers b) 0 0) (get_or (change_numbers b) 0 0) ≡ true → a ≡ b → ⊥
  differ a b n t e = true≢false (sym t ∙ sym (ap (λ (r : NamespaceResult). eqb (get_or (change_numbers r) 0 0) (get_or (change_numbers b) 0 0)) e) ∙ n)

  bad_never : Never (changed (Err BadResolver) x)
  unfolding Never change_numbers
  bad_never = (differ (Err BadResolver) (Err LendMore) refl refl, differ (Err BadResolver) (Err WrongLength) refl refl)

  tested_never : (c : Call) → tests_form c ≡ true → Never (call_of c x)
  unfolding BadStays
  tested_never c t = by (valid_of x) refl where
    by : (b : Bool) → valid_of x ≡ b → Never (call_of c x)
    by true e = other_never (call_of c x) (call_other x e c)
    by false e = subst Never (sym (bad_stays x e c t)) bad_never

pub never_lends : NeverLends
unfolding NeverLends call_of tests_form Never Other change_numbers
never_lends x (add d p v) = tested_never x (add d p v) refl
never_lends x (push s from) = tested_never x (push s from) refl
never_lends x pop = tested_never x pop refl
never_lends x (set_level to h) = tested_never x (set_level to h) refl
never_lends x (set_limit limit) = other_never x (call_of (set_limit limit) x) refl

-- The sizes.

tested_sized : (x : NamespaceResolver) → Sized x → (c : Call) → tests_form c ≡ true → Sized (call_of c x).resolver
unfolding ValidStays BadStays
tested_sized x s c t = by (valid_of x) refl where
  by : (b : Bool) → valid_of x ≡ b → Sized (call_of c x).resolver
  by true e = (valid_stays x (record { sized = s; valid = e }) c).sized
  by false e = subst (λ (r : Changed). Sized r.resolver) (sym (bad_stays x e c t)) s

pub sized_stays : SizedStays
unfolding SizedStays call_of tests_form
sized_stays x s (add d p v) = tested_sized x s (add d p v) refl
sized_stays x s (push tag from) = tested_sized x s (push tag from) refl
sized_stays x s pop = tested_sized x s pop refl
sized_stays x s (set_level to h) = tested_sized x s (set_level to h) refl
sized_stays x s (set_limit limit) = limited_sized x limit s
