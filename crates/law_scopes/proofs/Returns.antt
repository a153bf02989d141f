-- On lists: a push appends bindings of one level more, whether it is refused or not, and one level down drops them
-- again. The resolver is then the one that it was, since its bindings determine it.
use Prim.Native.Nat.{ℕ, ◌+◌, ◌-◌, ◌<◌}
use mathlib.Core.Path.{◌≡◌, refl, sym, ap, subst, ◌∙◌}
use mathlib.Core.List.{List, [], ◌∷◌, ◌++◌, append-nil, append_assoc}
use native.Mathlib.Omega.{arith}
use lib.ListN.{take}
use borrow.Author.Tests.{lt-leb}
use Rattle.std.specs.Prelude.{Ok, Some, None, Err}
use Rattle.scan.proofs.Laws.{picks}
use Rattle.scope_table.specs.Table.{DEEPEST}
use Rattle.scope_table.specs.Answer.{is_done, changed, NamespaceResult}
use Rattle.scope_table.specs.declared.NamespaceResolver.{NamespaceResolver}
use Rattle.scope_table.specs.declared.Changed.{Changed}
use Rattle.scope_table.proofs.Good.{form_of_lem}
use Rattle.scope_declare.specs.Declare.{Judged, judge_of, pop_of}
use Rattle.scope_push.specs.Push.{Declaration, declarations_of, tag_answers, push_of}
use Rattle.law_scopes.specs.Calls.{push, pop, call_of}
use Rattle.law_scopes.specs.Scopes.{Made, made, Scopes, scopes, ScopesTold, told, room_for, bind_in, settle_in, declare_in, declare_all_in, up_to, level_in, call_in}
use Rattle.law_scopes.specs.Made.{made_of, made_at, made_in, scopes_of, seen}
use Rattle.law_scopes.specs.Promises.{Proper, ValidStays, ScopesFollow, ScopesDetermine, PushPopReturns}
use Rattle.law_scopes.proofs.Listed.{not_kept, up_append, up_list}
use Rattle.law_scopes.proofs.Valid.{valid_stays}
use Rattle.law_scopes.proofs.Follow.{scopes_follow}
use Rattle.law_scopes.proofs.Determine.{scopes_determine}

-- u is t at one level more, with bindings after t's that t's level does not keep
record Grown (t u : Scopes) : Type 0 where
  new : List Made
  bound : u.bound ≡ t.bound ++ new
  higher : up_to t.level new ≡ []
  level : u.level ≡ t.level + 1
  limit : u.limit ≡ t.limit

module _ (t : Scopes) where
  bind_grows : (u : Scopes) (p v : List ℕ) → Grown t u → Grown t (bind_in u p v)
  unfolding bind_in up_to
  bind_grows u p v a =
      let b = made p v u.level in
      record {
        new = a.new ++ (b ∷ []);
        bound = rw a.bound (append_assoc t.bound a.new (b ∷ []));
        higher = up_append t.level a.new (b ∷ []) ∙ rw (a.higher, not_kept t.level b (omega (arith, a.level)));
        level = a.level;
        limit = a.limit;
      }

  settle_grows : (j : Judged) (u : Scopes) (p v : List ℕ) → Grown t u → Grown t (settle_in j u p v).scopes
  unfolding settle_in
  settle_grows (Err a) u p v h = h
  settle_grows (Ok None) u p v h = h
  settle_grows (Ok (Some n)) u p v h =
      picks (λ (r : ScopesTold). Grown t r.scopes) (is_done (room_for u (take n p) v)) (λ e. bind_grows u (take n p) v h) (λ e. h)

  all_grow : (ds : List Declaration) (u : Scopes) → Grown t u → Grown t (declare_all_in ds u).scopes
  unfolding declare_all_in declare_in
  all_grow [] u h = h
  all_grow (d ∷ more) u h =
      let k = settle_grows (judge_of d.kind d.prefix d.value d.at) u d.prefix d.value h in
      picks (λ (r : ScopesTold). Grown t r.scopes) (is_done (declare_in d u).answer) (λ e. all_grow more (declare_in d u).scopes k) (λ e. k)

  push_grows : (s : List ℕ) (from : ℕ) → t.level < DEEPEST → Grown t (call_in (push s from) t).scopes
  unfolding call_in up_to
  push_grows s from d =
      rw (lt-leb DEEPEST t.level d)
      (all_grow (declarations_of s (tag_answers s from)) (scopes t.bound (t.level + 1) t.limit)
      (record { new = []; bound = sym (append-nil t.bound); higher = refl; level = refl; limit = refl }))

  pop_back : (u : Scopes) → up_to t.level t.bound ≡ t.bound → Grown t u → call_in pop u ≡ told (Ok tt) t
  unfolding call_in level_in
  pop_back u w a =
      let e : u.level - 1 ≡ t.level = omega (arith, a.level) in
      rw (e, a.bound, up_append t.level t.bound a.new, w, a.higher, append-nil t.bound, a.limit)

-- no binding of a resolver is above its level
all_within : (x : NamespaceResolver) → Proper x → up_to x.head.level (made_in x) ≡ made_in x
unfolding made_in made_at made_of
all_within x g =
    let f = form_of_lem x g.valid in
    up_list x.head.level (λ i. made_at x (2 + i)) (x.head.count - 2) (x.head.count - 2) (omega arith)
    (λ i h. f.top (2 + i) (omega (arith, f.two))) (λ i lo hi. absurd (omega arith))

changed_is : (c : Changed) (a : NamespaceResult) (x : NamespaceResolver) → c.answer ≡ a → c.resolver ≡ x → c ≡ changed a x
changed_is c a x e f =
    let all : changed c.answer c.resolver ≡ changed a x = cc in
    all

pub push_pop_returns : PushPopReturns
unfolding PushPopReturns ValidStays ScopesFollow ScopesDetermine call_of seen scopes_of
push_pop_returns x sized valid d tag from =
    let g : Proper x = record { sized = sized; valid = valid } in
    let y = (push_of tag from x).resolver in
    let h : Proper y = valid_stays x g (push tag from) in
    let z = pop_of y in
    let pushed : (call_in (push tag from) (scopes_of x)).scopes ≡ scopes_of y = sym (ap (λ (r : ScopesTold). r.scopes) (scopes_follow x g (push tag from))) in
    let grown = subst (Grown (scopes_of x)) pushed (push_grows (scopes_of x) tag from (omega (arith, d))) in
    let popped : seen z ≡ told (Ok tt) (scopes_of x) = scopes_follow y h pop ∙ pop_back (scopes_of x) (scopes_of y) (all_within x g) grown in
    changed_is z (Ok tt) x (ap (λ (r : ScopesTold). r.answer) popped)
    (scopes_determine z.resolver x (valid_stays y h pop) g (ap (λ (r : ScopesTold). r.scopes) popped))
