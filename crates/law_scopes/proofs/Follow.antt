-- Each call does to a resolver what it does to the scopes that the resolver is seen as.
use Prim.Native.Nat.{ℕ, ◌+◌, ◌-◌}
use mathlib.Core.Path.{◌≡◌, refl, ap}
use mathlib.Core.Bool.{Bool, true, false}
use mathlib.Core.List.{List, [], ◌∷◌}
use native.Mathlib.Omega.{arith}
use lib.Dec.{leb, ltb}
use lib.ListN.{length, take}
use borrow.Author.Tests.{leb-false}
use Rattle.std.specs.Prelude.{Ok, Err, Some, None}
use Rattle.scan.specs.First.{pick}
use Rattle.scope_table.specs.Records.{prefix_in, value_in}
use Rattle.scope_table.specs.Table.{TEXT, RECORDS, DEEPEST, head_of}
use Rattle.scope_table.specs.Answer.{is_done}
use Rattle.scope_table.specs.declared.NamespaceResolver.{NamespaceResolver}
use Rattle.scope_table.specs.declared.NamespaceError.TheVariants.{TooManyBindings, BindingTableFull, TextFull}
use Rattle.scope_table.specs.declared.Changed.{Changed}
use Rattle.scope_table.proofs.Good.{Shaped, form_of_lem}
use Rattle.scope_change.specs.Change.{whole, bound_of, refusal_of, append_of, kept_of, dropped_of, level_of}
use Rattle.scope_declare.specs.Declare.{Judged, places_of, judge_of, settle_of, declare_of, add_of, pop_of, limited_of}
use Rattle.scope_push.specs.Push.{Declaration, declarations_of, tag_answers, then_of, declare_all, raised_of, push_of}
use Rattle.law_scopes.specs.Calls.{add, push, pop, set_level, set_limit, call_of}
use Rattle.law_scopes.specs.Scopes.{ScopesTold, told, size_of, room_for, bind_in, settle_in, declare_in, declare_all_in, level_in, call_in}
use Rattle.law_scopes.specs.Made.{made_of, made_at, made_in, scopes_of, seen}
use Rattle.law_scopes.specs.Promises.{Proper, ScopesFollow}
use Rattle.law_scopes.proofs.Bound.{Takes}
use Rattle.law_scopes.proofs.Declared.{refusal, room_of_lem, declare_keeps}
use Rattle.law_scopes.proofs.Valid.{bound_proper, raised_proper}
use Rattle.law_scopes.proofs.Made.{bound_made, dropped_made, used_sum, count_sum}

-- two ways, seen
seen_pick : (t : Bool) (c d : Changed) (a b : ScopesTold) → (t ≡ true → seen c ≡ a) → (t ≡ false → seen d ≡ b) → seen (pick t c d) ≡ pick t a b
seen_pick true c d a b f g = f refl
seen_pick false c d a b f g = g refl

-- 16, 18 and 19 by the number of bindings and their sum
room_as : (used count level limit bound sum size : ℕ) → count ≡ 2 + bound → used ≡ 73 + sum →
    refusal_of whole (head_of used count level limit) size
    ≡ pick (leb limit bound) (Err (TooManyBindings limit)) (pick (leb RECORDS (2 + bound)) (Err BindingTableFull) (pick (ltb TEXT (73 + sum + size)) (Err TextFull) (Ok tt)))
unfolding refusal_of
room_as used count level limit bound sum size c u =
    let k : count - 2 ≡ bound = omega arith in
    rw (k, c, u)

-- A declaration.

module _ (x : NamespaceResolver) (g : Proper x) where
  f : Shaped x
  f = form_of_lem x g.valid

  room_seen : (p v : List ℕ) → refusal x p v ≡ room_for (scopes_of x) p v
  unfolding room_for scopes_of
  room_seen p v =
      room_as x.head.used x.head.count x.head.level x.head.limit (length (made_in x)) (size_of (made_in x)) (length p + length v)
      (count_sum x g.sized f) (used_sum x g.sized f)

  bound_seen : (p v : List ℕ) → Takes x p v → scopes_of (bound_of p v x) ≡ bind_in (scopes_of x) p v
  unfolding scopes_of bind_in bound_of
  bound_seen p v r = rw (bound_made x g.sized p v r f)

  append_seen : (p v : List ℕ) → seen (append_of whole p v x)
      ≡ pick (is_done (room_for (scopes_of x) p v)) (told (Ok tt) (bind_in (scopes_of x) p v)) (told (room_for (scopes_of x) p v) (scopes_of x))
  unfolding append_of seen
  append_seen p v =
      rw (← room_seen p v)
      (seen_pick (is_done (refusal x p v)) _ _ _ _ (λ e. ap (told (Ok tt)) (bound_seen p v (room_of_lem x p v e))) (λ e. refl))

  settle_seen : (j : Judged) (p v : List ℕ) → seen (settle_of whole j p v x) ≡ settle_in j (scopes_of x) p v
  unfolding settle_of settle_in seen
  settle_seen (Err a) p v = refl
  settle_seen (Ok None) p v = refl
  settle_seen (Ok (Some n)) p v = append_seen (take n p) v

  declare_seen : (d : Declaration) → seen (declare_of whole d.kind d.prefix d.value d.at x) ≡ declare_in d (scopes_of x)
  unfolding declare_of declare_in
  declare_seen d = settle_seen (judge_of d.kind d.prefix d.value d.at) d.prefix d.value

  dropped_seen : (to : ℕ) → scopes_of (dropped_of to x) ≡ level_in to (scopes_of x)
  unfolding scopes_of level_in dropped_of kept_of
  dropped_seen to = rw (dropped_made x g.sized f to)

  level_seen : (to : ℕ) → seen (level_of to x) ≡ told (Ok tt) (level_in to (scopes_of x))
  unfolding level_of seen
  level_seen to = rw (g.valid, dropped_seen to)

-- Declarations one after the other.
all_seen : (ds : List Declaration) (x : NamespaceResolver) → Proper x → seen (declare_all whole ds x) ≡ declare_all_in ds (scopes_of x)
unfolding declare_all declare_all_in then_of seen
all_seen [] x g = refl
all_seen (d ∷ more) x g =
    let c = declare_of whole d.kind d.prefix d.value d.at x in
    let k = declare_keeps Proper bound_proper x d.kind d.prefix d.value d.at g in
    rw (← declare_seen x g d)
    (seen_pick (is_done c.answer) _ _ _ _ (λ e. all_seen more c.resolver k) (λ e. refl))

-- The calls.

pub scopes_follow : ScopesFollow
unfolding ScopesFollow call_of call_in add_of push_of pop_of raised_of limited_of seen scopes_of made_in made_at made_of prefix_in value_in
scopes_follow x g (add d p v) =
    rw g.valid (declare_seen x g (record { kind = d; prefix = p; value = v; at = places_of 0 (length p) 0 (length v) }))
scopes_follow x g (push s from) =
    rw g.valid
    (seen_pick (leb DEEPEST x.head.level) _ _ _ _ (λ e. refl)
    (λ e. all_seen (declarations_of s (tag_answers s from)) (raised_of x) (raised_proper x (leb-false DEEPEST x.head.level e) g)))
scopes_follow x g pop = level_seen x g (x.head.level - 1)
scopes_follow x g (set_level to h) = level_seen x g to
scopes_follow x g (set_limit limit) = refl
