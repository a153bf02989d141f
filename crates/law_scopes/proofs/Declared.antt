-- What one binding more keeps, every declaration keeps, and so do all declarations of a tag.
use Prim.Native.Nat.{ℕ, ◌+◌}
use mathlib.Core.Path.{◌≡◌}
use mathlib.Core.Bool.{true}
use mathlib.Core.List.{List, [], ◌∷◌}
use lib.ListN.{length}
use Rattle.std.specs.Prelude.{Option, Some, None, Ok, Err}
use Rattle.scan.proofs.Laws.{picks}
use Rattle.name.specs.declared.PrefixDeclaration.{PrefixDeclaration}
use Rattle.scope_table.specs.Answer.{is_done, NamespaceResult}
use Rattle.scope_table.specs.declared.NamespaceResolver.{NamespaceResolver}
use Rattle.scope_table.specs.declared.Changed.{Changed}
use Rattle.scope_change.specs.Change.{whole, bound_of, refusal_of, append_of}
use Rattle.scope_change.proofs.Change.{room_has}
use Rattle.scope_declare.specs.declared.Places.{Places}
use Rattle.scope_declare.specs.Declare.{Judged, judge_of, settle_of, declare_of}
use Rattle.scope_push.specs.Push.{Declaration, then_of, declare_all}
use Rattle.law_scopes.proofs.Bound.{Takes}

-- what a prefix and a value are refused by, in a resolver that has all of the room
abbrev pub refusal : NamespaceResolver → (prefix value : List ℕ) → NamespaceResult
refusal x p v = refusal_of whole x.head (length p + length v)

-- a binding that goes in has its room
pub room_of_lem : (x : NamespaceResolver) (p v : List ℕ) → is_done (refusal x p v) ≡ true → Takes x p v
room_of_lem x p v e =
    let h = room_has whole x.head (length p + length v) e in
    record { records = h.0; bytes = h.1 }

module _ (P : NamespaceResolver → Type 0) (grows : (x : NamespaceResolver) (p v : List ℕ) → Takes x p v → P x → P (bound_of p v x)) where
  append_keeps : (x : NamespaceResolver) (p v : List ℕ) → P x → P (append_of whole p v x).resolver
  unfolding append_of
  append_keeps x p v h =
      picks (λ (c : Changed). P c.resolver) (is_done (refusal x p v)) (λ e. grows x p v (room_of_lem x p v e) h) (λ e. h)

  settle_keeps : (j : Judged) (x : NamespaceResolver) (p v : List ℕ) → P x → P (settle_of whole j p v x).resolver
  unfolding settle_of
  settle_keeps (Err a) x p v h = h
  settle_keeps (Ok None) x p v h = h
  settle_keeps (Ok (Some n)) x p v h = append_keeps x _ v h

  pub declare_keeps : (x : NamespaceResolver) (d : Option PrefixDeclaration) (p v : List ℕ) (at : Places) → P x → P (declare_of whole d p v at x).resolver
  unfolding declare_of
  declare_keeps x d p v at h = settle_keeps (judge_of d p v at) x p v h

  pub all_keep : (ds : List Declaration) (x : NamespaceResolver) → P x → P (declare_all whole ds x).resolver
  unfolding declare_all then_of
  all_keep [] x h = h
  all_keep (d ∷ more) x h =
      let c = declare_of whole d.kind d.prefix d.value d.at x in
      let k = declare_keeps x d.kind d.prefix d.value d.at h in
      picks (λ (r : Changed). P r.resolver) (is_done c.answer) (λ e. all_keep more c.resolver k) (λ e. k)
