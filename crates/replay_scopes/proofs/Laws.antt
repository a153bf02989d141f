-- The laws of a record of a call: its lengths, what it counts, and what it passes.
use Prim.Native.Nat.{ℕ, ◌+◌, ◌-◌, ◌≤◌, ◌<◌}
use mathlib.Core.Path.{◌≡◌, refl, sym, ap}
use mathlib.Core.Bool.{Bool, true, false, ◌&&◌}
use mathlib.Core.List.{List, [], ◌∷◌}
use native.Mathlib.Omega.{arith}
use lib.ListN.{length, drop, get_or, get_or-eq_default}
use lib.Dec.{ltb}
use borrow.Author.Tests.{lt-ltb, le-ltb, ltb-false}
use Rattle.scan.specs.First.{pick}
use Rattle.scan.specs.Bytes.{part}
use Rattle.replay.specs.Numbers.{two_at}
use Rattle.replay.proofs.Turns.{Passes, passes_agrees, passes_differs, passes_cut, passes_pick}
use Rattle.scope_table.specs.declared.NamespaceResolver.{NamespaceResolver}
use Rattle.std.specs.Prelude.{Some, None, Ok, Err}
use Rattle.scope_listing.specs.Listing.{Listed}
use Rattle.replay_scopes.specs.declared.RecordedCall.{RecordedCall}
use Rattle.replay_scopes.specs.declared.RecordedCall.TheVariants.{Fresh, AddDefault, AddNamed, Push, Pop, SetLevel, SetLimit, ResolveAttribute, ResolveElement, Bindings, BindingsOf}
use Rattle.replay_scopes.specs.declared.Lengths.{Lengths}
use Rattle.replay_scopes.specs.Calls.{recorded_call_of, shown_in, changed_by, reset_to, called_lookup, called_listing, called_of}
use Rattle.std.specs.Prelude.{Option}
use Rattle.std.proofs.Common.{Some, None}
use Rattle.replay_scopes.specs.Replay.{whole, same_said, same_left, lengths_of, held_to, turn_of, turn_at, call_record_of}

-- what is at least k and not k, and what is none of the first ten calls
pub last_call : (number : ℕ) → 10 ≤ number → BindingsOf ≡ recorded_call_of number
unfolding recorded_call_of
last_call number h = sym (get_or-eq_default (Fresh ∷ AddDefault ∷ AddNamed ∷ Push ∷ Pop ∷ SetLevel ∷ SetLimit ∷ ResolveAttribute ∷ ResolveElement ∷ Bindings ∷ []) BindingsOf h)

-- the lengths of the record at the front
module _ (rest : List ℕ) where
  pub too_few : length rest < 27 → None ≡ lengths_of rest
  unfolding lengths_of
  too_few h = rw (lt-ltb (length rest) 27 h)

  module _ (a : 27 ≤ length rest) where
    pub no_call : 10 < get_or rest 0 0 → None ≡ lengths_of rest
    unfolding lengths_of
    no_call h = rw (le-ltb (length rest) 27 a, lt-ltb 10 (get_or rest 0 0) h)

    module _ (k : get_or rest 0 0 ≤ 10) {n : ℕ} (e : n ≡ two_at rest 5) where
      pub first_cut : length rest - 27 < n → None ≡ lengths_of rest
      unfolding lengths_of
      first_cut h = rw (le-ltb (length rest) 27 a, le-ltb 10 (get_or rest 0 0) k, ← e, lt-ltb (length rest - 27) n h)

      module _ (b : n ≤ length rest - 27) {m : ℕ} (f : m ≡ two_at rest (7 + n)) where
        pub second_cut : length rest - 27 - n < m → None ≡ lengths_of rest
        unfolding lengths_of
        second_cut h =
            rw (le-ltb (length rest) 27 a, le-ltb 10 (get_or rest 0 0) k, ← e, le-ltb (length rest - 27) n b, ← f, lt-ltb (length rest - 27 - n) m h)

        pub all_there : m ≤ length rest - 27 - n → whole n m ≡ lengths_of rest
        unfolding lengths_of
        all_there h =
            rw (le-ltb (length rest) 27 a, le-ltb 10 (get_or rest 0 0) k, ← e, le-ltb (length rest - 27) n b, ← f, le-ltb (length rest - 27 - n) m h)

-- A whole record is there with all its bytes.
first_of : Option Lengths → ℕ
first_of (Some l) = l.first
first_of None = 0

second_of : Option Lengths → ℕ
second_of (Some l) = l.second
second_of None = 0

tests : (t u v w : Bool) (k l : ℕ) (at : Lengths) → pick t None (pick u None (pick v None (pick w None (whole k l)))) ≡ Some at → (t ≡ false) × (v ≡ false) × (w ≡ false) × (k ≡ at.first) × (l ≡ at.second)
unfolding first_of second_of
tests true u v w k l at h = let z : ◌≡◌ {A = ℕ} 0 1 = cc in absurd (omega arith)
tests false true v w k l at h = let z : ◌≡◌ {A = ℕ} 0 1 = cc in absurd (omega arith)
tests false false true w k l at h = let z : ◌≡◌ {A = ℕ} 0 1 = cc in absurd (omega arith)
tests false false false true k l at h = let z : ◌≡◌ {A = ℕ} 0 1 = cc in absurd (omega arith)
tests false false false false k l at h = (refl, refl, refl, ap first_of h, ap second_of h)

pub whole_fits : (rest : List ℕ) {at : Lengths} → lengths_of rest ≡ Some at → 27 + at.first + at.second ≤ length rest
unfolding lengths_of
whole_fits rest {at} h =
    let k = two_at rest 5 in
    let l = two_at rest (7 + two_at rest 5) in
    let t = tests (ltb (length rest) 27) (ltb 10 (get_or rest 0 0)) (ltb (length rest - 27) k) (ltb (length rest - 27 - k) l) k l at h in
    let a = ltb-false (length rest) 27 t.0 in
    let b = ltb-false (length rest - 27) k t.1 in
    let d = ltb-false (length rest - 27 - k) l t.2 in
    let e : k ≡ at.first = t.3 in
    let f : l ≡ at.second = t.4 in
    omega arith

-- A call resolves at most one name, and shows at most one binding.
one_shown : (l : Listed) → shown_in l ≤ 1
unfolding shown_in
one_shown (Ok (Some b)) = omega arith
one_shown (Ok None) = omega arith
one_shown (Err why) = omega arith

counts : (x : NamespaceResolver) (call : RecordedCall) (a b : ℕ) (s t : List ℕ) → ((called_of x call a b s t).names ≤ 1) × ((called_of x call a b s t).bindings ≤ 1)
unfolding called_of changed_by reset_to called_lookup called_listing
counts x Fresh a b s t = (omega arith, omega arith)
counts x AddDefault a b s t = (omega arith, omega arith)
counts x AddNamed a b s t = (omega arith, omega arith)
counts x Push a b s t = (omega arith, omega arith)
counts x Pop a b s t = (omega arith, omega arith)
counts x SetLevel a b s t = (omega arith, omega arith)
counts x SetLimit a b s t = (omega arith, omega arith)
counts x ResolveAttribute a b s t = (omega arith, omega arith)
counts x ResolveElement a b s t = (omega arith, omega arith)
counts x Bindings a b s t = (omega arith, one_shown _)
counts x BindingsOf a b s t = (omega arith, one_shown _)

-- A record that agrees has at least 27 bytes, and they are all there.
turn_passes : (x : NamespaceResolver) (rest : List ℕ) (l : Option Lengths) → lengths_of rest ≡ l → Passes (turn_at l x rest).step (length rest)
unfolding turn_at turn_of held_to
turn_passes x rest (Some at) e =
    let f = whole_fits rest e in
    let k = at.first in
    let l = at.second in
    let call = recorded_call_of (get_or rest 0 0) in
    let s = part rest 7 (7 + k) in
    let t = part rest (9 + k) (9 + k + l) in
    let c = counts x call (two_at rest 1) (two_at rest 3) s t in
    let called_with = called_of x call (two_at rest 1) (two_at rest 3) s t in
    passes_pick (same_said called_with.said (drop (9 + k + l) rest) && same_left called_with.resolver.head.used called_with.resolver.head.count called_with.resolver.head.level (drop (9 + k + l) rest)) (λ y. passes_agrees (omega arith) (omega arith) (omega arith) (omega arith)) (λ y. passes_differs)
turn_passes x rest None e = passes_cut

pub passes : (x : NamespaceResolver) (rest : List ℕ) → Passes (call_record_of x rest).step (length rest)
unfolding call_record_of
passes x rest = turn_passes x rest (lengths_of rest) refl
