-- The search for a `nil`: a law for each way of coming back, and why it ends. Each answer that is not the end leaves less
-- to read, so that a budget above what is left is enough, and the search from a state is one answer and the search from
-- the state after it.
use Prim.Native.Nat.{ℕ, zero, suc, ◌+◌, ◌≤◌, ◌<◌}
use mathlib.Core.Path.{◌≡◌, refl, sym, ap, subst, ◌∙◌}
use mathlib.Core.Bool.{Bool, true, false, not, false≢true}
use mathlib.Core.List.{List}
use native.Mathlib.Omega.{arith}
use lib.ListN.{length, replicate}
use Rattle.std.proofs.Common.{Option, Some, None}
use Rattle.std.specs.Prelude.{is_some, Ok, Err}
use Rattle.scan.specs.First.{pick}
use Rattle.tag_step.specs.declared.Place.{Place}
use Rattle.tag_step.specs.declared.Place.TheVariants.{Done}
use Rattle.tag_step.specs.Answer.{Answer}
use Rattle.tag_step.specs.declared.IterState.{IterState}
use Rattle.tag_step.specs.declared.Standing.{Standing}
use Rattle.tag_step.specs.declared.Step.{Step}
use Rattle.tag_step.specs.Read.{recover_of}
use Rattle.tag_step.specs.Next.{keys_of, state_good, no_keys, bad_reading, leaves, next_of, lent_state}
use Rattle.tag_step.specs.Run.{is_end}
use Rattle.tag_parts.specs.Parts.{key_part, value_part}
use Rattle.tag_step.proofs.Whole.{next_bad, next_steps}
use Rattle.tag_step.proofs.Good.{Sized, next_stays_good, next_sized}
use Rattle.tag_step.proofs.Run.{todo, todo_falls}
use Rattle.scope_table.specs.Table.{valid_of}
use Rattle.scope_table.specs.declared.NamespaceResolver.{NamespaceResolver}
use Rattle.scope_nil.specs.declared.HasNil.{HasNil}
use Rattle.scope_nil.specs.declared.Left.{Left}
use Rattle.scope_nil.specs.declared.NilError.TheVariants as Refused
use Rattle.scope_nil.specs.Nil.{said, nil_left_by, is_nil, says_nil, search_of, searched, has_nil_of}

-- What is left to read.

abbrev pub unread : List ℕ → IterState → ℕ
unread s st = todo (length s) (recover_of s st.place)

todo_most : (l : ℕ) (x : Option ℕ) → todo l x ≤ suc l
todo_most l (Some o) = omega arith
todo_most l None = omega arith

-- an answer that is not the end leaves less
pub next_falls : (s : List ℕ) (st : IterState) → state_good s st ≡ true → is_end (next_of s st).answer ≡ false → unread s (next_of s st).state < unread s st
unfolding leaves
next_falls s st good =
    subst (λ (y : Step). is_end y.answer ≡ false → unread s y.state < unread s st) (next_steps s st good _ refl)
    (todo_falls s st.html st.check_duplicates (keys_of st) st.place)

-- Budgets.

same_after : (t p : Bool) (a b y z : HasNil) → (t ≡ false → y ≡ z) → pick t a (pick p b y) ≡ pick t a (pick p b z)
same_after true p a b y z h = refl
same_after false p a b y z h = ap (pick p b) (h refl)

-- two budgets above what is left find the same
enough : (m n : ℕ) (x : NamespaceResolver) (s : List ℕ) (st : IterState) → Sized st → state_good s st ≡ true → unread s st < m → unread s st < n → search_of m x s st ≡ search_of n x s st
unfolding search_of
enough zero n x s st z g h k = absurd (omega (arith, h))
enough (suc m) zero x s st z g h k = absurd (omega (arith, k))
enough (suc m) (suc n) x s st z g h k =
    same_after (is_end (next_of s st).answer) (says_nil x s (next_of s st).answer) _ _ _ _
    (λ e.
    let f = next_falls s st g e in
    enough m n x s (next_of s st).state (next_sized s st z) (next_stays_good s st z) (omega (arith, f, h)) (omega (arith, f, k)))

-- No answer is left out: more budget finds nothing else.
pub search_whole : (j : ℕ) (x : NamespaceResolver) (s : List ℕ) (st : IterState) → Sized st → state_good s st ≡ true → search_of (suc (suc (length s)) + j) x s st ≡ searched x s st
unfolding searched
search_whole j x s st z g =
    let t = todo_most (length s) (recover_of s st.place) in
    enough (suc (suc (length s)) + j) (suc (suc (length s))) x s st z g (omega (arith, t)) (omega (arith, t))

-- One turn: `a` is the next answer, and `after` the state that it leaves.
module _ (x : NamespaceResolver) (s : List ℕ) (st : IterState) (z : Sized st) (g : state_good s st ≡ true) (a : Answer) (after : IterState) (step : record { answer = a; state = after } ≡ next_of s st) where
  search_step : searched x s st ≡ pick (is_end a) (said (Ok false) after) (pick (says_nil x s a) (said (Ok true) after) (searched x s after))
  unfolding searched search_of
  search_step =
      let t = todo_most (length s) (recover_of s st.place) in
      same_after (is_end (next_of s st).answer) (says_nil x s (next_of s st).answer) _ _ _ _
      (λ e.
      let f = next_falls s st g e in
      enough (suc (length s)) (suc (suc (length s))) x s (next_of s st).state (next_sized s st z) (next_stays_good s st z) (omega (arith, f, t)) (omega (arith, f, t)))
      ∙ ap (λ (y : Step). pick (is_end y.answer) (said (Ok false) y.state) (pick (says_nil x s y.answer) (said (Ok true) y.state) (searched x s y.state))) (sym step)

  pub search_ends : is_end a ≡ true → said (Ok false) after ≡ searched x s st
  search_ends e = sym (search_step ∙ rw e)

  pub search_yes : is_end a ≡ false → says_nil x s a ≡ true → said (Ok true) after ≡ searched x s st
  search_yes e y = sym (search_step ∙ rw (e, y))

  pub search_on : is_end a ≡ false → says_nil x s a ≡ false → searched x s st ≡ searched x s after
  search_on e y = search_step ∙ rw (e, y)

-- An answer as the code sees it.

pub end_told : (a : Answer) (b t : Bool) → is_some a ≡ not b → b ≡ t → is_end a ≡ t
unfolding is_end
end_told None true t told e = e
end_told None false t told e = absurd (false≢true told)
end_told (Some x) true t told e = absurd (false≢true (sym told))
end_told (Some x) false t told e = e

pub says_by : (x : NamespaceResolver) (s : List ℕ) (a : Answer) (key value : List ℕ) (b t : Bool) → key ≡ key_part s a → value ≡ value_part s a → b ≡ is_nil x key value → b ≡ t → says_nil x s a ≡ t
unfolding says_nil
says_by x s a key value b t k v e h = rw (sym k, sym v) (sym e ∙ h)

-- The next answer leaves an iterator as good.
module _ (s : List ℕ) (st : IterState) (z : Sized st) (g : state_good s st ≡ true) (a : Answer) (after : IterState) (step : record { answer = a; state = after } ≡ next_of s st) where
  pub lent_good : state_good s after ≡ true
  lent_good = subst (λ (y : Step). state_good s y.state ≡ true) (sym step) (next_stays_good s st z)

  pub lent_sized : Sized after
  lent_sized = subst (λ (y : Step). Sized y.state) (sym step) (next_sized s st z)

  pub lent_falls : is_end a ≡ false → unread s after < unread s st
  lent_falls = subst (λ (y : Step). is_end y.answer ≡ false → unread s y.state < unread s st) (sym step) (next_falls s st g)

-- `has_nil`: 20, then 7, then the search.
module _ (s : List ℕ) (st : IterState) (x : NamespaceResolver) where
  pub has_20 : valid_of x ≡ false → said (Err Refused.BadResolver) st ≡ has_nil_of s st x
  unfolding has_nil_of
  has_20 v = rw v

  module _ (v : valid_of x ≡ true) where
    pub has_7 : (after : IterState) → after ≡ (next_of s st).state → state_good s st ≡ false → said (Err Refused.BadState) after ≡ has_nil_of s st x
    unfolding has_nil_of
    has_7 after e g = rw (v, g, e)

    pub has_search : (r : HasNil) → r ≡ searched x s st → state_good s st ≡ true → r ≡ has_nil_of s st x
    unfolding has_nil_of
    has_search r e g = rw (v, g, e)

-- what 7 leaves: done, no recorded keys, and zeros
pub left_by_7 : (s : List ℕ) (place : Place) (html checks : Bool) (starts ends hashes starts' ends' hashes' : List ℕ) (count : ℕ) → Sized (lent_state place html checks starts ends hashes count) → state_good s (lent_state place html checks starts ends hashes count) ≡ false → starts' ≡ replicate (length starts) 0 → ends' ≡ replicate (length ends) 0 → hashes' ≡ replicate (length hashes) 0 → lent_state Done html checks starts' ends' hashes' 0 ≡ (next_of s (lent_state place html checks starts ends hashes count)).state
unfolding leaves bad_reading no_keys
left_by_7 s place html checks starts ends hashes starts' ends' hashes' count z g a b d =
    rw (a, b, d, z.starts, z.ends, z.hashes) (ap (λ (y : Step). y.state) (next_bad s (lent_state place html checks starts ends hashes count) g))

-- What the contract of `has_nil_in` leaves: one answer, and one content of all three tables.
pub left_one : (h : HasNil) (at : Standing) (o p : Left) (starts ends hashes starts' ends' hashes' : List ℕ) → nil_left_by at o starts ends hashes ≡ h → nil_left_by at p starts' ends' hashes' ≡ h → (o ≡ p) × (starts ≡ starts') × (ends ≡ ends') × (hashes ≡ hashes')
left_one h at o p starts ends hashes starts' ends' hashes' a b =
    let e : nil_left_by at o starts ends hashes ≡ nil_left_by at p starts' ends' hashes' = a ∙ sym b in
    (ap (λ (r : HasNil). record { answer = r.answer; place = r.state.place; count = r.state.count }) e, ap (λ (r : HasNil). r.state.starts) e, ap (λ (r : HasNil). r.state.ends) e, ap (λ (r : HasNil). r.state.hashes) e)
