-- What a step on lent tables does, a law for each `return`: it is taken where the tables hold the keys that it leaves.
use Prim.Native.Nat.{ℕ, ◌≤◌, ◌<◌}
use mathlib.Core.Path.{◌≡◌, refl, sym, ap, subst, ◌∙◌}
use mathlib.Core.Bool.{Bool, true, false}
use mathlib.Core.List.{List}
use native.Mathlib.Omega.{arith}
use lib.ListN.{length, set}
use Rattle.std.proofs.Common.{Result, Ok, Err, Option, Some, None}
use Rattle.scan.specs.First.{pick}
use Rattle.scan.specs.Bytes.{part}
use Rattle.tag_keys.specs.declared.KeyRefusal.{KeyRefusal}
use Rattle.tag_keys.specs.declared.KeyRefusal.TheVariants.{Same, Full}
use Rattle.tag_keys.specs.Hash.{hash_of}
use Rattle.tag_keys.specs.Keys.{holds, KeysIn, KeyRoom, hash_for, checked_of, recorded_in, written_by, count_by}
use Rattle.tag_keys.proofs.Laws.{facts_hold, KeysAfter, keys_held, room_holds, written_length}
use Rattle.tag_step.specs.declared.Span.{Span}
use Rattle.tag_step.specs.declared.Place.{Place}
use Rattle.tag_step.specs.declared.Advance.{Advance}
use Rattle.tag_step.specs.Read.{recover_of}
use Rattle.tag_step.specs.Next.{Keys, Reading, keys_lent, advanced, check_of, kept_by, bare_to, bare_of, valued_to, valued_of, step_from, step_of}
use Rattle.tag_step.specs.Lent.{Took, Short, taken, taken_on}
use Rattle.tag_step.proofs.Whole.{starts_in}
use Rattle.tag_step.proofs.Ways.{step_ways}

-- what stands in a table after each verdict
module _ (checks : Bool) (v : Result ℕ KeyRefusal) (t : List ℕ) (count x : ℕ) where
  pub written_fresh : (u : List ℕ) {n : ℕ} → v ≡ Ok n → u ≡ recorded_in checks t count x → u ≡ written_by checks v t count x
  unfolding written_by
  written_fresh u e r = r ∙ rw e

  pub written_same : (p : ℕ) → v ≡ Err (Same p) → t ≡ written_by checks v t count x
  unfolding written_by
  written_same p e = rw e

  pub written_full : v ≡ Err Full → t ≡ written_by checks v t count x
  unfolding written_by
  written_full e = rw e

-- and in the table of hashes after a new key
pub written_hash : (s : List ℕ) (checks : Bool) (key : Span) (v : Result ℕ KeyRefusal) (hashes : List ℕ) (count h : ℕ) (u : List ℕ) {n : ℕ} → v ≡ Ok n → h ≡ hash_for s checks key.start key.end → u ≡ recorded_in checks hashes count h → u ≡ written_by checks v hashes count (hash_of (part s key.start key.end))
unfolding hash_for
written_hash s true key v hashes count h u e own r = written_fresh true v hashes count (hash_of (part s key.start key.end)) u e (r ∙ ap (set hashes count) own)
written_hash s false key v hashes count h u e own r = written_fresh false v hashes count (hash_of (part s key.start key.end)) u e r

-- taken, and not
pub took : (keys : Keys) (x y : Reading) → x ≡ y → holds keys.starts keys.ends keys.hashes x.keys.count ≡ true → Took x ≡ taken_on keys y
unfolding taken_on
took keys x y e h = ap Took e ∙ rw (sym e, h)

pub untaken : (keys : Keys) (y : Reading) → holds keys.starts keys.ends keys.hashes y.keys.count ≡ false → Short keys ≡ taken_on keys y
unfolding taken_on
untaken keys y h = rw h

-- a step that leaves as many keys as there were is taken
pub took_same : (keys : Keys) (s : List ℕ) → KeysIn keys.starts keys.ends keys.hashes keys.count s → (x y : Reading) → x ≡ y → x.keys.count ≡ keys.count → Took x ≡ taken_on keys y
took_same keys s i x y e n = took keys x y e (rw n (facts_hold keys.starts keys.ends keys.hashes keys.count i.placed))

-- a new key that is not held
module _ (s : List ℕ) (html checks : Bool) (starts ends hashes : List ℕ) (count : ℕ) (key : Span) (at n : ℕ) (fresh : checked_of s checks starts ends count key.start key.end ≡ Ok n) (short : holds starts ends hashes n ≡ false) where
  pub valued_untaken : Short (keys_lent starts ends hashes count) ≡ taken_on (keys_lent starts ends hashes count) (valued_of s html checks (keys_lent starts ends hashes count) key at)
  unfolding valued_of valued_to kept_by count_by check_of
  valued_untaken = untaken (keys_lent starts ends hashes count) (valued_of s html checks (keys_lent starts ends hashes count) key at) (rw (fresh, short))

  pub bare_untaken : html ≡ true → Short (keys_lent starts ends hashes count) ≡ taken_on (keys_lent starts ends hashes count) (bare_of s html checks (keys_lent starts ends hashes count) key at)
  unfolding bare_of bare_to kept_by count_by check_of
  bare_untaken on = untaken (keys_lent starts ends hashes count) (bare_of s html checks (keys_lent starts ends hashes count) key at) (rw (on, fresh, short))

-- what recording a key leaves, by what it says
module _ (a t u : List ℕ) (r : Bool) (e : u ≡ pick r a t) where
  pub left_recorded : r ≡ true → u ≡ a
  left_recorded h = e ∙ rw h

  pub left_alone : r ≡ false → u ≡ t
  left_alone h = e ∙ rw h

pub short_alone : (starts ends hashes starts' ends' hashes' : List ℕ) (count : ℕ) → starts' ≡ starts → ends' ≡ ends → hashes' ≡ hashes → Short (keys_lent starts' ends' hashes' count) ≡ Short (keys_lent starts ends hashes count)
short_alone starts ends hashes starts' ends' hashes' count s e h = rw (s, e, h)

-- A step that is taken keeps the keys inside the tag, and the tables as long as they were.
pub record Held (s : List ℕ) (before after : Keys) : Type 0 where
  pub inside : KeysIn after.starts after.ends after.hashes after.count s
  pub starts : length after.starts ≡ length before.starts
  pub ends : length after.ends ≡ length before.ends
  pub hashes : length after.hashes ≡ length before.hashes

module _ (s : List ℕ) (checks : Bool) (keys : Keys) (i : KeysIn keys.starts keys.ends keys.hashes keys.count s) where
  held_all : Held s keys keys
  held_all = record { inside = i; starts = refl; ends = refl; hashes = refl }

  held_by : (key : Span) (c : Result ℕ KeyRefusal) → key.start < key.end → key.end ≤ length s → c ≡ check_of s checks keys key → holds keys.starts keys.ends keys.hashes (kept_by s checks keys key c).count ≡ true → Held s keys (kept_by s checks keys key c)
  unfolding check_of kept_by
  held_by key c lt le e h =
      record {
        inside = subst (λ (v : Result ℕ KeyRefusal). holds keys.starts keys.ends keys.hashes (count_by v keys.count) ≡ true → KeysAfter checks v keys.starts keys.ends keys.hashes keys.count key.start key.end s) (sym e) (keys_held s keys.starts keys.ends keys.hashes keys.count key.start key.end i checks lt le) h;
        starts = written_length checks c keys.starts keys.count key.start;
        ends = written_length checks c keys.ends keys.count key.end;
        hashes = written_length checks c keys.hashes keys.count (hash_of (part s key.start key.end));
      }

  pub step_keeps_held : (html : Bool) (place : Place) →
      let x = step_of s html checks keys place in
      holds keys.starts keys.ends keys.hashes x.keys.count ≡ true → Held s keys x.keys
  unfolding step_of step_from bare_to valued_to
  step_keeps_held html place = by (recover_of s place) refl where
    by : (x : Option ℕ) → recover_of s place ≡ x →
        let r = step_from s html checks keys place x in
        holds keys.starts keys.ends keys.hashes r.keys.count ≡ true → Held s keys r.keys
    by None e = λ h. held_all
    by (Some o) e =
        step_ways s html checks keys o (starts_in s place o e) (λ (x : Reading) (_ : ℕ). holds keys.starts keys.ends keys.hashes x.keys.count ≡ true → Held s keys x.keys)
        (λ e h. held_all)
        (λ key at e b m h. held_all)
        (λ key at c e b m v h. held_by key c b.some (omega (arith, b.ahead, b.inside)) v h)
        (λ key eq c e b a v h. held_by key c b.some (omega (arith, b.ahead, b.inside)) v h)

-- With room for every key every step is taken.
module _ (s : List ℕ) (checks : Bool) (keys : Keys) (i : KeysIn keys.starts keys.ends keys.hashes keys.count s) (r : KeyRoom checks keys.starts keys.ends keys.hashes) where
  held : holds keys.starts keys.ends keys.hashes keys.count ≡ true
  held = facts_hold keys.starts keys.ends keys.hashes keys.count i.placed

  kept_held : (key : Span) (c : Result ℕ KeyRefusal) → c ≡ check_of s checks keys key → holds keys.starts keys.ends keys.hashes (kept_by s checks keys key c).count ≡ true
  unfolding kept_by check_of
  kept_held key c e = rw e (room_holds s keys.starts keys.ends keys.hashes keys.count key.start key.end i checks r)

  pub step_held : (html : Bool) (place : Place) → holds keys.starts keys.ends keys.hashes (step_of s html checks keys place).keys.count ≡ true
  unfolding step_of step_from bare_to valued_to
  step_held html place = by (recover_of s place) refl where
    by : (x : Option ℕ) → recover_of s place ≡ x → holds keys.starts keys.ends keys.hashes (step_from s html checks keys place x).keys.count ≡ true
    by None e = held
    by (Some o) e =
        step_ways s html checks keys o (starts_in s place o e) (λ (x : Reading) (_ : ℕ). holds keys.starts keys.ends keys.hashes x.keys.count ≡ true)
        (λ e. held)
        (λ key at e b m. held)
        (λ key at c e b m v. kept_held key c v)
        (λ key eq c e b a v. kept_held key c v)

  -- so that lending more is never asked for
  pub room_takes : (html : Bool) (place : Place) (r : Option Advance) (starts ends hashes : List ℕ) → taken r starts ends hashes keys.count ≡ taken_on keys (step_of s html checks keys place) → taken r starts ends hashes keys.count ≡ Took (step_of s html checks keys place)
  unfolding taken_on
  room_takes html place r starts ends hashes e = e ∙ rw (step_held html place)

  pub room_made : (html : Bool) (place : Place) (r : Option Advance) (o : Advance) (starts ends hashes : List ℕ) → taken r starts ends hashes keys.count ≡ taken_on keys (step_of s html checks keys place) → r ≡ Some o → advanced o starts ends hashes ≡ step_of s html checks keys place
  room_made html place r o starts ends hashes e m =
      let z = room_takes html place r starts ends hashes e in
      let w : taken r starts ends hashes keys.count ≡ Took (advanced o starts ends hashes) = ap (λ (x : Option Advance). taken x starts ends hashes keys.count) m in
      cc

  pub room_never : (html : Bool) (place : Place) (r : Option Advance) (starts ends hashes : List ℕ) → taken r starts ends hashes keys.count ≡ taken_on keys (step_of s html checks keys place) → r ≡ None → ⊥
  room_never html place r starts ends hashes e m =
      let z = room_takes html place r starts ends hashes e in
      let w : taken r starts ends hashes keys.count ≡ Short (keys_lent starts ends hashes keys.count) = ap (λ (x : Option Advance). taken x starts ends hashes keys.count) m in
      let n : ◌≡◌ {A = ℕ} 0 1 = cc in
      omega arith
