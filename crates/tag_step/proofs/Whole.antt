-- The whole step, a law for each `return`, and where a key that was read lies.
use Prim.Native.Nat.{ℕ, ◌+◌, ◌≤◌, ◌<◌}
use mathlib.Core.Path.{◌≡◌, sym, subst, ◌∙◌}
use mathlib.Core.Bool.{Bool, true, false}
use mathlib.Core.List.{List}
use native.Mathlib.Nat.{le_of_lt}
use native.Mathlib.Omega.{arith}
use lib.ListN.{length, get_or}
use lib.Dec.{eqb, ltb, leb}
use borrow.Author.Tests.{ltb-true, leb-true}
use Rattle.std.proofs.Common.{Result, Ok, Err, Option, Some, None}
use Rattle.scan.specs.First.{first_from}
use Rattle.scan.specs.Bytes.{is_space, not_space, ends_key, part}
use Rattle.scan.proofs.Laws.{first, picks}
use Rattle.scan.proofs.Bytes.{both}
use Rattle.tag_keys.specs.declared.KeyRefusal.{KeyRefusal}
use Rattle.tag_keys.specs.declared.KeyRefusal.TheVariants.{Same, Full}
use Rattle.tag_keys.specs.Hash.{hash_of}
use Rattle.tag_keys.specs.Keys.{KeysIn, table_good, checked_of, written_by, count_by}
use Rattle.tag_keys.proofs.Laws.{table_in}
use Rattle.tag_step.specs.declared.Span.{Span}
use Rattle.tag_step.specs.declared.Place.{Place}
use Rattle.tag_step.specs.declared.Place.TheVariants.{Done, Next, SkipValue, SkipEqValue}
use Rattle.tag_step.specs.declared.KeyRead.{KeyRead}
use Rattle.tag_step.specs.declared.KeyRead.TheVariants.{Bare, Valued}
use Rattle.tag_step.specs.Answer.{Answer}
use Rattle.tag_step.specs.declared.Attr.TheVariants.{Empty}
use Rattle.tag_step.specs.declared.AttrError.TheVariants.{ExpectedEq, Duplicated, KeyTableFull}
use Rattle.tag_step.specs.declared.Found.{Found}
use Rattle.tag_step.specs.declared.Advance.{Advance}
use Rattle.tag_step.specs.declared.IterState.{IterState}
use Rattle.tag_step.specs.Read.{found, is_at, skip_to, skip_of, recover_of, key_eq, key_to, key_from, key_at, value_at}
use Rattle.tag_step.specs.Next.{Keys, Reading, reading, keys_lent, advanced, check_of, kept_by, place_at, bare_by, bare_to, bare_of, valued_by, valued_to, valued_of, read_key, read_at, step_from, step_of, place_good, good_of, keys_of, state_good, bad_reading, leaves, next_of}

abbrev outcome : Answer → Place → ℕ → Advance
outcome a p n = record { answer = a; place = p; count = n }

-- a bare key in XML mode
pub bare_xml : (s : List ℕ) (html checks : Bool) (keys : Keys) (key : Span) (at : ℕ) → html ≡ false → (p : Place) → p ≡ place_at s at → reading (found (Some (Err (ExpectedEq at))) p) keys ≡ bare_of s html checks keys key at
unfolding bare_of
bare_xml s html checks keys key at off p e = rw (off, e)

-- a key that was checked, v the verdict, and what is in the tables then
module _ (s : List ℕ) (html checks : Bool) (starts ends hashes : List ℕ) (count : ℕ) (key : Span) (at : ℕ) (v : Result ℕ KeyRefusal) (starts' ends' hashes' : List ℕ)
    (verdict : v ≡ checked_of s checks starts ends count key.start key.end)
    (in-starts : starts' ≡ written_by checks v starts count key.start)
    (in-ends : ends' ≡ written_by checks v ends count key.end)
    (in-hashes : hashes' ≡ written_by checks v hashes count (hash_of (part s key.start key.end))) where
  module _ (on : html ≡ true) (p : Place) (there : p ≡ place_at s at) where
    pub bare_fresh : (n : ℕ) → v ≡ Ok n → advanced (outcome (Some (Ok (Empty key))) p n) starts' ends' hashes' ≡ bare_of s html checks (keys_lent starts ends hashes count) key at
    unfolding bare_of bare_to bare_by kept_by check_of count_by
    bare_fresh n e = rw (on, sym verdict, in-starts, in-ends, in-hashes, e, there)

    pub bare_same : (q : ℕ) → v ≡ Err (Same q) → advanced (outcome (Some (Err (Duplicated key.start q))) p count) starts' ends' hashes' ≡ bare_of s html checks (keys_lent starts ends hashes count) key at
    unfolding bare_of bare_to bare_by kept_by check_of count_by
    bare_same q e = rw (on, sym verdict, in-starts, in-ends, in-hashes, e, there)

    pub bare_full : v ≡ Err Full → advanced (outcome (Some (Err (KeyTableFull key.start))) Done count) starts' ends' hashes' ≡ bare_of s html checks (keys_lent starts ends hashes count) key at
    unfolding bare_of bare_to bare_by kept_by check_of count_by
    bare_full e = rw (on, sym verdict, in-starts, in-ends, in-hashes, e)

  pub valued_fresh : (n : ℕ) → v ≡ Ok n → (x : Found) → x ≡ value_at s html key at → advanced (outcome x.answer x.place n) starts' ends' hashes' ≡ valued_of s html checks (keys_lent starts ends hashes count) key at
  unfolding valued_of valued_to valued_by kept_by check_of count_by
  valued_fresh n e x f = rw (sym verdict, in-starts, in-ends, in-hashes, e, f)

  pub valued_same : (q : ℕ) → v ≡ Err (Same q) → advanced (outcome (Some (Err (Duplicated key.start q))) (SkipEqValue at) count) starts' ends' hashes' ≡ valued_of s html checks (keys_lent starts ends hashes count) key at
  unfolding valued_of valued_to valued_by kept_by check_of count_by
  valued_same q e = rw (sym verdict, in-starts, in-ends, in-hashes, e)

  pub valued_full : v ≡ Err Full → advanced (outcome (Some (Err (KeyTableFull key.start))) Done count) starts' ends' hashes' ≡ valued_of s html checks (keys_lent starts ends hashes count) key at
  unfolding valued_of valued_to valued_by kept_by check_of count_by
  valued_full e = rw (sym verdict, in-starts, in-ends, in-hashes, e)

-- the step

module _ (s : List ℕ) (html checks : Bool) (keys : Keys) (place : Place) where
  pub step_ended : recover_of s place ≡ None → reading (found None place) keys ≡ step_of s html checks keys place
  unfolding step_of step_from
  step_ended e = rw e

  module _ (o : ℕ) (from : recover_of s place ≡ Some o) where
    pub step_reads : read_at s html checks keys o ≡ step_of s html checks keys place
    unfolding step_of step_from
    step_reads = rw from

    pub step_none : key_at s o ≡ None → reading (found None Done) keys ≡ step_of s html checks keys place
    unfolding read_at read_key
    step_none e = sym (sym step_reads ∙ rw e)

    pub step_bare : (key : Span) (at : ℕ) → key_at s o ≡ Some (Bare key at) → bare_of s html checks keys key at ≡ step_of s html checks keys place
    unfolding read_at read_key
    step_bare key at e = sym (sym step_reads ∙ rw e)

    pub step_valued : (key : Span) (eq : ℕ) → key_at s o ≡ Some (Valued key eq) → valued_of s html checks keys key eq ≡ step_of s html checks keys place
    unfolding read_at read_key
    step_valued key eq e = sym (sym step_reads ∙ rw e)

-- What is good: a law for each `return` of `good_in`.
module _ (s starts ends hashes : List ℕ) (count : ℕ) (place : Place) where
  pub good_keys : table_good s starts ends hashes count ≡ false → false ≡ good_of s (keys_lent starts ends hashes count) place
  good_keys k = rw k

-- the recorded keys of a good state lie in the tag, as `step_in` asks
pub good_inside : (s : List ℕ) (keys : Keys) (place : Place) → good_of s keys place ≡ true → KeysIn keys.starts keys.ends keys.hashes keys.count s
good_inside s keys place g =
    table_in s keys.starts keys.ends keys.hashes keys.count
    (both (table_good s keys.starts keys.ends keys.hashes keys.count) (place_good s place) g).0

-- `next`

module _ (s : List ℕ) (st : IterState) where
  pub next_bad : state_good s st ≡ false → leaves st bad_reading ≡ next_of s st
  unfolding next_of
  next_bad h = rw h

  module _ (good : state_good s st ≡ true) where
    pub next_steps : (x : Reading) → x ≡ step_of s st.html st.check_duplicates (keys_of st) st.place → leaves st x ≡ next_of s st
    unfolding next_of
    next_steps x e = rw (good, e)

-- where a key lies that was read from o on: x is its `=`, or what follows it
pub record KeyBy (l o : ℕ) (key : Span) (x : ℕ) : Type 0 where
  pub from : o ≤ key.start
  pub some : key.start < key.end
  pub ahead : key.end ≤ x
  pub inside : x ≤ l

unfoldable pub KeyIn : List ℕ → ℕ → Option KeyRead → Type 0
KeyIn s o None = Unit {0}
KeyIn s o (Some (Bare key at)) = KeyBy (length s) o key at
KeyIn s o (Some (Valued key eq)) = KeyBy (length s) o key eq × (is_at s 61 eq ≡ true)

pub at_in : (s : List ℕ) (b x : ℕ) → is_at s b x ≡ true → x < length s
unfolding is_at
at_in s b x t = ltb-true x (length s) (both (ltb x (length s)) (eqb (get_or s x 0) b) t).0

eq_in : (s : List ℕ) (o : ℕ) (key : Span) (x : ℕ) → KeyBy (length s) o key x → KeyIn s o (key_eq s key x)
unfolding key_eq KeyIn
eq_in s o key x by = picks (KeyIn s o) (is_at s 61 x) (λ t. (by, t)) (λ t. by)

pub key_in : (s : List ℕ) (o : ℕ) → o ≤ length s → KeyIn s o (key_at s o)
unfolding key_at key_from key_to KeyIn
key_in s o h =
    let a = first not_space s o h in
    picks (KeyIn s o) (ltb (first_from not_space s o) (length s))
    (λ e.
    let g : first_from not_space s o < length s = ltb-true _ _ e in
    let b = first ends_key s (first_from not_space s o + 1) (omega arith) in
    let d = first not_space s (first_from ends_key s (first_from not_space s o + 1)) b.inside in
    eq_in s o _ _ (record { from = a.ahead; some = omega (arith, b.ahead); ahead = d.ahead; inside = d.inside }))
    (λ e. tt)

module _ (s : List ℕ) (o : ℕ) (h : o ≤ length s) (key : Span) (x : ℕ) where
  pub bare_by_lem : key_at s o ≡ Some (Bare key x) → KeyBy (length s) o key x
  unfolding KeyIn
  bare_by_lem e = subst (KeyIn s o) e (key_in s o h)

  pub valued_by_lem : key_at s o ≡ Some (Valued key x) → KeyBy (length s) o key x × (is_at s 61 x ≡ true)
  unfolding KeyIn
  valued_by_lem e = subst (KeyIn s o) e (key_in s o h)

-- Where reading goes on is in the tag or at its end.

unfoldable pub StartIn : ℕ → Option ℕ → Type 0
StartIn l (Some o) = o ≤ l
StartIn l None = Unit {0}

skip_in : (s : List ℕ) (w : ℕ) → StartIn (length s) (skip_to s w)
unfolding skip_to StartIn
skip_in s w = picks (StartIn (length s)) (ltb w (length s)) (λ e. le_of_lt (ltb-true w (length s) e)) (λ e. tt)

pub recover_in : (s : List ℕ) (p : Place) → StartIn (length s) (recover_of s p)
unfolding recover_of skip_of StartIn
recover_in s Done = tt
recover_in s (Next o) = picks (StartIn (length s)) (leb o (length s)) (λ e. leb-true o (length s) e) (λ e. tt)
recover_in s (SkipValue o) = skip_in s (first_from is_space s o)
recover_in s (SkipEqValue o) = skip_in s (first_from is_space s o)

pub starts_in : (s : List ℕ) (p : Place) (o : ℕ) → recover_of s p ≡ Some o → o ≤ length s
unfolding StartIn
starts_in s p o e = subst (StartIn (length s)) e (recover_in s p)
