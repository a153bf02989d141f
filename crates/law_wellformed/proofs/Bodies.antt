-- A body is read as its attributes, in order and with no refusal. By induction over the attributes: what is left of the
-- tag is the text of those to come, and no recorded key has one of their names.
use Prim.Native.Nat.{ℕ, zero, suc, ◌+◌, ◌-◌, ◌≤◌, ◌<◌}
use mathlib.Core.Path.{◌≡◌, refl, sym, ap, subst, ◌∙◌}
use mathlib.Core.Bool.{Bool, true, false}
use mathlib.Core.Logic.{⊎_elim}
use mathlib.Core.List.{List, [], ◌∷◌, ◌++◌, append-nil}
use native.Mathlib.Nat.{eq-or-lt_of_le, le_of_suc-le-suc}
use native.Mathlib.Omega.{arith}
use lib.ListN.{length, get_or, set, drop, length-append, length-drop, length-replicate}
use lib.Seq.{drop-append_seam, get_or-set_same, get_or-set_other}
use Rattle.std.proofs.Common.{Ok}
use Rattle.std.specs.Prelude.{None}
use Rattle.scan.specs.First.{first_from}
use Rattle.scan.specs.Bytes.{is_space, not_space, part}
use Rattle.scan.proofs.Laws.{past, skip}
use Rattle.tag_keys.specs.Hash.{hash_of}
use Rattle.tag_keys.specs.Keys.{capacity, KeysIn, KeyRoom, name_at, count_by}
use Rattle.tag_keys.proofs.Laws.{in_table, keys_none, earlier_none, checked_off, checked_fresh, written_on, room_stays, keys_held, room_holds}
use Rattle.tag_step.specs.declared.Place.TheVariants.{Done, Next}
use Rattle.tag_step.specs.Answer.{Answer}
use Rattle.tag_step.specs.declared.Found.{Found}
use Rattle.tag_step.specs.declared.IterState.{IterState}
use Rattle.tag_step.specs.declared.Span.{Span}
use Rattle.tag_step.specs.Read.{span, found}
use Rattle.tag_step.specs.Next.{Keys, reading, check_of, kept_by, valued_by, valued_to, valued_of, read_key, read_at, step_from, step_of, place_good, keys_of, state_good, no_keys, leaves, next_of, opened}
use Rattle.tag_step.specs.Run.{is_end, cons_unless, run_of, answers_of}
use Rattle.tag_step.proofs.Paths.{next_from, key_none}
use Rattle.law_wellformed.specs.Grammar.{each, Quote, double, single, Attribute, attribute_then, Body, attributes_then, body_text, Quoted, AllQuoted, QuotedBody, Absent, Distinct}
use Rattle.law_wellformed.specs.Expected.{name_start, name_end, next, in_quotes, attribute_of, attributes_of}
use Rattle.law_wellformed.proofs.Cursor.{each_fails, word_at}
use Rattle.law_wellformed.proofs.Tests.{space_fails}
use Rattle.law_wellformed.proofs.OneAttribute.{at_next, next_inside, name_is, name_order, name_inside, key_read, value_read}

no_end : (q : Quote) (key value : Span) → is_end (in_quotes q key value) ≡ false
unfolding is_end in_quotes
no_end double key value = refl
no_end single key value = refl

-- Nothing but whitespace is left.
only_space_lem : (s : List ℕ) (o : ℕ) (w : List ℕ) → drop o s ≡ w → each is_space w ≡ true → o ≤ length s → first_from not_space s o ≡ length s
only_space_lem s o w here h le =
    let cut : drop o s ≡ w ++ [] = here ∙ sym (append-nil w) in
    skip not_space s o (length s) le (omega arith)
    (λ k lo hi.
    let e : o + (k - o) ≡ k = omega arith in
    let l : k - o < length w = omega (arith, ap length here, length-drop o s) in
    subst (λ (j : ℕ). not_space (get_or s j 0) ≡ false) e
    (ap not_space (word_at s o w [] cut (k - o) l) ∙ each_fails not_space is_space space_fails w h (k - o) l))
    ∙ past not_space s (length s) (omega arith)

-- Before the attributes `more` are read: the table is good, has room for their names, and holds none of them.
pub record Awaits (s : List ℕ) (checks : Bool) (keys : Keys) (more : List Attribute) : Type 0 where
  pub inside : KeysIn keys.starts keys.ends keys.hashes keys.count s
  pub room : KeyRoom checks keys.starts keys.ends keys.hashes
  pub few : checks ≡ true → keys.count + length more ≤ capacity
  pub fresh : checks ≡ true → (k : ℕ) → k < keys.count → Absent (name_at s keys.starts keys.ends k) more

module _ (s : List ℕ) (html checks : Bool) where
  abbrev state_at : ℕ → Keys → IterState
  state_at o keys = record { place = Next o; html = html; check_duplicates = checks; starts = keys.starts; ends = keys.ends; hashes = keys.hashes; count = keys.count }

  -- from a good state reading goes on at its place
  next_reads : (o : ℕ) (keys : Keys) → KeysIn keys.starts keys.ends keys.hashes keys.count s → o ≤ length s → next_of s (state_at o keys) ≡ leaves (state_at o keys) (read_at s html checks keys o)
  unfolding next_of state_good place_good step_of keys_of step_from
  next_reads o keys i h = rw (in_table s keys.starts keys.ends keys.hashes keys.count i, sym (next_from s o h))

  module _ (o : ℕ) (keys : Keys) (a : Attribute) (more : List Attribute) (rest : List ℕ) (here : drop o s ≡ attribute_then a rest) (fine : Quoted a) (ready : Awaits s checks keys (a ∷ more)) where
    abbrev key : Span
    key = span (name_start o a) (name_end o a)

    check_on : checks ≡ true → check_of s checks keys key ≡ Ok (keys.count + 1)
    unfolding check_of Absent
    check_on on =
        let few = ready.few on in
        checked_fresh s checks keys.starts keys.ends keys.count (name_start o a) (name_end o a) on
        (earlier_none s keys.starts keys.ends keys.count (name_start o a) (name_end o a) (λ k lt e. (ready.fresh on k lt).0 (e ∙ name_is s o a rest here fine)))
        (omega arith)

    check_new : (n : ℕ) × (check_of s checks keys key ≡ Ok n)
    unfolding check_of
    check_new = by checks refl where
      by : (t : Bool) → checks ≡ t → (n : ℕ) × (check_of s checks keys key ≡ Ok n)
      by true on = (keys.count + 1, check_on on)
      by false off = (keys.count, checked_off s checks keys.starts keys.ends keys.count (name_start o a) (name_end o a) off)

    -- the recorded keys after this one
    abbrev kept : Keys
    kept = kept_by s checks keys key (check_of s checks keys key)

    reads_one : read_at s html checks keys o ≡ reading (found (attribute_of o a) (Next (next o a))) kept
    unfolding read_at read_key valued_of valued_to valued_by attribute_of
    reads_one =
        let n = check_new.0 in
        let c : check_of s checks keys key ≡ Ok n = check_new.1 in
        let v : valued_by s html key (name_end o a + length a.before_eq) (check_of s checks keys key) ≡ found (attribute_of o a) (Next (next o a)) = rw c (value_read s o a rest here fine html key) in
        rw (key_read s o a rest here fine) (ap (λ (x : Found). reading x kept) v)

    starts_on : checks ≡ true → kept.starts ≡ set keys.starts keys.count (name_start o a)
    unfolding kept_by
    starts_on on = rw (check_on on) (written_on checks (keys.count + 1) keys.starts keys.count (name_start o a) on)

    ends_on : checks ≡ true → kept.ends ≡ set keys.ends keys.count (name_end o a)
    unfolding kept_by
    ends_on on = rw (check_on on) (written_on checks (keys.count + 1) keys.ends keys.count (name_end o a) on)

    count_on : checks ≡ true → kept.count ≡ keys.count + 1
    unfolding kept_by count_by
    count_on on = rw (check_on on)

    name_new : checks ≡ true → (k : ℕ) → k ≡ keys.count → name_at s kept.starts kept.ends k ≡ a.name
    unfolding name_at
    name_new on k e =
        let few = ready.few on in
        let room = ready.room.room on in
        rw (e, starts_on on, ends_on on, get_or-set_same keys.starts keys.count (name_start o a) 0 (omega arith), get_or-set_same keys.ends keys.count (name_end o a) 0 (omega arith)) (name_is s o a rest here fine)

    name_old : checks ≡ true → (k : ℕ) → k < keys.count → name_at s kept.starts kept.ends k ≡ name_at s keys.starts keys.ends k
    unfolding name_at
    name_old on k lt =
        let n : k ≡ keys.count → ⊥ = λ e. omega arith in
        rw (starts_on on, ends_on on, get_or-set_other keys.starts keys.count k (name_start o a) 0 n, get_or-set_other keys.ends keys.count k (name_end o a) 0 n)

    awaits_next : (checks ≡ true → Distinct (a ∷ more)) → Awaits s checks kept more
    unfolding kept_by check_of Distinct Absent
    awaits_next distinct =
        record {
          inside = keys_held s keys.starts keys.ends keys.hashes keys.count (name_start o a) (name_end o a) ready.inside checks (name_order s o a rest here fine) (name_inside s o a rest here fine)
              (room_holds s keys.starts keys.ends keys.hashes keys.count (name_start o a) (name_end o a) ready.inside checks ready.room);
          room = room_stays checks (check_of s checks keys key) keys.starts keys.ends keys.hashes keys.count (name_start o a) (name_end o a) (hash_of (part s (name_start o a) (name_end o a))) ready.room;
          few = λ on. omega (arith, count_on on, ready.few on);
          fresh = λ on k lt.
              ⊎_elim (λ (e : k ≡ keys.count). subst (λ (n : List ℕ). Absent n more) (sym (name_new on k e)) (distinct on).0)
              (λ (l : k < keys.count). subst (λ (n : List ℕ). Absent n more) (sym (name_old on k l)) (ready.fresh on k l).1)
              (eq-or-lt_of_le (below on k lt));
        } where
          below : checks ≡ true → (k : ℕ) → k < kept.count → k ≤ keys.count
          below on k lt = omega (arith, count_on on)

  reads_none : (o : ℕ) (keys : Keys) (w : List ℕ) → drop o s ≡ w → each is_space w ≡ true → o ≤ length s → read_at s html checks keys o ≡ reading (found None Done) keys
  unfolding read_at read_key
  reads_none o keys w here h le =
      let e = only_space_lem s o w here h le in
      rw (sym (key_none s o (first_from not_space s o) refl (omega arith)))

  reads_all : (more : List Attribute) (w : List ℕ) (o : ℕ) (keys : Keys) (n : ℕ) → AllQuoted more → each is_space w ≡ true → (checks ≡ true → Distinct more) → Awaits s checks keys more → drop o s ≡ attributes_then more w → o ≤ length s → length more < n → run_of n s (state_at o keys) ≡ attributes_of o more
  unfolding run_of attributes_of attributes_then AllQuoted Distinct is_end cons_unless leaves attribute_of
  reads_all more w o keys zero fine h distinct ready here le lt = absurd (omega arith)
  reads_all [] w o keys (suc n) fine h distinct ready here le lt =
      rw (next_reads o keys ready.inside le, reads_none o keys w here h le)
  reads_all (a ∷ more) w o keys (suc n) fine h distinct ready here le lt =
      let rest = attributes_then more w in
      rw (next_reads o keys ready.inside le, reads_one o keys a more rest here fine.0 ready, no_end a.quote _ _)
      (ap (λ (xs : List Answer). attribute_of o a ∷ xs)
      (reads_all more w (next o a) (kept o keys a more rest here fine.0 ready) n fine.1 h (λ on. (distinct on).1)
      (awaits_next o keys a more rest here fine.0 ready distinct)
      (at_next s o a rest here fine.0) (next_inside s o a rest here fine.0) (le_of_suc-le-suc lt)))

-- no more attributes than bytes
text_longer : (more : List Attribute) (w : List ℕ) → length more ≤ length (attributes_then more w)
unfolding attributes_then attribute_then
text_longer [] w = omega arith
text_longer (a ∷ more) w =
    let i = text_longer more w in
    simp length-append (omega arith)

awaits_first : (s : List ℕ) (checks : Bool) (more : List Attribute) → (checks ≡ true → length more ≤ capacity) → Awaits s checks no_keys more
unfolding no_keys
awaits_first s checks more few =
    record {
      inside = keys_none no_keys.starts no_keys.ends no_keys.hashes s;
      room = record { room = λ on. (omega (arith, length-replicate {A = ℕ} capacity 0), omega (arith, length-replicate {A = ℕ} capacity 0), omega (arith, length-replicate {A = ℕ} capacity 0)) };
      few = λ on. omega (arith, few on);
      fresh = λ on k lt. absurd (omega arith);
    }

-- what reading a body has to give, after any bytes, in both modes
module _ (pre : List ℕ) (b : Body) (html checks : Bool) where
  abbrev pub Read : Type 0
  Read = answers_of (pre ++ body_text b) (opened (length pre) html checks) ≡ attributes_of (length pre) b.attributes

  -- Only with checks on do the names and their number matter.
  pub body_reads : QuotedBody b → (checks ≡ true → (length b.attributes ≤ capacity) × Distinct b.attributes) → Read
  unfolding answers_of opened body_text
  body_reads fine names =
      let s = pre ++ body_text b in
      reads_all s html checks b.attributes b.after (length pre) no_keys (suc (length s)) fine.attributes fine.after (λ on. (names on).1)
      (awaits_first s checks b.attributes (λ on. (names on).0))
      (drop-append_seam pre (body_text b)) (omega (arith, length-append pre (body_text b)))
      (omega (arith, length-append pre (body_text b), text_longer b.attributes b.after))
