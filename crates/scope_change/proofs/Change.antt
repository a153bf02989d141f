-- What the two changes leave of lent memory, for each `return` of the calls: a binding is refused, not held, or written; the
-- records that stay are counted from the end, and their text ends where the next one starts.
use Prim.Native.Nat.{ℕ, zero, suc, ◌+◌, ◌-◌, ◌≤◌, ◌<◌}
use mathlib.Core.Path.{◌≡◌, refl, sym, ap, ◌∙◌}
use mathlib.Core.Bool.{Bool, true, false, false≢true}
use mathlib.Core.List.{List, ◌++◌}
use mathlib.Core.Logic.{⊎_elim}
use native.Mathlib.Nat.{eq-or-lt_of_le}
use native.Mathlib.Omega.{arith}
use lib.Dec.{leb, ltb}
use lib.ListN.{length, length-append}
use borrow.Author.Tests.{leb-false, ltb-false, le-leb, lt-leb, lt-ltb, le-ltb}
use Rattle.std.specs.Prelude.{Ok, Err}
use Rattle.scan.specs.First.{pick}
use Rattle.scan.specs.Lists.{pad_to}
use Rattle.scan.proofs.Laws.{picks}
use Rattle.scope_table.specs.Lists.{last_below, cut}
use Rattle.scope_table.specs.Records.{row_at, record_at, binding_of, row_of}
use Rattle.scope_table.specs.Table.{TEXT, NUMBERS, head_of, resolver_of, text_of}
use Rattle.scope_table.specs.Answer.{is_done, changed, NamespaceResult}
use Rattle.scope_table.specs.Lent.{stands_for, holds_of, fits_of, given, lent_of}
use Rattle.scope_table.specs.declared.Head.{Head}
use Rattle.scope_table.specs.declared.NamespaceBinding.{NamespaceBinding}
use Rattle.scope_table.specs.declared.NamespaceResolver.{NamespaceResolver}
use Rattle.scope_table.specs.declared.NamespaceError.TheVariants.{TooManyBindings, BindingTableFull, TextFull, LendMore}
use Rattle.scope_table.proofs.Lists.{and_left, and_right, and_take}
use Rattle.scope_table.proofs.Last.{last_hit, last_miss, last_within}
use Rattle.scope_table.proofs.Rows.{rows_before, rows_within, row_fits}
use Rattle.scope_table.proofs.Turns.{text_grows}
use Rattle.scope_table.proofs.Pad.{pad_records, pad_over, pad_cut, holds_within, holds_is}
use Rattle.scope_table.proofs.Good.{Formed, says, Ready}
use Rattle.scope_table.proofs.Calls.{unchanged, changes, lends_more}
use Rattle.scope_change.specs.Change.{bound_of, refusal_of, append_of, lent_refusal_of, kept_at, end_of, kept_of, dropped_of, level_of}
use Rattle.scope_change.specs.Asked.{HoldsBinding, CanAppend}
use Rattle.scope_change.specs.declared.Room.{Room}

-- Room for a binding.

room_not : (limit : ℕ) (t₁ t₂ t₃ : Bool) → is_done (pick t₁ (Err (TooManyBindings limit)) (pick t₂ (Err BindingTableFull) (pick t₃ (Err TextFull) (Ok tt)))) ≡ true → (t₂ ≡ false) × (t₃ ≡ false)
room_not limit true t₂ t₃ e = absurd (false≢true e)
room_not limit false true t₃ e = absurd (false≢true e)
room_not limit false false true e = absurd (false≢true e)
room_not limit false false false e = (refl, refl)

pub room_has : (room : Room) (head : Head) (size : ℕ) → is_done (refusal_of room head size) ≡ true → (head.count < room.records) × (head.used + size ≤ room.bytes)
unfolding refusal_of
room_has room head size e =
    let b = room_not head.limit (leb head.limit (head.count - 2)) (leb room.records head.count) (ltb room.bytes (head.used + size)) e in
    (leb-false room.records head.count b.0, ltb-false room.bytes (head.used + size) b.1)

module _ (bytes numbers : ℕ) (room : Room) (head : Head) (size : ℕ) where
  lent_by : (t u : Bool) (a : NamespaceResult) → is_done (pick t (pick u (Ok tt) (Err LendMore)) a) ≡ true → (t ≡ false → is_done a ≡ false) → (t ≡ true) × (u ≡ true)
  lent_by true true a e f = (refl, refl)
  lent_by true false a e f = absurd (false≢true e)
  lent_by false u a e f = absurd (false≢true (sym (f refl) ∙ e))

  -- a binding that goes in has room, and what is lent holds it
  pub lent_has : is_done (lent_refusal_of bytes numbers room head size) ≡ true → (is_done (refusal_of room head size) ≡ true) × (fits_of bytes numbers (head.used + size) (head.count + 1) ≡ true)
  unfolding lent_refusal_of
  lent_has e = lent_by (is_done (refusal_of room head size)) (fits_of bytes numbers (head.used + size) (head.count + 1)) (refusal_of room head size) e (λ f. f)

  pub lent_holds : CanAppend bytes numbers head room → is_done (lent_refusal_of bytes numbers room head size) ≡ true → HoldsBinding bytes numbers head size
  unfolding fits_of
  lent_holds w e =
      let h = lent_has e in
      let r = room_has room head size h.0 in
      let b = holds_within TEXT bytes (head.used + size) (omega (arith, w.few_bytes, r.1)) (and_left (holds_of TEXT bytes (head.used + size)) _ h.1) in
      let m : row_at (head.count + 1) ≤ NUMBERS = rows_within (head.count + 1) (omega (arith, w.few_records, r.0)) in
      let n = holds_within NUMBERS numbers (row_at (head.count + 1)) m (and_right (holds_of TEXT bytes (head.used + size)) _ h.1) in
      record { text = b.1; row = n.1 }

  -- the three ways in which the answer is found
  pub lent_refused : (a : NamespaceResult) → a ≡ refusal_of room head size → is_done a ≡ false → a ≡ lent_refusal_of bytes numbers room head size
  unfolding lent_refusal_of
  lent_refused a e n = rw (← e, n)

  pub lent_yes : (a : NamespaceResult) → a ≡ refusal_of room head size → a ≡ Ok tt → fits_of bytes numbers (head.used + size) (head.count + 1) ≡ true → Ok tt ≡ lent_refusal_of bytes numbers room head size
  unfolding lent_refusal_of
  lent_yes a e d f = rw (← e, d, f)

  pub lent_no : (a : NamespaceResult) → a ≡ refusal_of room head size → a ≡ Ok tt → fits_of bytes numbers (head.used + size) (head.count + 1) ≡ false → Err LendMore ≡ lent_refusal_of bytes numbers room head size
  unfolding lent_refusal_of
  lent_no a e d f = rw (← e, d, f)

-- One binding more.
module _ (text records : List ℕ) (head : Head) (room : Room) (w : CanAppend (length text) (length records) head room) (p v : List ℕ) where
  abbrev size : ℕ
  size = length p + length v

  abbrev HoldsIt : Bool → Type 0
  HoldsIt t = fits_of (length text) (length records) (head.used + size) (head.count + 1) ≡ t

  abbrev Meant : NamespaceResult → Type 0
  Meant a = given a text records head ≡ lent_of (append_of room p v) text records head

  refuses : is_done (refusal_of room head size) ≡ false → Meant (refusal_of room head size)
  unfolding append_of
  refuses n = unchanged text records head w.fit (append_of room p v) (refusal_of room head size) (rw n)

  lacks : is_done (refusal_of room head size) ≡ true → HoldsIt false → Meant (Err LendMore)
  unfolding append_of bound_of
  lacks d f = lends_more text records head w.fit (append_of room p v) (Ok tt) (bound_of p v (stands_for text records head)) (rw d) f

  -- what the call does where it does not write
  pub append_not : (a : NamespaceResult) → a ≡ lent_refusal_of (length text) (length records) room head size → is_done a ≡ false → Meant a
  unfolding lent_refusal_of
  append_not a e n = by (is_done (refusal_of room head size)) (fits_of (length text) (length records) (head.used + size) (head.count + 1)) refl refl where
    by : (t u : Bool) → is_done (refusal_of room head size) ≡ t → HoldsIt u → Meant a
    by false u q h = rw (e, q) (refuses q)
    by true false q h = rw (e, q, h) (lacks q h)
    by true true q h = absurd (false≢true (sym n ∙ ap is_done e ∙ rw (q, h)))

  -- and where it does
  pub append_done : (Ok tt) ≡ lent_refusal_of (length text) (length records) room head size → (t r : List ℕ) (h : Head) → resolver_of t r h ≡ bound_of p v (resolver_of text records head) → given (Ok tt) t r h ≡ lent_of (append_of room p v) text records head
  unfolding append_of bound_of
  append_done e t r h b =
      let d = lent_has (length text) (length records) room head size (ap is_done (sym e)) in
      let l = lent_holds (length text) (length records) room head size w (ap is_done (sym e)) in
      let n : head.used + length (p ++ v) ≤ length text = omega (arith, length-append p v, l.text) in
      let new = binding_of head.used (length p) (length v) head.level in
      ap (λ (x : NamespaceResolver). given (Ok tt) x.text x.records x.head) b
      ∙ changes text records head w.fit (append_of room p v) (Ok tt) (bound_of p v (stands_for text records head)) _ _ (rw d.0) d.1
      (pad_over TEXT text head.used (p ++ v) n)
      (pad_over NUMBERS records (row_at head.count) (row_of new) (row_fits head.count (length records) new l.row))

-- The records that are kept: one turn.
module _ (rows : ℕ → NamespaceBinding) (v : ℕ) where
  stays : ℕ → Bool
  stays i = leb (rows i).level v

  level_is : (i : ℕ) (b : NamespaceBinding) → b ≡ rows i → (rows i).level ≡ b.level
  level_is i b e = ap (λ (x : NamespaceBinding). x.level) (sym e)

  pub keep_hit : (i : ℕ) (b : NamespaceBinding) → 0 < i → b ≡ rows (i - 1) → b.level ≤ v → kept_at rows v i ≡ i
  unfolding kept_at stays
  keep_hit i b p e h = last_hit stays i p (le-leb (rows (i - 1)).level v (omega (arith, level_is (i - 1) b e)))

  pub keep_miss : (i : ℕ) (b : NamespaceBinding) → 0 < i → b ≡ rows (i - 1) → v < b.level → kept_at rows v i ≡ kept_at rows v (i - 1)
  unfolding kept_at stays
  keep_miss i b p e h = last_miss stays i p (lt-leb (rows (i - 1)).level v (omega (arith, level_is (i - 1) b e)))

  pub keep_within : (n : ℕ) → kept_at rows v n ≤ n
  unfolding kept_at stays
  keep_within n = last_within stays n

  -- at least up to any record that is not above the level
  pub keep_least : (n m : ℕ) → suc m ≤ n → (rows m).level ≤ v → suc m ≤ kept_at rows v n
  unfolding kept_at last_below
  keep_least zero m h l = h
  keep_least (suc n) m h l =
      picks (λ (k : ℕ). suc m ≤ k) (leb (rows n).level v) (λ e. h)
      (λ e.
      let f = leb-false (rows n).level v e in
      ⊎_elim (λ (q : m ≡ n). absurd (omega (arith, ap (λ (k : ℕ). (rows k).level) q))) (λ (i : m < n). keep_least n m i l) (eq-or-lt_of_le (omega arith)))

-- The built-ins are at level 0, so every level keeps them.
pub keep_two : (text records : List ℕ) (head : Head) → Formed text records head → (to : ℕ) → 2 ≤ kept_at (record_at records) to head.count
keep_two text records head f to =
    let b = says (record_at records 1) 5 29 0 f.xmlns in
    keep_least (record_at records) to head.count 1 f.two (omega (arith, b.level))

-- Where the text of the kept records ends, by what they say and by their lengths.
pub end_is : (rows : ℕ → NamespaceBinding) (k n used : ℕ) → k ≤ n → ((j : ℕ) → j < n → (rows j).start ≡ text_of rows j) → text_of rows n ≡ used → end_of rows k n used ≡ text_of rows k
unfolding end_of
end_is rows k n used h links ends =
    ⊎_elim (λ (q : k ≡ n). rw (le-ltb k n (omega arith)) (sym ends ∙ ap (text_of rows) (sym q))) (λ (l : k < n). rw (lt-ltb k n l) (links k l)) (eq-or-lt_of_le h)

-- The records above a level dropped.
module _ (text records : List ℕ) (head : Head) (ok : Ready text records head) (to k e : ℕ) (ek : k ≡ kept_at (record_at records) to head.count) (ee : e ≡ end_of (record_at records) k head.count head.used) where
  pub k_within : k ≤ head.count
  k_within = rw ek (keep_within (record_at records) to head.count)

  e_text : e ≡ text_of (record_at records) k
  e_text = ee ∙ end_is (record_at records) k head.count head.used k_within ok.table.links ok.table.ends

  e_within : e ≤ head.used
  e_within = omega (arith, e_text, ok.table.ends, text_grows (record_at records) k head.count k_within)

  still_fits : fits_of (length text) (length records) e k ≡ true
  unfolding fits_of
  still_fits =
      and_take (holds_is TEXT (length text) e ok.bytes_most (omega (arith, e_within, ok.bytes_lent)))
      (holds_is NUMBERS (length records) (row_at k) ok.numbers_most (rows_before k head.count (length records) k_within ok.rows_lent))

  drops : level_of to (stands_for text records head) ≡ changed (Ok tt) (resolver_of (cut (pad_to TEXT text) e) (cut (pad_to NUMBERS records) (row_at k)) (head_of e k to head.limit))
  unfolding level_of dropped_of kept_of
  drops = rw (ok.valid, pad_records NUMBERS records, ← ek, ← e_text)

  -- what the clears leave is what is meant
  pub level_done : (t r : List ℕ) → t ≡ cut text e → r ≡ cut records (row_at k) → given (Ok tt) t r (head_of e k to head.limit) ≡ lent_of (level_of to) text records head
  level_done t r p q =
      changes text records head ok.fit (level_of to) (Ok tt) _ t r drops still_fits
      (pad_cut TEXT text e ok.bytes_most (omega (arith, e_within, ok.bytes_lent)) ∙ sym p)
      (pad_cut NUMBERS records (row_at k) ok.numbers_most (rows_before k head.count (length records) k_within ok.rows_lent) ∙ sym q)
