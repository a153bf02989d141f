-- Declarations one by one on lent memory, taken back where one is not held, are the whole call: it answers LendMore exactly
-- where what the call leaves is not held, since a resolver only grows along its declarations.
use Prim.Native.Nat.{ℕ, ◌+◌, ◌-◌, ◌≤◌, ◌<◌}
use mathlib.Core.Path.{◌≡◌, refl, sym, subst, ◌∙◌}
use mathlib.Core.Bool.{Bool, true, false, false≢true}
use mathlib.Core.List.{List, [], ◌∷◌, ◌++◌, append_assoc}
use native.Mathlib.Omega.{arith}
use lib.ListN.{length, take, drop, replicate, length-append}
use lib.Seq.{take-append-le, drop-append-le}
use Rattle.std.specs.Prelude.{Ok, Err}
use Rattle.scan.specs.First.{pick}
use Rattle.scan.specs.Lists.{over, pad_to}
use Rattle.scan.proofs.Lists.{over_length, take_of_over, pad_take}
use Rattle.scope_table.specs.Lists.{cut}
use Rattle.scope_table.specs.Records.{row_at, row_of, binding_of}
use Rattle.scope_table.specs.Table.{TEXT, RECORDS, NUMBERS, head_of}
use Rattle.scope_table.specs.Answer.{is_done, changed, NamespaceResult}
use Rattle.scope_table.specs.Lent.{stands_for, holds_of, fits_of, Given, given, held_of, lent_of}
use Rattle.scope_table.specs.declared.Head.{Head}
use Rattle.scope_table.specs.declared.NamespaceResolver.{NamespaceResolver}
use Rattle.scope_table.specs.declared.Changed.{Changed}
use Rattle.scope_table.specs.declared.NamespaceError.TheVariants.{LendMore}
use Rattle.scope_change.specs.Change.{bound_of}
use Rattle.scope_change.specs.declared.Room.{Room}
use Rattle.scope_declare.proofs.Laws.{is_more, declare_ways}
use Rattle.scope_table.proofs.Lists.{and_left, and_right, and_take}
use Rattle.scope_table.proofs.Rows.{rows_rise, rows_before, rows_within, row_fits}
use Rattle.scope_table.proofs.Pad.{pad_over, holds_within, holds_is}
use Rattle.scope_table.proofs.Calls.{unchanged, changes, lends_more}
use Rattle.scope_push.specs.Push.{Declaration, declare_one, then_of, declare_all}
use Rattle.scope_push.specs.Run.{then_given, one_by_one}

-- Writes at the end of what is in use.

pad_write : (m : ℕ) (xs : List ℕ) (n : ℕ) (s : List ℕ) → n + length s ≤ length xs → pad_to m (over xs n s) ≡ over (pad_to m xs) n s
unfolding over pad_to
pad_write m xs n s h =
    let z = replicate {A = ℕ} (m - length xs) 0 in
    let l : length (take n xs ++ s ++ drop (n + length s) xs) ≡ length xs = over_length xs n s h in
    rw (l, take-append-le n xs z (omega arith), drop-append-le (n + length s) xs z h) (append_assoc (take n xs ++ s) (drop (n + length s) xs) z)

cut_write : (xs : List ℕ) (k n : ℕ) (s : List ℕ) → k ≤ n → n + length s ≤ length xs → cut (over xs n s) k ≡ cut xs k
unfolding cut
cut_write xs k n s h l = rw (over_length xs n s l, take_of_over k xs n s h (omega arith))

-- What is lent and holds something is within the capacity, and has it.
fits_within : (b n u c : ℕ) → u ≤ TEXT → c ≤ RECORDS → fits_of b n u c ≡ true → (b ≤ TEXT) × (u ≤ b) × (n ≤ NUMBERS) × (row_at c ≤ n)
unfolding fits_of
fits_within b n u c h k e =
    let x = holds_within TEXT b u h (and_left (holds_of TEXT b u) _ e) in
    let y = holds_within NUMBERS n (row_at c) (rows_within c k) (and_right (holds_of TEXT b u) _ e) in
    (x.0, x.1, y.0, y.1)

-- What does not hold something holds nothing more either.
fits_not_more : (b n u c u' c' : ℕ) → fits_of b n u c ≡ false → u ≤ u' → u' ≤ TEXT → c ≤ c' → c' ≤ RECORDS → fits_of b n u' c' ≡ false
unfolding fits_of
fits_not_more b n u c u' c' e hu hu' hc hc' = by (fits_of b n u' c') refl where
  by : (t : Bool) → fits_of b n u' c' ≡ t → fits_of b n u' c' ≡ false
  by false q = q
  by true q =
      let x = fits_within b n u' c' hu' hc' q in
      absurd (false≢true (sym e ∙ and_take (holds_is TEXT b u x.0 (omega arith)) (holds_is NUMBERS n (row_at c) x.2 (rows_before c c' n hc x.3))))

-- A resolver only grows, and stays within the capacity.
pub record Grows (x y : NamespaceResolver) : Type 0 where
  pub text : x.head.used ≤ y.head.used
  pub rows : x.head.count ≤ y.head.count
  pub small : y.head.used ≤ TEXT
  pub few : y.head.count ≤ RECORDS

module _ (room : Room) (few : room.records ≤ RECORDS) (small : room.bytes ≤ TEXT) where
  same_grows : (x : NamespaceResolver) → x.head.used ≤ TEXT → x.head.count ≤ RECORDS → Grows x x
  same_grows x h k = record { text = omega arith; rows = omega arith; small = h; few = k }

  abbrev Later : List Declaration → Type 0
  Later ds = (x : NamespaceResolver) → x.head.used ≤ TEXT → x.head.count ≤ RECORDS → Grows x (declare_all room ds x).resolver

  then_grows : (ds : List Declaration) → Later ds → (x : NamespaceResolver) → x.head.used ≤ TEXT → x.head.count ≤ RECORDS → (a : NamespaceResult) (t : Bool) → is_done a ≡ t → Grows x (then_of (changed a x) (declare_all room ds)).resolver
  unfolding then_of
  then_grows ds next x h k a true e = rw e (next x h k)
  then_grows ds next x h k a false e = rw e (same_grows x h k)

  bound_grows : (ds : List Declaration) → Later ds → (x : NamespaceResolver) (p v : List ℕ) → x.head.count < room.records → x.head.used + (length p + length v) ≤ room.bytes → Grows x (then_of (changed (Ok tt) (bound_of p v x)) (declare_all room ds)).resolver
  unfolding then_of bound_of
  bound_grows ds next x p v h k =
      let g = next (bound_of p v x) (omega arith) (omega arith) in
      record { text = omega (arith, g.text); rows = omega (arith, g.rows); small = g.small; few = g.few }

  pub grows : (ds : List Declaration) → Later ds
  unfolding declare_all
  grows [] x h k = same_grows x h k
  grows (d ∷ ds) x h k =
      declare_ways room x (λ c. Grows x (then_of c (declare_all room ds)).resolver)
      (λ a e. then_grows ds (grows ds) x h k a (is_done a) refl)
      (bound_grows ds (grows ds) x)
      d.kind d.prefix d.value d.at

-- Lent memory on the way, beside what it was at first.
pub record Along (t₀ r₀ : List ℕ) (h₀ : Head) (t r : List ℕ) (h : Head) : Type 0 where
  pub fits : fits_of (length t) (length r) h.used h.count ≡ true
  pub small : h.used ≤ TEXT
  pub few : h.count ≤ RECORDS
  pub bytes : length t ≡ length t₀
  pub numbers : length r ≡ length r₀
  pub ahead : h₀.used ≤ h.used
  pub after : h₀.count ≤ h.count
  pub text_back : cut t h₀.used ≡ t₀
  pub rows_back : cut r (row_at h₀.count) ≡ r₀

-- what was added is taken back where it did not go through
unfoldable pub back_of : Head → Given → Given
back_of head g =
    pick (is_more g.answer) (given (Err LendMore) (cut g.text head.used) (cut g.records (row_at head.count)) head) g

-- One binding more on lent memory that holds it.
module _ (p v t r : List ℕ) (h : Head) (small : h.used + (length p + length v) ≤ TEXT) (few : h.count < RECORDS) (holds : fits_of (length t) (length r) (h.used + (length p + length v)) (h.count + 1) ≡ true) where
  abbrev next_text : List ℕ
  next_text = over t h.used (p ++ v)

  abbrev row : List ℕ
  row = row_of (binding_of h.used (length p) (length v) h.level)

  abbrev next_records : List ℕ
  next_records = over r (row_at h.count) row

  abbrev next_head : Head
  next_head = head_of (h.used + (length p + length v)) (h.count + 1) h.level h.limit

  text_in : h.used + length (p ++ v) ≤ length t
  text_in =
      let w = fits_within (length t) (length r) (h.used + (length p + length v)) (h.count + 1) small (omega arith) holds in
      omega (arith, length-append p v, w.1)

  row_in : row_at h.count + length row ≤ length r
  row_in =
      let w = fits_within (length t) (length r) (h.used + (length p + length v)) (h.count + 1) small (omega arith) holds in
      row_fits h.count (length r) (binding_of h.used (length p) (length v) h.level) w.3

  -- it is one binding more on the resolver
  bound_is : stands_for next_text next_records next_head ≡ bound_of p v (stands_for t r h)
  unfolding bound_of
  bound_is = rw (pad_write TEXT t h.used (p ++ v) text_in, pad_write NUMBERS r (row_at h.count) row row_in)

  lent_bound : (f : NamespaceResolver → Changed) → fits_of (length t) (length r) h.used h.count ≡ true → f (stands_for t r h) ≡ changed (Ok tt) (bound_of p v (stands_for t r h)) → given (Ok tt) next_text next_records next_head ≡ lent_of f t r h
  unfolding bound_of
  lent_bound f fit e =
      changes t r h fit f (Ok tt) (bound_of p v (stands_for t r h)) next_text next_records e holds
      (pad_over TEXT t h.used (p ++ v) text_in)
      (pad_over NUMBERS r (row_at h.count) row row_in)

  along_next : (t₀ r₀ : List ℕ) (h₀ : Head) → Along t₀ r₀ h₀ t r h → Along t₀ r₀ h₀ next_text next_records next_head
  along_next t₀ r₀ h₀ a =
      let lt = over_length t h.used (p ++ v) text_in in
      let lr = over_length r (row_at h.count) row row_in in
      let f : row_at h₀.count ≤ row_at h.count = rows_rise h₀.count h.count a.after in
      record {
        fits = rw (lt, lr) holds;
        small = small;
        few = omega arith;
        bytes = lt ∙ a.bytes;
        numbers = lr ∙ a.numbers;
        ahead = omega (arith, a.ahead);
        after = omega (arith, a.after);
        text_back = cut_write t h₀.used h.used (p ++ v) a.ahead text_in ∙ a.text_back;
        rows_back = cut_write r (row_at h₀.count) (row_at h.count) row f row_in ∙ a.rows_back;
      }

-- What a declaration leaves of lent memory: as long as before, and what is in use is held.
pub record Kept (t r t' r' : List ℕ) (h' : Head) : Type 0 where
  pub bytes : length t' ≡ length t
  pub numbers : length r' ≡ length r
  pub fits : fits_of (length t') (length r') h'.used h'.count ≡ true

abbrev KeptBy : (t r : List ℕ) → Given → Type 0
KeptBy t r g = Kept t r g.text g.records g.head

module _ (room : Room) (few : room.records ≤ RECORDS) (small : room.bytes ≤ TEXT) (t r : List ℕ) (h : Head) (k : Kept t r t r h) (f : NamespaceResolver → Changed) where
  kept_bound : (p v : List ℕ) → h.count < room.records → h.used + (length p + length v) ≤ room.bytes → f (stands_for t r h) ≡ changed (Ok tt) (bound_of p v (stands_for t r h)) → (u : Bool) → fits_of (length t) (length r) (h.used + (length p + length v)) (h.count + 1) ≡ u → KeptBy t r (lent_of f t r h)
  unfolding bound_of
  kept_bound p v l m e true w =
      let s : h.used + (length p + length v) ≤ TEXT = omega arith in
      let q : h.count < RECORDS = omega arith in
      let lt = over_length t h.used (p ++ v) (text_in p v t r h s q w) in
      let lr = over_length r (row_at h.count) (row p v t r h s q w) (row_in p v t r h s q w) in
      rw (← lent_bound p v t r h s q w f k.fits e) (record { bytes = lt; numbers = lr; fits = rw (lt, lr) w })
  kept_bound p v l m e false w = rw (← lends_more t r h k.fits f (Ok tt) (bound_of p v (stands_for t r h)) e w) k

declare_kept : (room : Room) → room.records ≤ RECORDS → room.bytes ≤ TEXT → (d : Declaration) (t r : List ℕ) (h : Head) → Kept t r t r h → KeptBy t r (lent_of (declare_one room d) t r h)
declare_kept room few small d t r h k =
    let f = declare_one room d in
    declare_ways room (stands_for t r h) (λ c. f (stands_for t r h) ≡ c → KeptBy t r (lent_of f t r h))
    (λ a m e. rw (← unchanged t r h k.fits f a e) k)
    (λ p v l m e. kept_bound room few small t r h k f p v l m e (fits_of (length t) (length r) (h.used + (length p + length v)) (h.count + 1)) refl)
    d.kind d.prefix d.value d.at refl

-- the same of a call that gave b, and left t', r' and h'
pub turn_kept : (room : Room) → room.records ≤ RECORDS → room.bytes ≤ TEXT → (d : Declaration) (t₀ r₀ t r : List ℕ) (h : Head) → Kept t₀ r₀ t r h → (b : NamespaceResult) (t' r' : List ℕ) (h' : Head) → given b t' r' h' ≡ lent_of (declare_one room d) t r h → Kept t₀ r₀ t' r' h'
turn_kept room few small d t₀ r₀ t r h k b t' r' h' e =
    let l : Kept t r t r h = record { bytes = refl; numbers = refl; fits = k.fits } in
    let m : KeptBy t r (given b t' r' h') = subst (KeptBy t r) (sym e) (declare_kept room few small d t r h l) in
    record { bytes = m.bytes ∙ k.bytes; numbers = m.numbers ∙ k.numbers; fits = m.fits }

module _ (t₀ r₀ : List ℕ) (h₀ : Head) where
  held_same : (t r : List ℕ) (h : Head) → Along t₀ r₀ h₀ t r h → (b : NamespaceResult) → held_of t₀ r₀ h₀ (changed b (stands_for t r h)) ≡ given b t r h
  unfolding held_of
  held_same t r h a b = rw (← a.bytes, ← a.numbers, a.fits, pad_take TEXT t, pad_take NUMBERS r)

  held_not : (t r : List ℕ) (h : Head) → Along t₀ r₀ h₀ t r h → (c : Changed) → fits_of (length t) (length r) c.resolver.head.used c.resolver.head.count ≡ false → held_of t₀ r₀ h₀ c ≡ given (Err LendMore) t₀ r₀ h₀
  unfolding held_of
  held_not t r h a c e = rw (← a.bytes, ← a.numbers, e)

  back_keeps : (b : NamespaceResult) (t r : List ℕ) (h : Head) → is_more b ≡ false → back_of h₀ (given b t r h) ≡ given b t r h
  unfolding back_of
  back_keeps b t r h e = rw e

  back_takes : (t r : List ℕ) (h : Head) → Along t₀ r₀ h₀ t r h → back_of h₀ (given (Err LendMore) t r h) ≡ given (Err LendMore) t₀ r₀ h₀
  unfolding back_of
  back_takes t r h a = rw (a.text_back, a.rows_back)

  module _ (room : Room) (few : room.records ≤ RECORDS) (small : room.bytes ≤ TEXT) where
    -- what is to be shown of the declarations that are left
    abbrev Goal : List Declaration → Type 0
    Goal ds = (t r : List ℕ) (h : Head) → Along t₀ r₀ h₀ t r h → back_of h₀ (one_by_one room ds t r h) ≡ held_of t₀ r₀ h₀ (declare_all room ds (stands_for t r h))

    module _ (ds : List Declaration) (next : Goal ds) (f : NamespaceResolver → Changed) (t r : List ℕ) (h : Head) (a : Along t₀ r₀ h₀ t r h) where
      -- and of one more before them
      abbrev Step : Changed → Type 0
      Step c = back_of h₀ (then_given (lent_of f t r h) (one_by_one room ds)) ≡ held_of t₀ r₀ h₀ (then_of c (declare_all room ds))

      -- it adds nothing
      step_keeps : (b : NamespaceResult) → is_more b ≡ false → f (stands_for t r h) ≡ changed b (stands_for t r h) → (u : Bool) → is_done b ≡ u → Step (changed b (stands_for t r h))
      unfolding then_given then_of
      step_keeps b m e true d = rw (← unchanged t r h a.fits f b e, d) (next t r h a)
      step_keeps b m e false d = rw (← unchanged t r h a.fits f b e, d) (back_keeps b t r h m ∙ sym (held_same t r h a b))

      -- it adds a binding, which is held, or not
      step_binds : (p v : List ℕ) → h.count < room.records → h.used + (length p + length v) ≤ room.bytes → f (stands_for t r h) ≡ changed (Ok tt) (bound_of p v (stands_for t r h)) → (u : Bool) → fits_of (length t) (length r) (h.used + (length p + length v)) (h.count + 1) ≡ u → Step (changed (Ok tt) (bound_of p v (stands_for t r h)))
      unfolding then_given then_of bound_of
      step_binds p v k l e true w =
          let s : h.used + (length p + length v) ≤ TEXT = omega arith in
          let q : h.count < RECORDS = omega arith in
          rw (← lent_bound p v t r h s q w f a.fits e, ← bound_is p v t r h s q w) (next (next_text p v t r h s q w) (next_records p v t r h s q w) (next_head p v t r h s q w) (along_next p v t r h s q w t₀ r₀ h₀ a))
      step_binds p v k l e false w =
          let y = bound_of p v (stands_for t r h) in
          let g = grows room few small ds y (omega arith) (omega arith) in
          let n = fits_not_more (length t) (length r) _ _ _ _ w g.text g.small g.rows g.few in
          rw (← lends_more t r h a.fits f (Ok tt) y e w, held_not t r h a (declare_all room ds y) n) (back_takes t r h a)

    pub run_back : (ds : List Declaration) → Goal ds
    unfolding one_by_one declare_all
    run_back [] t r h a = back_keeps (Ok tt) t r h refl ∙ sym (held_same t r h a (Ok tt))
    run_back (d ∷ ds) t r h a =
        let f = declare_one room d in
        let x = stands_for t r h in
        declare_ways room x (λ c. f x ≡ c → Step ds (run_back ds) f t r h a c)
        (λ b m e. step_keeps ds (run_back ds) f t r h a b m e (is_done b) refl)
        (λ p v k l e. step_binds ds (run_back ds) f t r h a p v k l e (fits_of (length t) (length r) (h.used + (length p + length v)) (h.count + 1)) refl)
        d.kind d.prefix d.value d.at refl
