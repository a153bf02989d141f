-- The form that each call tests first: what decides it, and what a good one has. A test that passed is taken apart into the
-- facts that it tested.
use Prim.Native.Nat.{ℕ, zero, suc, ◌+◌, ◌≤◌, ◌<◌}
use mathlib.Core.Path.{◌≡◌, refl, sym, ◌∙◌}
use mathlib.Core.Bool.{Bool, true, false, ◌&&◌}
use mathlib.Core.List.{List}
use mathlib.Core.Logic.{⊎_elim}
use native.Mathlib.Nat.{eq-or-lt_of_le}
use native.Mathlib.Omega.{arith}
use lib.Dec.{eqb, leb}
use lib.ListN.{length, take, drop}
use borrow.Author.Tests.{eqb-true, leb-true, eq-eqb, le-leb}
use Rattle.std.specs.Prelude.{Result, Ok, Err}
use Rattle.scan.specs.First.{pick}
use Rattle.scan.specs.Bytes.{same_bytes}
use Rattle.scope_table.specs.Lists.{all_below, all_zero}
use Rattle.scope_table.specs.Records.{row_at, record_at, value_end}
use Rattle.scope_table.specs.Table.{TEXT, RECORDS, NUMBERS, DEEPEST, built_in, text_of, level_before, is_record, opens_built_in, is_chain, is_rising, is_within, is_clear, is_table, valid_of}
use Rattle.scope_table.specs.Lent.{stands_for, holds_of, fits_of, lent, form_of}
use Rattle.scope_table.specs.declared.Head.{Head}
use Rattle.scope_table.specs.declared.NamespaceBinding.{NamespaceBinding}
use Rattle.scope_table.specs.declared.NamespaceResolver.{NamespaceResolver}
use Rattle.scope_table.specs.declared.FormError.{FormError}
use Rattle.scope_table.specs.declared.FormError.TheVariants as Is
use Rattle.scope_table.proofs.Lists.{and_left, and_right, and_take, all_at, all_of}
use Rattle.scope_table.proofs.Turns.{text_next, text_grows, linked, link_on, risen, rise_on}
use Rattle.scope_table.proofs.Pad.{pad_table, holds_within, fits_rows}

-- Counts and level within the capacity.
pub record Within (used count level : ℕ) : Type 0 where
  pub few_bytes : used ≤ TEXT
  pub few_records : count ≤ RECORDS
  pub low : level ≤ DEEPEST

pub within : (used count level : ℕ) → is_within used count level ≡ true → Within used count level
unfolding is_within
within used count level e =
    let f = and_right (leb used TEXT) (leb count RECORDS && leb level DEEPEST) e in
    record {
      few_bytes = leb-true used TEXT (and_left (leb used TEXT) (leb count RECORDS && leb level DEEPEST) e);
      few_records = leb-true count RECORDS (and_left (leb count RECORDS) (leb level DEEPEST) f);
      low = leb-true level DEEPEST (and_right (leb count RECORDS) (leb level DEEPEST) f);
    }

-- then the records in use are lent
pub within_rows : (bytes numbers used count level : ℕ) → fits_of bytes numbers used count ≡ true → is_within used count level ≡ true → row_at count ≤ numbers
within_rows bytes numbers used count level f e = fits_rows bytes numbers used count (within used count level e).few_records f

-- what a record with these lengths and this level says
pub record Said (b : NamespaceBinding) (p v l : ℕ) : Type 0 where
  pub prefix_len : b.prefix_len ≡ p
  pub value_len : b.value_len ≡ v
  pub level : b.level ≡ l

pub says : (b : NamespaceBinding) (p v l : ℕ) → is_record b p v l ≡ true → Said b p v l
unfolding is_record
says b p v l e =
    let r = and_right (eqb b.prefix_len p) _ e in
    record {
      prefix_len = eqb-true _ _ (and_left (eqb b.prefix_len p) _ e);
      value_len = eqb-true _ _ (and_left (eqb b.value_len v) _ r);
      level = eqb-true _ _ (and_right (eqb b.value_len v) _ r);
    }

-- All that refusal 20 asks of a table, one by one.
pub record Formed (text records : List ℕ) (head : Head) : Type 0 where
  pub small : head.used ≤ TEXT
  pub few : head.count ≤ RECORDS
  pub deep : head.level ≤ DEEPEST
  pub two : 2 ≤ head.count
  pub opening : same_bytes (take 73 text) built_in ≡ true
  pub xml : is_record (record_at records 0) 3 36 0 ≡ true
  pub xmlns : is_record (record_at records 1) 5 29 0 ≡ true
  pub links : (k : ℕ) → k < head.count → (record_at records k).start ≡ text_of (record_at records) k
  pub ends : text_of (record_at records) head.count ≡ head.used
  pub rises : (k : ℕ) → k < head.count → level_before (record_at records) k ≤ (record_at records k).level
  pub top : (k : ℕ) → k < head.count → (record_at records k).level ≤ head.level
  pub rest_text : all_zero (drop head.used text) ≡ true
  pub rest_records : all_zero (drop (row_at head.count) records) ≡ true

pub formed : (text records : List ℕ) (head : Head) → is_table text records head ≡ true → Formed text records head
unfolding is_table opens_built_in is_chain is_rising is_clear
formed text records head e =
    let rows = record_at records in
    let w = within head.used head.count head.level (and_left (is_within head.used head.count head.level) _ e) in
    let e₁ = and_right (is_within head.used head.count head.level) _ e in
    let opens = and_right (leb 2 head.count) _ (and_left (opens_built_in text rows head.count) _ e₁) in
    let built = and_right (same_bytes (take 73 text) built_in) _ opens in
    let e₂ = and_right (opens_built_in text rows head.count) _ e₁ in
    let chain = and_left (is_chain rows head.used head.count) _ e₂ in
    let e₃ = and_right (is_chain rows head.used head.count) _ e₂ in
    let rising = and_left (is_rising rows head.count head.level) _ e₃ in
    let clear = and_right (is_rising rows head.count head.level) _ e₃ in
    let link : ℕ → Bool = linked rows head.used head.count in
    let rise : ℕ → Bool = risen rows head.count head.level in
    record {
      small = w.few_bytes;
      few = w.few_records;
      deep = w.low;
      two = leb-true 2 head.count (and_left (leb 2 head.count) _ (and_left (opens_built_in text rows head.count) _ e₁));
      opening = and_left (same_bytes (take 73 text) built_in) _ opens;
      xml = and_left (is_record (rows 0) 3 36 0) _ built;
      xmlns = and_right (is_record (rows 0) 3 36 0) _ built;
      links = λ k l. eqb-true _ _ (all_at link head.count k (and_left (all_below link head.count) _ chain) l);
      ends = eqb-true _ _ (and_right (all_below link head.count) _ chain);
      rises = λ k l. leb-true _ _ (and_left (leb (level_before rows k) (rows k).level) _ (all_at rise head.count k rising l));
      top = λ k l. leb-true _ _ (and_right (leb (level_before rows k) (rows k).level) _ (all_at rise head.count k rising l));
      rest_text = and_left (all_zero (drop head.used text)) _ clear;
      rest_records = and_right (all_zero (drop head.used text)) _ clear;
    }

-- the same of a resolver
abbrev pub Shaped : NamespaceResolver → Type 0
Shaped x = Formed x.text x.records x.head

module _ (x : NamespaceResolver) where
  pub form_of_lem : valid_of x ≡ true → Shaped x
  unfolding valid_of
  form_of_lem e = formed x.text x.records x.head e

  -- and what has all of it is not refused
  pub valid_of_lem : Shaped x → valid_of x ≡ true
  unfolding valid_of is_table is_within opens_built_in is_chain is_rising is_clear
  valid_of_lem f =
      let rows = record_at x.records in
      let h = x.head in
      and_take (and_take (le-leb _ _ f.small) (and_take (le-leb _ _ f.few) (le-leb _ _ f.deep)))
      (and_take (and_take (le-leb _ _ f.two) (and_take f.opening (and_take f.xml f.xmlns)))
      (and_take (and_take (all_of (linked rows h.used h.count) h.count (λ k l. link_on rows h.used h.count k (rows k) refl (f.links k l))) (eq-eqb _ _ f.ends))
      (and_take (all_of (risen rows h.count h.level) h.count (λ k l. rise_on rows h.count h.level k (rows k) refl (f.rises k l) (f.top k l)))
      (and_take f.rest_text f.rest_records))))

module _ (text records : List ℕ) (head : Head) (ok : Formed text records head) where
  -- a record's text ends where the next one's starts
  pub follows : (k : ℕ) → k < head.count → value_end (record_at records k) ≡ text_of (record_at records) (k + 1)
  follows k h = omega (arith, ok.links k h, text_next (record_at records) k (record_at records k) refl)

  -- and lies in the text in use
  pub lies : (k : ℕ) → k < head.count → value_end (record_at records k) ≤ head.used
  lies k h = omega (arith, follows k h, ok.ends, text_grows (record_at records) (k + 1) head.count (omega arith))

  -- levels never fall
  pub levels : (i j : ℕ) → i ≤ j → j < head.count → (record_at records i).level ≤ (record_at records j).level
  unfolding level_before
  levels i zero h l =
      let z : i ≡ 0 = omega arith in
      rw z (omega arith)
  levels i (suc j) h l =
      ⊎_elim (λ (q : i ≡ suc j). rw q (omega arith))
      (λ (m : i < suc j). let b = levels i j (omega arith) (omega arith) in omega (arith, b, ok.rises (suc j) l))
      (eq-or-lt_of_le h)

-- What decides the form.

form_by_lem : (t v : Bool) (f : Result (Unit {0}) FormError) → pick t (pick v (Ok tt) (Err Is.BadResolver)) (Err Is.WrongLength) ≡ f → f ≡ Ok tt → (t ≡ true) × (v ≡ true)
form_by_lem true true f e g = (refl, refl)
form_by_lem true false f e g =
    let z : ◌≡◌ {A = ℕ} 0 1 = cc in
    absurd (omega arith)
form_by_lem false v f e g =
    let z : ◌≡◌ {A = ℕ} 0 1 = cc in
    absurd (omega arith)

form_off : (t v : Bool) (f : Result (Unit {0}) FormError) → pick t (pick v (Ok tt) (Err Is.BadResolver)) (Err Is.WrongLength) ≡ f → f ≡ Err Is.BadResolver → (t ≡ true) × (v ≡ false)
form_off true false f e g = (refl, refl)
form_off true true f e g =
    let z : ◌≡◌ {A = ℕ} 0 1 = cc in
    absurd (omega arith)
form_off false v f e g =
    let z : ◌≡◌ {A = ℕ} 0 1 = cc in
    absurd (omega arith)

form_none : (t v : Bool) (f : Result (Unit {0}) FormError) → pick t (pick v (Ok tt) (Err Is.BadResolver)) (Err Is.WrongLength) ≡ f → f ≡ Err Is.WrongLength → t ≡ false
form_none false v f e g = refl
form_none true true f e g =
    let z : ◌≡◌ {A = ℕ} 0 1 = cc in
    absurd (omega arith)
form_none true false f e g =
    let z : ◌≡◌ {A = ℕ} 0 1 = cc in
    absurd (omega arith)

-- Lent memory that passes: what is in use is lent, what is lent is within the capacity, and the table is of the right form.
pub record Ready (text records : List ℕ) (head : Head) : Type 0 where
  pub fit : fits_of (length text) (length records) head.used head.count ≡ true
  pub valid : valid_of (stands_for text records head) ≡ true
  pub table : Formed text records head
  pub bytes_most : length text ≤ TEXT
  pub bytes_lent : head.used ≤ length text
  pub numbers_most : length records ≤ NUMBERS
  pub rows_lent : row_at head.count ≤ length records

module _ (text records : List ℕ) (head : Head) where
  abbrev pub Fits : Bool → Type 0
  Fits t = fits_of (length text) (length records) head.used head.count ≡ t

  -- refusal 20's test reads what is lent
  pub valid_lent : valid_of (stands_for text records head) ≡ is_table text records head
  unfolding valid_of
  valid_lent = pad_table TEXT NUMBERS text records head

  pub form_wrong : Fits false → form_of text records head ≡ Err Is.WrongLength
  unfolding form_of lent
  form_wrong f = rw f

  pub form_bad : Fits true → is_table text records head ≡ false → form_of text records head ≡ Err Is.BadResolver
  unfolding form_of lent
  form_bad f e = rw (f, valid_lent, e)

  pub form_good : Fits true → is_table text records head ≡ true → form_of text records head ≡ Ok tt
  unfolding form_of lent
  form_good f e = rw (f, valid_lent, e)

  -- and what each form says
  pub is_wrong : form_of text records head ≡ Err Is.WrongLength → Fits false
  unfolding form_of lent
  is_wrong e = form_none (fits_of (length text) (length records) head.used head.count) (valid_of (stands_for text records head)) _ e refl

  pub is_bad : form_of text records head ≡ Err Is.BadResolver → Fits true × (valid_of (stands_for text records head) ≡ false)
  unfolding form_of lent
  is_bad e = form_off (fits_of (length text) (length records) head.used head.count) (valid_of (stands_for text records head)) _ e refl

  pub ready_by : Fits true → valid_of (stands_for text records head) ≡ true → Ready text records head
  unfolding fits_of
  ready_by f v =
      let t = formed text records head (sym valid_lent ∙ v) in
      let b = holds_within TEXT (length text) head.used t.small (and_left (holds_of TEXT (length text) head.used) _ f) in
      let m : row_at head.count ≤ NUMBERS = omega (arith, t.few) in
      let n = holds_within NUMBERS (length records) (row_at head.count) m (and_right (holds_of TEXT (length text) head.used) _ f) in
      record { fit = f; valid = v; table = t; bytes_most = b.0; bytes_lent = b.1; numbers_most = n.0; rows_lent = n.1 }

  pub ready : form_of text records head ≡ Ok tt → Ready text records head
  unfolding form_of lent
  ready e =
      let g = form_by_lem (fits_of (length text) (length records) head.used head.count) (valid_of (stands_for text records head)) _ e refl in
      ready_by g.0 g.1
