-- Which steps can be damaged, and that the cuts lie in the tag one after another, past where reading begins.
use Prim.Native.Nat.{ℕ, zero, suc, ◌+◌, ◌-◌, ◌≤◌, ◌<◌}
use mathlib.Core.Path.{◌≡◌, refl, sym, ap, subst, ◌∙◌}
use mathlib.Core.Bool.{Bool, true, false, true≢false, false≢true}
use mathlib.Core.List.{List, [], ◌∷◌, map}
use native.Mathlib.Omega.{arith}
use lib.ListN.{length, get_or}
use lib.Dec.{eqb}
use Rattle.std.proofs.Common.{Result, Ok, Err, Option, Some, None}
use Rattle.scan.specs.First.{first_from, pick}
use Rattle.scan.specs.Bytes.{not_space, is_byte}
use Rattle.scan.proofs.Laws.{first}
use Rattle.tag_keys.specs.declared.KeyRefusal.{KeyRefusal}
use Rattle.tag_keys.specs.declared.KeyRefusal.TheVariants.{Same, Full}
use Rattle.tag_step.specs.declared.Span.{Span}
use Rattle.tag_step.specs.declared.KeyRead.TheVariants.{Valued}
use Rattle.tag_step.specs.Answer.{Answer}
use Rattle.tag_step.specs.declared.Attr.TheVariants.{DoubleQ, SingleQ, Unquoted, Empty}
use Rattle.tag_step.specs.declared.AttrError.TheVariants.{BadState}
use Rattle.tag_step.specs.declared.Found.{Found}
use Rattle.tag_step.specs.Read.{span, recover_of, key_at, quoted, closed_of}
use Rattle.tag_step.specs.Next.{Keys, Reading, reading, check_of, kept_by, valued_by, valued_to, read_at}
use Rattle.tag_step.specs.Run.{cons_unless, run_from}
use Rattle.tag_step.proofs.Paths.{next_from}
use Rattle.tag_step.proofs.Whole.{KeyBy, at_in, StartIn, recover_in}
use Rattle.tag_step.proofs.Ways.{value_ways, step_ways}
use Rattle.tag_step.proofs.Progress.{StartPast, read_forward, resume_past}
use Rattle.law_damage.specs.Damage.{Marked, kept, struck, was, Cut, whole_value, cuts, Apart}

-- whether an answer is an attribute in quotes
unfoldable is_quoted : Answer → Bool
is_quoted None = false
is_quoted (Some (Ok (DoubleQ k v))) = true
is_quoted (Some (Ok (SingleQ k v))) = true
is_quoted (Some (Ok (Unquoted k v))) = false
is_quoted (Some (Ok (Empty k))) = false
is_quoted (Some (Err e)) = false

quoted_is : (q : ℕ) (k v : Span) → is_quoted (quoted q k v) ≡ true
unfolding is_quoted quoted
quoted_is q k v = by (eqb q 34) where
  by : (b : Bool) → is_quoted (pick b (Some (Ok (DoubleQ k v))) (Some (Ok (SingleQ k v)))) ≡ true
  by true = refl
  by false = refl

pub quoted_good : (q : ℕ) (k v : Span) → quoted q k v ≡ Some (Err BadState) → ⊥
unfolding is_quoted
quoted_good q k v e = true≢false (sym (quoted_is q k v) ∙ ap is_quoted e)

quoted_value : (q r : ℕ) (k l v w : Span) → quoted q k v ≡ quoted r l w → v ≡ w
unfolding quoted
quoted_value q r k l v w = by (eqb q 34) (eqb r 34) where
  by : (a b : Bool) → pick {A = Answer} a (Some (Ok (DoubleQ k v))) (Some (Ok (SingleQ k v))) ≡ pick {A = Answer} b (Some (Ok (DoubleQ l w))) (Some (Ok (SingleQ l w))) → v ≡ w
  by true true e = cc
  by true false e = cc
  by false true e = cc
  by false false e = cc

-- A step that answers a quoted value, and what was read:
--
--       key = "value"
--     | |   | |     |
--     o    eq v     e
pub record Closed (s : List ℕ) (checks : Bool) (k : Keys) (o : ℕ) (key : Span) (eq v e : ℕ) : Type 0 where
  pub read : key_at s o ≡ Some (Valued key eq)
  pub key_by : KeyBy (length s) o key eq
  pub eq_in : eq < length s
  pub count : ℕ
  pub fresh : check_of s checks k key ≡ Ok count
  pub here : v ≡ first_from not_space s (eq + 1)
  pub v_in : v < length s
  pub there : e ≡ first_from (is_byte (get_or s v 0)) s (v + 1)
  pub e_in : e < length s

pub closed_order : {s : List ℕ} {checks : Bool} {k : Keys} {o : ℕ} {key : Span} {eq v e : ℕ} → Closed s checks k o key eq v e
    → (o < eq) × (eq < v) × (v < e)
closed_order {s} {eq = eq} {v = v} d =
    let h = d.eq_in in
    let g = d.v_in in
    (omega arith, omega (arith, (first not_space s (eq + 1) (omega arith)).ahead), omega (arith, (first (is_byte (get_or s v 0)) s (v + 1) (omega arith)).ahead))

abbrev pub closed_reading : List ℕ → Bool → Keys → Span → ℕ → ℕ → Reading
closed_reading s checks k key v e = reading (closed_of (get_or s v 0) key (span (v + 1) e)) (kept_by s checks k key (check_of s checks k key))

-- what holds of every step in XML mode that answers a quoted value
module _ (s : List ℕ) (checks : Bool) (k : Keys) (o : ℕ) (h : o ≤ length s) (q : ℕ) (qkey value : Span) (P : Reading → Type 0)
    (closed : (key : Span) (eq v e : ℕ) → Closed s checks k o key eq v e → value ≡ span (v + 1) e → P (closed_reading s checks k key v e)) where
  abbrev Goal : Reading → Type 0
  Goal x = quoted q qkey value ≡ x.answer → P x

  other : (x : Reading) → is_quoted x.answer ≡ false → Goal x
  other x none e = absurd (true≢false (sym (quoted_is q qkey value) ∙ ap is_quoted e ∙ none))

  valued_cut : (key : Span) (eq : ℕ) → key_at s o ≡ Some (Valued key eq) → KeyBy (length s) o key eq → eq < length s → (c : Result ℕ KeyRefusal)
      → c ≡ check_of s checks k key → Goal (valued_to s false checks k key eq c)
  unfolding valued_to valued_by is_quoted closed_of
  valued_cut key eq r by l (Ok n) is =
      rw is
      (value_ways s false key eq _ refl (λ (x : Found) (_ : ℕ). Goal (reading x (kept_by s checks k key (check_of s checks k key))))
      (λ _. other _ refl)
      (λ e v_in b i e_in same.
      closed key eq _ e (record { read = r; key_by = by; eq_in = l; count = n; fresh = sym is; here = refl; v_in = v_in; there = i; e_in = e_in })
      (quoted_value q _ qkey key value _ same))
      (λ e _ _ _ _. other _ refl)
      (λ e _ _ _ _. other _ refl)
      (λ _ _ _. other _ refl))
  valued_cut key eq r by l (Err (Same p)) is = other _ refl
  valued_cut key eq r by l (Err Full) is = other _ refl

  pub read_cut : Goal (read_at s false checks k o)
  unfolding is_quoted
  read_cut =
      step_ways s false checks k o h (λ (x : Reading) (_ : ℕ). Goal x)
      (λ e. other _ refl)
      (λ key at e i mode. other _ refl)
      (λ key at c e i mode is. absurd (false≢true mode))
      (λ key eq c e i a is. valued_cut key eq e i (at_in s 61 eq a) c is)

-- where reading goes on after a step in XML mode, and with which keys
abbrev pub next_start : List ℕ → Bool → Keys → ℕ → Option ℕ
next_start s checks k o = recover_of s (read_at s false checks k o).place

abbrev pub next_keys : List ℕ → Bool → Keys → ℕ → Keys
next_keys s checks k o = (read_at s false checks k o).keys

-- a list that starts with an answer: the step gave it
pub uncons : (t : Bool) (a : Answer) (rest : List Answer) (b : Answer) (bs : List Answer) → b ∷ bs ≡ cons_unless t a rest
    → (t ≡ false) × (b ≡ a) × (bs ≡ rest)
unfolding cons_unless
uncons true a rest b bs e = let z : ◌≡◌ {A = ℕ} 0 1 = cc in absurd (omega arith)
uncons false a rest b bs e = (refl, cc, cc)

-- the cut of a closed value
pub cut_closed : (value : Span) (v e : ℕ) (run : List ℕ) → value ≡ span (v + 1) e → whole_value value run ≡ record { at = v; to = e + 1; run = run }
unfolding whole_value
cut_closed value v e run b = let z : v + 1 - 1 ≡ v = omega arith in rw (b, z)

pub apart_before : (len o w : ℕ) (cs : List Cut) → o ≤ w → Apart len w cs → Apart len o cs
unfolding Apart
apart_before len o w [] h d = tt
apart_before len o w (c ∷ cs) h d = (omega (arith, d.0), d.1, d.2, d.3)

abbrev pub ApartStart : ℕ → Option ℕ → List Cut → Type 0
ApartStart len (Some o) cs = Apart len o cs
ApartStart len None cs = cs ≡ []

pub start_before : (len o : ℕ) (x : Option ℕ) (cs : List Cut) → StartPast len o x → ApartStart len x cs → Apart len o cs
unfolding Apart StartPast
start_before len o (Some w) cs a d = apart_before len o w cs (omega arith) d
start_before len o None cs a d = subst (Apart len o) (sym d) tt

pub none_apart : (len : ℕ) (x : Option ℕ) → ApartStart len x []
unfolding Apart
none_apart len (Some o) = tt
none_apart len None = refl

-- a damaged step's cut stands before the later ones
cut_apart : (s : List ℕ) (checks : Bool) (k : Keys) (o : ℕ) → o ≤ length s → (run : List ℕ) (cs : List Cut) (q : ℕ) (key value : Span)
    → quoted q key value ≡ (read_at s false checks k o).answer → ApartStart (length s) (next_start s checks k o) cs
    → Apart (length s) o (whole_value value run ∷ cs)
unfolding Apart closed_of
cut_apart s checks k o h run cs q key value =
    read_cut s checks k o h q key value (λ (x : Reading). ApartStart (length s) (recover_of s x.place) cs → Apart (length s) o (whole_value value run ∷ cs))
    (λ key' eq v e cl same d.
    let ord = closed_order cl in
    let l = cl.e_in in
    rw (cut_closed value v e run same) (omega arith, omega arith, omega arith, subst (λ (x : Option ℕ). ApartStart (length s) x cs) (sym (next_from s (e + 1) (omega arith))) d))

-- reading goes on past where a step began
pub read_past : (s : List ℕ) (checks : Bool) (k : Keys) (o : ℕ) → o ≤ length s → StartPast (length s) o (next_start s checks k o)
read_past s checks k o h = resume_past s o _ (read_forward s false checks k o h)

chosen : (s : List ℕ) (checks : Bool) (k : Keys) (o : ℕ) → o ≤ length s → (m : Marked) (ms : List Marked)
    → was m ≡ (read_at s false checks k o).answer → ApartStart (length s) (next_start s checks k o) (cuts ms)
    → Apart (length s) o (cuts (m ∷ ms))
unfolding was cuts
chosen s checks k o h (kept a) ms e d = start_before (length s) o (next_start s checks k o) (cuts ms) (read_past s checks k o h) d
chosen s checks k o h (struck q key value run) ms e d = cut_apart s checks k o h run (cuts ms) q key value e d

pub cuts_apart : (n : ℕ) (s : List ℕ) (checks : Bool) (k : Keys) (x : Option ℕ) (ms : List Marked) → StartIn (length s) x
    → map was ms ≡ run_from n s false checks k x → ApartStart (length s) x (cuts ms)
unfolding run_from cuts StartIn
cuts_apart zero s checks k x [] i e = none_apart (length s) x
cuts_apart zero s checks k x (m ∷ ms) i e = let z : ◌≡◌ {A = ℕ} 0 1 = cc in absurd (omega arith)
cuts_apart (suc n) s checks k None [] i e = none_apart (length s) None
cuts_apart (suc n) s checks k None (m ∷ ms) i e = let z : ◌≡◌ {A = ℕ} 0 1 = cc in absurd (omega arith)
cuts_apart (suc n) s checks k (Some o) [] i e = none_apart (length s) (Some o)
cuts_apart (suc n) s checks k (Some o) (m ∷ ms) i e =
    let u = uncons _ _ _ _ _ e in
    chosen s checks k o i m ms u.1 (cuts_apart n s checks (next_keys s checks k o) (next_start s checks k o) ms (recover_in s (read_at s false checks k o).place) u.2)
