-- Each answer moves the reading on: what a loop over the answers ends by. The place that is left is one that 7 does not
-- refuse.
use Prim.Native.Nat.{ℕ, ◌+◌, ◌≤◌, ◌<◌}
use mathlib.Core.Path.{◌≡◌, refl}
use mathlib.Core.Bool.{Bool, true}
use mathlib.Core.List.{List}
use native.Mathlib.Omega.{arith}
use lib.ListN.{length, get_or}
use lib.Dec.{ltb, leb}
use borrow.Author.Tests.{ltb-true, lt-ltb}
use Rattle.std.proofs.Common.{Result, Ok, Err, Option, Some, None}
use Rattle.scan.specs.First.{first_from}
use Rattle.scan.specs.Bytes.{is_space, not_space, is_byte}
use Rattle.scan.proofs.Laws.{first, picks}
use Rattle.tag_keys.specs.declared.KeyRefusal.{KeyRefusal}
use Rattle.tag_keys.specs.declared.KeyRefusal.TheVariants.{Same, Full}
use Rattle.tag_step.specs.declared.Span.{Span}
use Rattle.tag_step.specs.declared.Place.{Place}
use Rattle.tag_step.specs.declared.Place.TheVariants.{Done, Next, SkipValue, SkipEqValue}
use Rattle.tag_step.specs.declared.Found.{Found}
use Rattle.tag_step.specs.Read.{is_at, skip_to, skip_of, recover_of, closed_of, value_at}
use Rattle.tag_step.specs.Next.{Keys, Reading, place_at, bare_by, bare_to, valued_by, valued_to, read_at, place_good}
use Rattle.tag_step.proofs.Whole.{at_in}
use Rattle.tag_step.proofs.Ways.{value_ways, step_ways}

-- a place past o, in the tag or at its end, that reading can leave
unfoldable pub After : List ℕ → ℕ → Place → Type 0
After s o Done = Unit {0}
After s o (Next x) = (o < x) × (x ≤ length s)
After s o (SkipValue x) = (o < x) × (x < length s)
After s o (SkipEqValue x) = (o < x) × (is_at s 61 x ≡ true)

pub after_good : (s : List ℕ) (o : ℕ) (p : Place) → After s o p → place_good s p ≡ true
unfolding After place_good
after_good s o Done a = refl
after_good s o (Next x) a = refl
after_good s o (SkipValue x) a = lt-ltb x (length s) a.1
after_good s o (SkipEqValue x) a = a.1

module _ (s : List ℕ) (o : ℕ) where
  place_after : (at : ℕ) → o < at → After s o (place_at s at)
  unfolding place_at After
  place_after at h = picks (After s o) (ltb at (length s)) (λ e. (h, omega (arith, ltb-true at (length s) e))) (λ e. tt)

  value_after : (html : Bool) (key : Span) (eq : ℕ) → o < eq → eq < length s → After s o (value_at s html key eq).place
  unfolding After closed_of
  value_after html key eq h l =
      let v = first_from not_space s (eq + 1) in
      let f = first not_space s (eq + 1) (omega arith) in
      value_ways s html key eq v refl (λ (x : Found) (_ : ℕ). After s o x.place)
      (λ _. tt)
      (λ e i q b g. (omega (arith, f.ahead, (first (is_byte (get_or s v 0)) s (v + 1) (omega arith)).ahead), omega arith))
      (λ e i q b g. tt)
      (λ e i q m b. let w = first is_space s v (omega arith) in (omega (arith, f.ahead, w.ahead), omega (arith, w.inside)))
      (λ i q m. (omega (arith, f.ahead), i))

  valued_after : (html : Bool) (key : Span) (eq : ℕ) (c : Result ℕ KeyRefusal) → o < eq → is_at s 61 eq ≡ true → After s o (valued_by s html key eq c).place
  unfolding valued_by After
  valued_after html key eq (Ok n) h a = value_after html key eq h (at_in s 61 eq a)
  valued_after html key eq (Err (Same p)) h a = (h, a)
  valued_after html key eq (Err Full) h a = tt

  bare_after : (key : Span) (at : ℕ) (c : Result ℕ KeyRefusal) → o < at → After s o (bare_by s key at c).place
  unfolding bare_by After
  bare_after key at (Ok n) h = place_after at h
  bare_after key at (Err (Same p)) h = place_after at h
  bare_after key at (Err Full) h = tt

-- A step from o leaves a place past o.
pub read_forward : (s : List ℕ) (html checks : Bool) (keys : Keys) (o : ℕ) → o ≤ length s → After s o (read_at s html checks keys o).place
unfolding After bare_to valued_to
read_forward s html checks keys o h =
    step_ways s html checks keys o h (λ (x : Reading) (_ : ℕ). After s o x.place)
    (λ e. tt)
    (λ key at e i m. place_after s o at (omega (arith, i.from, i.some, i.ahead)))
    (λ key at c e i m v. bare_after s o key at c (omega (arith, i.from, i.some, i.ahead)))
    (λ key eq c e i a v. valued_after s o html key eq c (omega (arith, i.from, i.some, i.ahead)) a)

-- where reading goes on then lies past o

unfoldable pub StartPast : ℕ → ℕ → Option ℕ → Type 0
StartPast l o (Some w) = (o < w) × (w ≤ l)
StartPast l o None = Unit {0}

skip_past : (s : List ℕ) (o x : ℕ) → o < x → x < length s → StartPast (length s) o (skip_of s x)
unfolding skip_of skip_to StartPast
skip_past s o x a h =
    let f = first is_space s x (omega arith) in
    picks (StartPast (length s) o) (ltb (first_from is_space s x) (length s)) (λ e. (omega (arith, f.ahead), f.inside)) (λ e. tt)

pub resume_past : (s : List ℕ) (o : ℕ) (p : Place) → After s o p → StartPast (length s) o (recover_of s p)
unfolding After recover_of StartPast
resume_past s o Done a = tt
resume_past s o (Next x) a = picks (StartPast (length s) o) (leb x (length s)) (λ e. a) (λ e. tt)
resume_past s o (SkipValue x) a = skip_past s o x a.0 a.1
resume_past s o (SkipEqValue x) a = skip_past s o x a.0 (at_in s 61 x a.1)
