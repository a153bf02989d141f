-- The place where reading begins: it lies at or before where reading goes on.
use Prim.Native.Nat.{ℕ, ◌≤◌, ◌<◌}
use mathlib.Core.Path.{◌≡◌, refl, sym}
use mathlib.Core.Bool.{Bool, true, false}
use mathlib.Core.List.{List}
use native.Mathlib.Omega.{arith}
use lib.ListN.{length}
use lib.Dec.{ltb, leb}
use borrow.Author.Tests.{ltb-true, leb-true}
use Rattle.std.proofs.Common.{Some, None}
use Rattle.scan.specs.First.{first_from, pick}
use Rattle.scan.specs.Bytes.{is_space}
use Rattle.scan.proofs.Laws.{first}
use Rattle.scan.proofs.Move.{Window}
use Rattle.tag_step.specs.declared.Place.{Place}
use Rattle.tag_step.specs.declared.Place.TheVariants.{Done, Next, SkipValue, SkipEqValue}
use Rattle.tag_step.specs.Read.{skip_to, skip_of, recover_of}
use Rattle.tag_step.specs.Next.{place_good}
use Rattle.tag_step.proofs.Whole.{at_in}
use Rattle.law_damage.specs.Damage.{move_place}
use Rattle.law_damage.proofs.Step.{PlaceIn, at_move}

-- the position of a place
abbrev pub position : Place → ℕ
position Done = 0
position (Next x) = x
position (SkipValue x) = x
position (SkipEqValue x) = x

-- a place from which reading goes on at o
pub record Begins (s : List ℕ) (o : ℕ) (p : Place) : Type 0 where
  pub within : PlaceIn (length s) 0 p
  pub upto : position p ≤ o

next_begins : (s : List ℕ) (o x : ℕ) (b : Bool) → leb x (length s) ≡ b → pick b (Some x) None ≡ Some o → Begins s o (Next x)
unfolding PlaceIn
next_begins s o x true e h = let z : x ≡ o = cc in record { within = (omega arith, leb-true _ _ e); upto = omega arith }
next_begins s o x false e h = let z : ◌≡◌ {A = ℕ} 0 1 = cc in absurd (omega arith)

skip_upto : (s : List ℕ) (o x : ℕ) → x < length s → skip_of s x ≡ Some o → x ≤ o
unfolding skip_of skip_to
skip_upto s o x l = by (ltb (first_from is_space s x) (length s)) where
  by : (b : Bool) → pick b (Some (first_from is_space s x)) None ≡ Some o → x ≤ o
  by true h = let z : first_from is_space s x ≡ o = cc in omega (arith, (first is_space s x (omega arith)).ahead)
  by false h = let z : ◌≡◌ {A = ℕ} 0 1 = cc in absurd (omega arith)

low : (x : ℕ) → 0 ≤ x
low x = omega arith

pub begins : (s : List ℕ) (o : ℕ) (p : Place) → place_good s p ≡ true → recover_of s p ≡ Some o → Begins s o p
unfolding place_good recover_of PlaceIn
begins s o Done g h = let z : ◌≡◌ {A = ℕ} 0 1 = cc in absurd (omega arith)
begins s o (Next x) g h = next_begins s o x (leb x (length s)) refl h
begins s o (SkipValue x) g h = let l = ltb-true _ _ g in record { within = (low x, l); upto = skip_upto s o x l h }
begins s o (SkipEqValue x) g h = let l = at_in s 61 x g in record { within = (low x, l); upto = skip_upto s o x l h }

-- a place before m is good in both tags or in neither
pub good_move : {f : ℕ → ℕ} {s t : List ℕ} {m : ℕ} → Window f s t 0 m → (p : Place) → position p < m
    → place_good t (move_place f p) ≡ place_good s p
unfolding place_good move_place
good_move w Done h = refl
good_move w (Next x) h = refl
good_move w (SkipValue x) h = sym (w.same x (omega arith) h).within
good_move w (SkipEqValue x) h = at_move w 61 x (omega arith) h
