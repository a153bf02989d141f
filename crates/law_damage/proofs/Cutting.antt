-- A tag with the cuts made, and positions moved by the sums of the changes: as the simulation wants them.
use Prim.Native.Nat.{ℕ, suc, ◌+◌, ◌-◌, ◌≤◌, ◌<◌}
use mathlib.Core.Path.{◌≡◌, refl, sym, ap, ◌∙◌}
use mathlib.Core.Bool.{Bool, true, false}
use mathlib.Core.List.{List, [], ◌∷◌, ◌++◌, append_assoc}
use mathlib.Core.Logic.{inl, inr}
use native.Mathlib.Omega.{arith}
use lib.ListN.{length, get_or, drop, length-append, length-drop, get_or-append}
use lib.Seq.{get_or-append-add, get_or-drop}
use lib.Dec.{ltb, leb}
use borrow.Author.Tests.{ltb-true, ltb-false, le-leb, lt-leb, leb-true, leb-false}
use Rattle.scan.specs.First.{pick}
use Rattle.scan.specs.Bytes.{part}
use Rattle.scan.proofs.Move.{Window, window_as}
use Rattle.scan.proofs.Lists.{part_length, part_at}
use Rattle.law_damage.specs.Damage.{Cut, damaged, added, taken_out, moved, Apart, Outside}
use Rattle.law_damage.proofs.Cuts.{apart_before}
use Rattle.law_damage.proofs.Sim.{Rel, advance}

-- a change counts from x on
before : (x k n : ℕ) → k < x → pick (leb x k) n 0 ≡ 0
before x k n h = rw (lt-leb x k h)

after : (x k n : ℕ) → x ≤ k → pick (leb x k) n 0 ≡ n
after x k n h = rw (le-leb x k h)

module _ (c : Cut) (cs : List Cut) (k : ℕ) where
  cut_before : k < c.to → (added cs k ≡ 0) × (taken_out cs k ≡ 0) → (added (c ∷ cs) k ≡ 0) × (taken_out (c ∷ cs) k ≡ 0)
  unfolding added taken_out
  cut_before h later = (omega (arith, later.0, before c.to k (length c.run) h), omega (arith, later.1, before c.to k (c.to - c.at) h))

  cut_after : c.to ≤ k → (added (c ∷ cs) k ≡ length c.run + added cs k) × (taken_out (c ∷ cs) k ≡ (c.to - c.at) + taken_out cs k)
  unfolding added taken_out
  cut_after h = (omega (arith, after c.to k (length c.run) h), omega (arith, after c.to k (c.to - c.at) h))

-- nothing changes before the cuts
pub nothing_before : (l o k : ℕ) (cs : List Cut) → Apart l o cs → k ≤ o → (added cs k ≡ 0) × (taken_out cs k ≡ 0)
unfolding Apart added taken_out
nothing_before l o k [] d h = (refl, refl)
nothing_before l o k (c ∷ cs) d h =
    let x : k < c.to = omega (arith, d.0, d.1) in
    cut_before c cs k x (nothing_before l c.to k cs d.3 (omega arith))

-- less is taken than stands before
pub taken_less : (l o k : ℕ) (cs : List Cut) → Apart l o cs → o ≤ k → taken_out cs k + o ≤ k
unfolding Apart taken_out
taken_less l o k [] d h = omega arith
taken_less l o k (c ∷ cs) d h = by (leb c.to k) refl (λ g. taken_less l c.to k cs d.3 g) where
  by : (b : Bool) → leb c.to k ≡ b → (c.to ≤ k → taken_out cs k + c.to ≤ k) → (pick b (c.to - c.at) 0 + taken_out cs k) + o ≤ k
  by true e ih = omega (arith, ih (leb-true c.to k e), d.0, d.1)
  by false e ih = omega (arith, leb-false c.to k e, (nothing_before l c.to k cs d.3 (omega (arith, leb-false c.to k e))).1)

-- both tests say the same
ltb_iff : (a b x y : ℕ) → (a < b → x < y) → (x < y → a < b) → ltb a b ≡ ltb x y
ltb_iff a b x y f g = by (ltb a b) (ltb x y) refl refl where
  by : (t u : Bool) → ltb a b ≡ t → ltb x y ≡ u → t ≡ u
  by true true d e = refl
  by true false d e = absurd (omega (arith, f (ltb-true a b d), ltb-false x y e))
  by false true d e = absurd (omega (arith, g (ltb-true x y e), ltb-false a b d))
  by false false d e = refl

-- the byte at p in a part that stands behind others
at_in : (out w rest : List ℕ) (i j : ℕ) → i ≡ length out + j → j < length w → get_or (out ++ (w ++ rest)) i 0 ≡ get_or w j 0
at_in out w rest i j e h = rw e (get_or-append-add out (w ++ rest) j 0 ∙ get_or-append w rest 0 j h)

module _ (f : ℕ → ℕ) (s : List ℕ) where
  -- f moves what lies at or after p as the cuts say, p to the end of out
  abbrev pub Shifts : ℕ → ℕ → List Cut → Type 0
  Shifts p n cs = (k : ℕ) → p ≤ k → f k + taken_out cs k + p ≡ k + added cs k + n

  rel_end : (t out : List ℕ) (p : ℕ) → p ≤ length s → t ≡ out ++ drop p s → ((k : ℕ) → p ≤ k → f k + p ≡ k + length out)
      → Window f s t p (suc (length s))
  rel_end t out p h e sh =
      let fp : f p ≡ length out = omega (arith, sh p (omega arith)) in
      let lt : length t ≡ length out + (length s - p) = ap length e ∙ length-append out (drop p s) ∙ ap (λ (n : ℕ). length out + n) (length-drop p s) in
      record {
        same = λ k lo hi.
            let z = sh k lo in
            let i : f k ≡ length out + (k - p) = omega arith in
            let j : p + (k - p) ≡ k = omega arith in
            record {
              within = ltb_iff k (length s) (f k) (length t) (λ a. omega arith) (λ a. omega arith);
              byte = sym (rw (e, i) (get_or-append-add out (drop p s) (k - p) 0 ∙ get_or-drop p s (k - p) 0 ∙ ap (λ (x : ℕ). get_or s x 0) j));
            };
        near = λ k lo hi. omega (arith, sh k lo);
        inside = h;
        inside' = omega arith;
      }

  rel_cut : (t out rest : List ℕ) (p : ℕ) (c : Cut) → p ≤ c.at → c.at < length s → t ≡ out ++ (part s p c.at ++ (c.run ++ rest))
      → ((k : ℕ) → p ≤ k → k ≤ c.at → f k + p ≡ k + length out) → Window f s t p c.at
  rel_cut t out rest p c h l e sh =
      let fp : f p ≡ length out = omega (arith, sh p (omega arith) h) in
      let lp = part_length s p c.at h (omega arith) in
      let lt : length t ≡ length out + (length (part s p c.at) + length (c.run ++ rest)) = ap length e ∙ length-append out _ ∙ ap (λ (n : ℕ). length out + n) (length-append (part s p c.at) _) in
      record {
        same = λ k lo hi.
            let z = sh k lo (omega arith) in
            let i : f k ≡ length out + (k - p) = omega arith in
            let j : p + (k - p) ≡ k = omega arith in
            record {
              within = ltb_iff k (length s) (f k) (length t) (λ a. omega arith) (λ a. omega arith);
              byte = sym (rw e (at_in out (part s p c.at) (c.run ++ rest) (f k) (k - p) i (omega arith)) ∙ part_at s p c.at (k - p) (omega arith) ∙ ap (λ (x : ℕ). get_or s x 0) j);
            };
        near = λ k lo hi. omega (arith, sh k lo hi);
        inside = omega arith;
        inside' = omega arith;
      }

  pub rel_from : (cs : List Cut) (t out : List ℕ) (p : ℕ) → p ≤ length s → Apart (length s) p cs → t ≡ out ++ damaged s p cs
      → Shifts p (length out) cs → Rel f s t p cs
  unfolding Apart damaged Rel
  rel_from [] t out p h d e sh = rel_end t out p h e (λ k lo. omega (arith, sh k lo, (nothing_before 0 k k [] tt (omega arith)).0, (nothing_before 0 k k [] tt (omega arith)).1))
  rel_from (c ∷ cs) t out p h d e sh =
      let pa = d.0 in
      let at = d.1 in
      let to = d.2 in
      let lp = part_length s p c.at (omega arith) (omega arith) in
      let one : (k : ℕ) → p ≤ k → k ≤ c.at → f k + p ≡ k + length out = λ k lo hi.
      let none = cut_before c cs k (omega arith) (nothing_before (length s) c.to k cs d.3 (omega arith)) in
      omega (arith, sh k lo) in
      let out₂ = out ++ (part s p c.at ++ c.run) in
      let l₂ : length out₂ ≡ length out + ((c.at - p) + length c.run) = simp length-append (omega arith) in
      let two : (k : ℕ) → c.to ≤ k → f k + taken_out cs k + c.to ≡ k + added cs k + length out₂ = λ k lo.
      let some = cut_after c cs k lo in
      omega (arith, sh k (omega arith)) in
      let none = nothing_before (length s) c.to c.to cs d.3 (omega arith) in (
        rel_cut t out (damaged s c.to cs) p c (omega arith) (omega arith) e one,
        record {
          size = omega (arith, one c.at (omega arith) (omega arith), two c.to (omega arith), none.0, none.1);
          bytes = λ j g. rw e (ap (λ (x : List ℕ). get_or x (f c.at + j) 0) (sym (append_assoc out (part s p c.at) (c.run ++ damaged s c.to cs))) ∙ at_in (out ++ part s p c.at) c.run (damaged s c.to cs) (f c.at + j) j (simp length-append (omega (arith, one c.at (omega arith) (omega arith)))) g);
        },
        rel_from cs t out₂ c.to to d.3 (e ∙ simp append_assoc) two,
      )

-- the whole tag
pub rel_of : (s : List ℕ) (o : ℕ) (cs : List Cut) → o ≤ length s → Apart (length s) o cs → Rel (moved cs) s (damaged s 0 cs) o cs
unfolding moved
rel_of s o cs h d =
    let z = apart_before (length s) 0 o cs (omega arith) d in
    advance (moved cs) s (damaged s 0 cs) 0 o cs (omega arith) h d
    (rel_from (moved cs) s cs (damaged s 0 cs) [] 0 (omega arith) z refl (λ k lo. omega (arith, taken_less (length s) 0 k cs z (omega arith))))

-- nothing moves before the cuts
pub moved_before : (l o k : ℕ) (cs : List Cut) → Apart l o cs → k ≤ o → moved cs k ≡ k
unfolding moved
moved_before l o k cs d h = let n = nothing_before l o k cs d h in omega arith

-- what lies before the cuts lies in none
pub outside_before : (l o k : ℕ) (cs : List Cut) → Apart l o cs → k ≤ o → Outside cs k
unfolding Apart Outside
outside_before l o k [] d h = tt
outside_before l o k (c ∷ cs) d h = (inl (omega (arith, d.0)), outside_before l c.to k cs d.3 (omega (arith, d.0, d.1)))

-- a function that moves the positions outside the cuts as f does
pub rel_as : (f g : ℕ → ℕ) (s t : List ℕ) (o : ℕ) (cs : List Cut) → o ≤ length s → Apart (length s) o cs
    → ((p : ℕ) → o ≤ p → Outside cs p → g p ≡ f p) → Rel f s t o cs → Rel g s t o cs
unfolding Apart Outside Rel
rel_as f g s t o [] h d e r = window_as r g (omega arith) (λ k lo hi. e k lo tt)
rel_as f g s t o (c ∷ cs) h d e r =
    let one : (k : ℕ) → o ≤ k → k ≤ c.at → g k ≡ f k = λ k lo hi. e k lo (inl hi, outside_before (length s) c.to k cs d.3 (omega (arith, d.1))) in
    let two : (k : ℕ) → c.to ≤ k → Outside cs k → g k ≡ f k = λ k lo out. e k (omega (arith, d.0, d.1)) (inr lo, out) in
    let at = one c.at (omega (arith, d.0)) (omega arith) in
    let to = two c.to (omega arith) (outside_before (length s) c.to c.to cs d.3 (omega arith)) in (
      window_as r.0 g (omega (arith, d.0)) one,
      record { size = omega (arith, r.1.size); bytes = λ j l. rw at (r.1.bytes j l) },
      rel_as f g s t c.to cs d.2 d.3 two r.2,
    )
