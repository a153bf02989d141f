-- The laws of a run, for every kind of record: what a loop over the records knows at each turn (`Stands`), that it is so at
-- the start and after each record, that each record brings it nearer to the end, and what it then is.
use Prim.Native.Nat.{ℕ, zero, suc, ◌+◌, ◌-◌, ◌≤◌, ◌<◌}
use mathlib.Core.Path.{◌≡◌, refl, sym, ap, ◌∙◌}
use mathlib.Core.Bool.{Bool, true, false}
use mathlib.Core.List.{List}
use native.Mathlib.Omega.{arith}
use lib.ListN.{length, take, drop, length-drop}
use borrow.Author.Tests.{lt-ltb, le-ltb}
use Rattle.scan.specs.First.{pick}
use Rattle.scan.proofs.Lists.{to_end}
use Rattle.std.proofs.Common.{Ok, Err}
use Rattle.replay.specs.declared.Agreed.{Agreed}
use Rattle.replay.specs.declared.RecordError.TheVariants.{Differs, Cut}
use Rattle.replay.specs.declared.Replayed.{Replayed}
use Rattle.replay.specs.Run.{RecordStep, agrees, differs, cut, step_size, step_names, step_bindings, begun_of, after_of, RunFits, replay_from, replay_on}

-- A record that agrees has bytes, they are all there, and it counts no more names or bindings than it has bytes.
pub record Passes (step : RecordStep) (most : ℕ) : Type 0 where
  pub some : {r : Agreed} → step ≡ Ok r → 1 ≤ r.size
  pub there : step_size step ≤ most
  pub names : step_names step ≤ step_size step
  pub bindings : step_bindings step ≤ step_size step

module _ {most : ℕ} where
  pub passes_agrees : {size names bindings : ℕ} → 1 ≤ size → size ≤ most → names ≤ size → bindings ≤ size → Passes (agrees size names bindings) most
  passes_agrees {size} a b n m = record { some = λ {r} e. (let z : size ≡ r.size = ap step_size e in omega arith); there = b; names = n; bindings = m }

  pub passes_differs : Passes differs most
  passes_differs = record { some = λ e. (let z : ◌≡◌ {A = ℕ} 0 1 = cc in absurd (omega arith)); there = omega arith; names = omega arith; bindings = omega arith }

  pub passes_cut : Passes cut most
  passes_cut = record { some = λ e. (let z : ◌≡◌ {A = ℕ} 0 1 = cc in absurd (omega arith)); there = omega arith; names = omega arith; bindings = omega arith }

  pub passes_pick : (t : Bool) {x y : RecordStep} → (t ≡ true → Passes x most) → (t ≡ false → Passes y most) → Passes (pick t x y) most
  passes_pick true a b = a refl
  passes_pick false a b = b refl

-- counts that the place bounds, and a place that is there
pub record Bounded (run : Replayed) (len : ℕ) : Type 0 where
  pub records : run.records ≤ run.at
  pub names : run.names ≤ run.at
  pub bindings : run.bindings ≤ run.at
  pub place : run.at ≤ len

bounded_after : (run : Replayed) (len : ℕ) → Bounded run len → (step : RecordStep) → Passes step (len - run.at) → Bounded (after_of run step len) len
unfolding after_of
bounded_after run len b (Ok r) p =
    let o = p.some refl in
    record { records = omega (arith, o, b.records); names = omega (arith, b.names, p.names); bindings = omega (arith, b.bindings, p.bindings); place = omega (arith, b.place, p.there) }
bounded_after run len b (Err Differs) p =
    record { records = omega (arith, b.records, b.place); names = omega (arith, b.names, b.place); bindings = omega (arith, b.bindings, b.place); place = omega arith }
bounded_after run len b (Err Cut) p =
    record { records = omega (arith, b.records, b.place); names = omega (arith, b.names, b.place); bindings = omega (arith, b.bindings, b.place); place = omega arith }

nearer : (run : Replayed) (len : ℕ) → run.at < len → (step : RecordStep) → Passes step (len - run.at) → len - (after_of run step len).at < len - run.at
unfolding after_of
nearer run len a (Ok r) p =
    let o = p.some refl in
    omega (arith, o, a, p.there)
nearer run len a (Err Differs) p = omega arith
nearer run len a (Err Cut) p = omega arith

module _ {A : Type 0} (read : A → List ℕ → RecordStep) (leaves : A → List ℕ → A) (s : List ℕ) where
  ended : (turns : ℕ) (x : A) (run : Replayed) → length s ≤ run.at → replay_from read leaves turns s x run ≡ run
  unfolding replay_from
  ended zero x run h = refl
  ended (suc turns) x run h = rw (le-ltb run.at (length s) h)

  -- the turns that are left are those of the records not yet counted; of a run that has stopped they do not matter
  turns_after : (run : Replayed) (y : A) (step : RecordStep) → replay_from read leaves (length s - (run.records + 1)) s y (after_of run step (length s)) ≡ replay_from read leaves (length s - (after_of run step (length s)).records) s y (after_of run step (length s))
  unfolding after_of
  turns_after run y (Ok r) = refl
  turns_after run y (Err Differs) = ended _ y _ (omega arith) ∙ sym (ended _ y _ (omega arith))
  turns_after run y (Err Cut) = ended _ y _ (omega arith) ∙ sym (ended _ y _ (omega arith))

  goes_on : (x : A) (run : Replayed) → run.records ≤ run.at → run.at < length s → replay_from read leaves (length s - run.records) s x run ≡ replay_from read leaves (length s - (run.records + 1)) s (leaves x (drop run.at s)) (after_of run (read x (drop run.at s)) (length s))
  unfolding replay_from
  goes_on x run r a =
      let e : length s - run.records ≡ suc (length s - (run.records + 1)) = omega (arith, r, a) in
      rw (e, lt-ltb run.at (length s) a)

  -- what is known where a run stands: it is the one from the start
  pub record Stands (x₀ x : A) (run : Replayed) : Type 0 where
    pub bounded : Bounded run (length s)
    pub same : replay_on read leaves s x₀ ≡ replay_from read leaves (length s - run.records) s x run

  pub stands_first : (x : A) → Stands x x begun_of
  unfolding replay_on
  stands_first x =
      let e : length s - 0 ≡ length s = omega arith in
      record { bounded = record { records = omega arith; names = omega arith; bindings = omega arith; place = omega arith }; same = rw e }

  module _ {x₀ x : A} {run : Replayed} (h : Stands x₀ x run) where
    pub in_place : run.at ≤ length s
    in_place = h.bounded.place

    pub stands_last : length s ≤ run.at → run ≡ replay_on read leaves s x₀
    stands_last l = sym (h.same ∙ ended _ x run l)

    -- what the code read there, and made of it
    module _ (a : run.at < length s) {q : RecordStep} (e : q ≡ read x (take (length s - run.at) (drop run.at s))) (all : (rest : List ℕ) → Passes (read x rest) (length rest)) where
      step_is : q ≡ read x (drop run.at s)
      step_is = e ∙ ap (read x) (to_end run.at s)

      passes : Passes q (length s - run.at)
      passes = rw (step_is, sym (length-drop run.at s)) (all (drop run.at s))

      pub fits : RunFits run q (length s)
      fits =
          let b = h.bounded in
          let p = passes in
          record { place = omega (arith, p.there, a); records = omega (arith, b.records, a); names = omega (arith, b.names, p.names, p.there, a); bindings = omega (arith, b.bindings, p.bindings, p.there, a) }

      module _ {next : Replayed} (f : next ≡ after_of run q (length s)) where
        pub stands_nearer : length s - next.at < length s - run.at
        stands_nearer = rw f (nearer run (length s) a q passes)

        pub stands_next : {y : A} → y ≡ leaves x (take (length s - run.at) (drop run.at s)) → Stands x₀ y next
        stands_next g =
            let here = h.same ∙ goes_on x run h.bounded.records a ∙ turns_after run _ _ in
            rw (g ∙ ap (leaves x) (to_end run.at s), f) (record { bounded = bounded_after run (length s) h.bounded q passes; same = rw step_is here })
