-- What a replay counts: the records from the start on whose answers are ours, up to the first that differs or is cut short.
-- `read` says what stands at the front of some bytes, `leaves` what it leaves for the records behind it.
use Rattle.std.specs.Prelude.{ℕ, zero, suc, ◌+◌, ◌≤◌, List, length, drop, ltb, Result, Ok, Err}
use Rattle.scan.specs.First.{pick}
use Rattle.replay.specs.declared.Agreed.{Agreed}
use Rattle.replay.specs.declared.RecordError.{RecordError}
use Rattle.replay.specs.declared.RecordError.TheVariants.{Differs, Cut}
use Rattle.replay.specs.declared.RunError.{RunError}
use Rattle.replay.specs.declared.RunError.TheVariants.{Differs as DiffersAt, Cut as CutAt}
use Rattle.replay.specs.declared.Replayed.{Replayed}

-- What stands at the front of some bytes: a record that agrees, one that differs, or none that is whole.
abbrev pub RecordStep : Type 0
RecordStep = Result Agreed RecordError

abbrev pub agrees : (size names bindings : ℕ) → RecordStep
agrees size names bindings = Ok (record { size = size; names = names; bindings = bindings })

abbrev pub differs : RecordStep
differs = Err Differs

abbrev pub cut : RecordStep
cut = Err Cut

-- How a run ends.
abbrev pub RunEnd : Type 0
RunEnd = Result (Unit {0}) RunError

-- the bytes that a step passes, and the names and bindings in it
abbrev pub step_size : RecordStep → ℕ
step_size (Ok r) = r.size
step_size (Err Differs) = 0
step_size (Err Cut) = 0

abbrev pub step_names : RecordStep → ℕ
step_names (Ok r) = r.names
step_names (Err Differs) = 0
step_names (Err Cut) = 0

abbrev pub step_bindings : RecordStep → ℕ
step_bindings (Ok r) = r.bindings
step_bindings (Err Differs) = 0
step_bindings (Err Cut) = 0

abbrev pub begun_of : Replayed
begun_of = record { at = 0; records = 0; names = 0; bindings = 0; end = Ok tt }

-- the same counts, and nothing left to read
abbrev pub stopped_of : Replayed → (len : ℕ) → RunEnd → Replayed
stopped_of run len end =
    record { at = len; records = run.records; names = run.names; bindings = run.bindings; end = end }

-- A record that agrees is counted, and the run goes on behind it; any other ends it where it stands.
unfoldable pub after_of : Replayed → RecordStep → (len : ℕ) → Replayed
after_of run (Ok r) len =
    record {
      at = run.at + r.size;
      records = run.records + 1;
      names = run.names + r.names;
      bindings = run.bindings + r.bindings;
      end = Ok tt;
    }
after_of run (Err Differs) len = stopped_of run len (Err (DiffersAt run.at))
after_of run (Err Cut) len = stopped_of run len (Err (CutAt run.at))

-- place and counts stay within the length of all records
pub record RunFits (run : Replayed) (step : RecordStep) (len : ℕ) : Type 0 where
  pub place : run.at + step_size step ≤ len
  pub records : run.records + 1 ≤ len
  pub names : run.names + step_names step ≤ len
  pub bindings : run.bindings + step_bindings step ≤ len

-- The run on s. A record has bytes, so that the turns do not run out when they start as the length.
unfoldable pub replay_from : {A : Type 0} (read : A → List ℕ → RecordStep) (leaves : A → List ℕ → A) (turns : ℕ) (s : List ℕ) → A → Replayed → Replayed
replay_from read leaves zero s x run = run
replay_from read leaves (suc turns) s x run =
    pick (ltb run.at (length s))
    (replay_from read leaves turns s (leaves x (drop run.at s)) (after_of run (read x (drop run.at s)) (length s)))
    run

-- of records that are read with what those before them leave
unfoldable pub replay_on : {A : Type 0} (read : A → List ℕ → RecordStep) (leaves : A → List ℕ → A) (s : List ℕ) → A → Replayed
replay_on read leaves s x = replay_from read leaves (length s) s x begun_of

-- of records that stand each by itself: what is left is nothing, for which 0 stands
unfoldable pub replay_each : (read : List ℕ → RecordStep) (s : List ℕ) → Replayed
replay_each read s = replay_on {A = ℕ} (λ x rest. read rest) (λ x rest. x) s 0
