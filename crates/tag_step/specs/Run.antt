-- Whole runs: the answers one after another, up to the end.
use Rattle.std.specs.Prelude.{ℕ, zero, suc, Bool, true, false, List, [], ◌∷◌, length, None, Some, Option}
use Rattle.tag_step.specs.declared.Place.{Place}
use Rattle.tag_step.specs.Answer.{Answer}
use Rattle.tag_step.specs.declared.IterState.{IterState}
use Rattle.tag_step.specs.Read.{recover_of}
use Rattle.tag_step.specs.Next.{Keys, read_at, step_of, next_of}

unfoldable pub is_end : Answer → Bool
is_end None = true
is_end (Some x) = false

-- nothing at the end, else the answer and those after it
unfoldable pub cons_unless : Bool → Answer → List Answer → List Answer
cons_unless true a rest = []
cons_unless false a rest = a ∷ rest

-- the first n answers, or fewer where the end comes first
unfoldable pub run_of : ℕ → List ℕ → IterState → List Answer
run_of zero s st = []
run_of (suc n) s st = cons_unless (is_end (next_of s st).answer) (next_of s st).answer (run_of n s (next_of s st).state)

-- All answers up to the end. No run has more than one for each byte and one besides, so this leaves none out
-- (`run_whole`, proofs/Run).
unfoldable pub answers_of : List ℕ → IterState → List Answer
answers_of s st = run_of (suc (length s)) s st

-- The same over tables and a place, with the state taken for good: what a loop over steps on lent tables makes
-- (`run_lent_lem`, proofs/Run).
unfoldable pub run_lent : ℕ → List ℕ → Bool → Bool → Keys → Place → List Answer
run_lent zero s html checks keys place = []
run_lent (suc n) s html checks keys place =
    cons_unless (is_end (step_of s html checks keys place).answer) (step_of s html checks keys place).answer
    (run_lent n s html checks (step_of s html checks keys place).keys (step_of s html checks keys place).place)

-- The same over where reading goes on, whatever place leads there, with the state taken for good (`lent_resumes`,
-- proofs/Run).
unfoldable pub run_from : ℕ → List ℕ → Bool → Bool → Keys → Option ℕ → List Answer
run_from zero s html checks keys x = []
run_from (suc n) s html checks keys None = []
run_from (suc n) s html checks keys (Some o) =
    cons_unless (is_end (read_at s html checks keys o).answer) (read_at s html checks keys o).answer
    (run_from n s html checks (read_at s html checks keys o).keys (recover_of s (read_at s html checks keys o).place))

unfoldable pub answers_from : List ℕ → Bool → Bool → Keys → Option ℕ → List Answer
answers_from s html checks keys x = run_from (length s) s html checks keys x
