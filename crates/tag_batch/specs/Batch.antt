-- A batch: as many answers of a run as a lent output holds, five numbers each, and the iterator where it goes on. Its tables
-- may be shorter than the capacity.
use Rattle.std.specs.Prelude.{ℕ, zero, suc, ◌/◌, ◌≤◌, ◌≡◌, Bool, true, ◌&&◌, List, [], ◌∷◌, ◌++◌, length, take, replicate, leb, Result, Ok, Err}
use Rattle.scan.specs.First.{pick}
use Rattle.scan.specs.Lists.{over}
use Rattle.tag_keys.specs.Keys.{capacity}
use Rattle.tag_step.specs.Answer.{Answer}
use Rattle.tag_step.specs.declared.IterState.{IterState}
use Rattle.tag_step.specs.declared.Place.{Place}
use Rattle.tag_step.specs.Next.{state_good, next_of}
use Rattle.tag_step.specs.Numbers.{numbers_of}
use Rattle.tag_step.specs.Run.{is_end}
use Rattle.tag_step.specs.Lent.{whole_next, needs_more, stepped_of}
use Rattle.tag_batch.specs.declared.Five.{Five}
use Rattle.tag_batch.specs.declared.BatchRead.{BatchRead}
use Rattle.tag_batch.specs.declared.WrongTables.{WrongTables}
use Rattle.tag_batch.specs.declared.Why.{Why}
use Rattle.tag_batch.specs.declared.Why.TheVariants.{OutFull, AtEnd, LendMore}

-- an answer as five numbers: document 01's number, the values in the table's order, and zeros
unfoldable pub five_of : Answer → List ℕ
five_of a = take 5 (numbers_of a ++ replicate 4 0)

-- five numbers as a list
abbrev pub listed : Five → List ℕ
listed x = x.code ∷ x.a ∷ x.b ∷ x.c ∷ x.d ∷ []

-- answers one after another
unfoldable pub fives_of : List Answer → List ℕ
fives_of [] = []
fives_of (a ∷ more) = five_of a ++ fives_of more

-- the state after n steps, or after the end where that comes first
unfoldable pub left_of : ℕ → List ℕ → IterState → IterState
left_of zero s st = st
left_of (suc n) s st = pick (is_end (next_of s st).answer) (next_of s st).state (left_of n s (next_of s st).state)

-- why there are no more answers, as a number
unfoldable pub why_number : Why → ℕ
why_number OutFull = 0
why_number AtEnd = 1
why_number LendMore = 2

-- what steps on lent tables give: the answers, the state that is left, and why there are no more
pub record Ran : Type 0 where
  pub answers : List Answer
  pub state : IterState
  pub why : Why

abbrev pub ran : List Answer → IterState → Why → Ran
ran answers st why = record { answers = answers; state = st; why = why }

-- one answer, and those after it
abbrev pub ahead : Answer → Ran → Ran
ahead a x = ran (a ∷ x.answers) x.state x.why

-- n steps, up to the end. A key that is due to be recorded past what is lent ends them before that key.
unfoldable pub ran_of : ℕ → List ℕ → IterState → Ran
ran_of zero s st = ran [] st OutFull
ran_of (suc n) s st =
    pick (needs_more s st) (ran [] st LendMore)
    (pick (is_end (whole_next s st).answer) (ran [] (stepped_of s st) AtEnd)
    (ahead (whole_next s st).answer (ran_of n s (stepped_of s st))))

-- tables that are no longer than the capacity; others are no tables of an iterator, and nothing is read with them
unfoldable pub tables_lent : IterState → Bool
tables_lent st =
    leb (length st.starts) capacity && (leb (length st.ends) capacity && leb (length st.hashes) capacity)

-- how many answers an output holds
unfoldable pub answers_room : List ℕ → ℕ
answers_room out = length out / 5

-- what a batch that was read hands back
abbrev pub read : ℕ → Place → ℕ → Why → Result BatchRead WrongTables
read n place count why = Ok (record { answers = n; place = place; count = count; why = why })

-- what is handed back, and the lent memory then
pub record Batched : Type 0 where
  pub batch : Result BatchRead WrongTables
  pub starts : List ℕ
  pub ends : List ℕ
  pub hashes : List ℕ
  pub out : List ℕ

abbrev pub batched : Result BatchRead WrongTables → (starts ends hashes out : List ℕ) → Batched
batched b starts ends hashes out = record { batch = b; starts = starts; ends = ends; hashes = hashes; out = out }

-- how many answers there are, and the place and the count that are left; what stands behind the last answer stays as it was
unfoldable pub batch_shown : List ℕ → Ran → Batched
batch_shown out x =
    batched (read (length x.answers) x.state.place x.state.count x.why) x.state.starts x.state.ends x.state.hashes
    (over out 0 (fives_of x.answers))

unfoldable pub read_of : List ℕ → IterState → List ℕ → Batched
read_of s st out = batch_shown out (ran_of (answers_room out) s st)

unfoldable pub batch_of : List ℕ → IterState → List ℕ → Batched
batch_of s st out = pick (tables_lent st) (read_of s st out) (batched (Err (record {})) st.starts st.ends st.hashes out)

-- a state from which steps may be taken on lent tables: 7 does not answer it, and they are no longer than the capacity
pub record Ripe (s : List ℕ) (st : IterState) : Type 0 where
  pub good : state_good s st ≡ true
  pub starts : length st.starts ≤ capacity
  pub ends : length st.ends ≤ capacity
  pub hashes : length st.hashes ≤ capacity
