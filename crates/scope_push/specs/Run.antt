-- Declarations one by one on lent memory, as far as it goes: what is done before it is known whether all of them go through.
use Rattle.std.specs.Prelude.{ℕ, List, [], ◌∷◌, Ok}
use Rattle.scan.specs.First.{pick}
use Rattle.scope_table.specs.Answer.{is_done}
use Rattle.scope_table.specs.Lent.{Given, given, lent_of}
use Rattle.scope_table.specs.declared.Head.{Head}
use Rattle.scope_change.specs.declared.Room.{Room}
use Rattle.scope_push.specs.Push.{Declaration, declare_one}

-- where a refusal stops, and else what comes next, of the memory as it is then
unfoldable pub then_given : Given → ((text records : List ℕ) → Head → Given) → Given
then_given g next = pick (is_done g.answer) (next g.text g.records g.head) g

-- what is added of them until one is refused or not held
unfoldable pub one_by_one : Room → List Declaration → (text records : List ℕ) → Head → Given
one_by_one room [] text records head = given (Ok tt) text records head
one_by_one room (d ∷ more) text records head = then_given (lent_of (declare_one room d) text records head) (one_by_one room more)
