-- Calls on lent memory one after another: each is made on the memory as the one before left it.
use Rattle.std.specs.Prelude.{◌≡◌, List, [], ◌∷◌, Err}
use Rattle.scope_table.specs.Lent.{Given, lent_of}
use Rattle.scope_table.specs.Answer.{NamespaceResult}
use Rattle.scope_table.specs.declared.NamespaceError.TheVariants.{LendMore}
use Rattle.law_scopes.specs.Calls.{Call, call_of}

-- The next call. To set the limit the caller writes it into the head (`LentLimit`); the others are calls on lent memory.
unfoldable pub next_lent : Call → Given → Given
next_lent c g = lent_of (call_of c) g.text g.records g.head

-- what they leave
unfoldable pub lent_by : List Call → Given → Given
lent_by [] g = g
lent_by (c ∷ more) g = lent_by more (next_lent c g)

-- what they answer
unfoldable pub lent_answers : List Call → Given → List NamespaceResult
lent_answers [] g = []
lent_answers (c ∷ more) g = (next_lent c g).answer ∷ lent_answers more (next_lent c g)

-- none of them asks for more memory
abbrev pub Enough : List NamespaceResult → Type 0
Enough [] = Unit {0}
Enough (a ∷ more) = (a ≡ Err LendMore → ⊥) × Enough more
