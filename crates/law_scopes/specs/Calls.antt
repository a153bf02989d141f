-- The calls that change a resolver, in a sequence.
use Rattle.std.specs.Prelude.{ℕ, ◌≤◌, Bool, true, false, List, [], ◌∷◌, Ok, Option}
use Rattle.name.specs.declared.PrefixDeclaration.{PrefixDeclaration}
use Rattle.scope_table.specs.Table.{DEEPEST}
use Rattle.scope_table.specs.Answer.{changed, NamespaceResult}
use Rattle.scope_table.specs.declared.NamespaceResolver.{NamespaceResolver}
use Rattle.scope_table.specs.declared.Changed.{Changed}
use Rattle.scope_change.specs.Change.{level_of}
use Rattle.scope_declare.specs.Declare.{add_of, pop_of, limited_of}
use Rattle.scope_push.specs.Push.{push_of}

-- A level that is set has 16 bits, as the crate's parameter has; the limit may be any number.
pub data Call : Type 0 where
  add : Option PrefixDeclaration → (prefix value : List ℕ) → Call
  push : (tag : List ℕ) (from : ℕ) → Call
  pop : Call
  set_level : (level : ℕ) → level ≤ DEEPEST → Call
  set_limit : (limit : ℕ) → Call

-- what a call answers and leaves; setting the limit has no refusal
unfoldable pub call_of : Call → NamespaceResolver → Changed
call_of (add d p v) x = add_of d p v x
call_of (push s from) x = push_of s from x
call_of pop x = pop_of x
call_of (set_level to h) x = level_of to x
call_of (set_limit limit) x = changed (Ok tt) (limited_of limit x)

-- All calls test for 20 first, but for setting the limit.
unfoldable pub tests_form : Call → Bool
tests_form (add d p v) = true
tests_form (push s from) = true
tests_form pop = true
tests_form (set_level to h) = true
tests_form (set_limit limit) = false

-- what calls leave, the first of the list made first; a refused call is made too, and the next one is made on what it left
unfoldable pub left_by : List Call → NamespaceResolver → NamespaceResolver
left_by [] x = x
left_by (c ∷ more) x = left_by more (call_of c x).resolver

-- what they answer
unfoldable pub answers_by : List Call → NamespaceResolver → List NamespaceResult
answers_by [] x = []
answers_by (c ∷ more) x = (call_of c x).answer ∷ answers_by more (call_of c x).resolver
