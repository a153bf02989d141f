-- Lent memory that may be shorter than the capacity: it is the resolver whose missing places are unused and zero. Every rule
-- is that resolver's; lent memory has two answers of its own, and both leave everything as it was.
use Rattle.std.specs.Prelude.{ℕ, Bool, ◌&&◌, ◌||◌, List, length, take, leb, ltb, Result, Ok, Err}
use Rattle.scan.specs.First.{pick}
use Rattle.scan.specs.Lists.{pad_to}
use Rattle.scope_table.specs.Records.{row_at}
use Rattle.scope_table.specs.Table.{TEXT, NUMBERS, resolver_of, valid_of, fresh_of}
use Rattle.scope_table.specs.Answer.{changed, NamespaceResult}
use Rattle.scope_table.specs.declared.Head.{Head}
use Rattle.scope_table.specs.declared.NamespaceResolver.{NamespaceResolver}
use Rattle.scope_table.specs.declared.Changed.{Changed}
use Rattle.scope_table.specs.declared.NamespaceError.TheVariants.{LendMore, WrongLength}
use Rattle.scope_table.specs.declared.FormError.{FormError}
use Rattle.scope_table.specs.declared.FormError.TheVariants as Is

-- the resolver that lent memory stands for
abbrev pub stands_for : (text records : List ℕ) → Head → NamespaceResolver
stands_for text records head = resolver_of (pad_to TEXT text) (pad_to NUMBERS records) head

-- Of a list that is lent: it is no longer than the capacity, and holds what is in use. More in use than the capacity is no
-- matter of lent memory: refusal 20 answers that.
unfoldable pub holds_of : (capacity lent inUse : ℕ) → Bool
holds_of capacity lent inUse = leb lent capacity && (leb inUse lent || ltb capacity inUse)

-- Of the text and the records.
unfoldable pub fits_of : (bytes numbers used count : ℕ) → Bool
fits_of bytes numbers used count = holds_of TEXT bytes used && holds_of NUMBERS numbers (row_at count)

-- What any call makes of lent memory: what it makes of the resolver that this stands for. Where what is in use is not lent,
-- or more than the capacity is, the answer is `wrong`.
unfoldable pub lent : {A : Type 0} (wrong : A) (call : NamespaceResolver → A) (text records : List ℕ) → Head → A
lent wrong call text records head =
    pick (fits_of (length text) (length records) head.used head.count) (call (stands_for text records head)) wrong

-- Calls that change a resolver.

-- what a call answers, and the lent memory after it
pub record Given : Type 0 where
  pub answer : NamespaceResult
  pub text : List ℕ
  pub records : List ℕ
  pub head : Head

abbrev pub given : NamespaceResult → (text records : List ℕ) → Head → Given
given a text records head = record { answer = a; text = text; records = records; head = head }

-- What a call leaves, where the lent memory holds it; else LendMore, and nothing changes.
unfoldable pub held_of : (text records : List ℕ) → Head → Changed → Given
held_of text records head c =
    pick (fits_of (length text) (length records) c.resolver.head.used c.resolver.head.count)
    (given c.answer (take (length text) c.resolver.text) (take (length records) c.resolver.records) c.resolver.head)
    (given (Err LendMore) text records head)

-- Any call that changes a resolver, on lent memory.
unfoldable pub lent_of : (NamespaceResolver → Changed) → (text records : List ℕ) → Head → Given
lent_of call text records head =
    lent (given (Err WrongLength) text records head) (λ x. held_of text records head (call x)) text records head

-- The fresh resolver in lent memory, whatever stood there: all of what is lent is written. It needs 73 bytes and two rows.
unfoldable pub fresh_in : (text records : List ℕ) → Head → Given
fresh_in text records head =
    pick (leb (length text) TEXT && leb (length records) NUMBERS)
    (held_of text records head (changed (Ok tt) fresh_of))
    (given (Err WrongLength) text records head)

-- What each call tests first.
unfoldable pub form_of : (text records : List ℕ) → Head → Result (Unit {0}) FormError
form_of text records head = lent (Err Is.WrongLength) (λ x. pick (valid_of x) (Ok tt) (Err Is.BadResolver)) text records head
