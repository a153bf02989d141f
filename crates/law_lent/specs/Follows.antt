-- What is promised of calls on lent memory: between one call and the next the memory stands for the resolver that the call
-- leaves, though only what is lent of it was kept. So what is promised of calls on a resolver holds on lent memory.
use Rattle.std.specs.Prelude.{ℕ, ◌≤◌, ◌<◌, ◌≡◌, true, false, List, ◌⊎◌, length, Ok, Err}
use Rattle.scan.specs.Lists.{pad_to}
use Rattle.scope_table.specs.Table.{TEXT, NUMBERS, DEEPEST, head_of, resolver_of, fresh_of}
use Rattle.scope_table.specs.Answer.{changed}
use Rattle.scope_table.specs.Lent.{stands_for, fits_of, lent, Given, given, lent_of, fresh_in, form_of}
use Rattle.scope_table.specs.declared.Head.{Head}
use Rattle.scope_table.specs.declared.NamespaceResolver.{NamespaceResolver}
use Rattle.scope_table.specs.declared.Changed.{Changed}
use Rattle.scope_table.specs.declared.NamespaceError.TheVariants.{LendMore, WrongLength}
use Rattle.scope_declare.specs.Declare.{pop_of}
use Rattle.scope_push.specs.Push.{push_of}
use Rattle.law_scopes.specs.Calls.{Call, set_limit, call_of, left_by, answers_by}
use Rattle.law_scopes.specs.Scopes.{no_scopes, scopes_after, answers_in}
use Rattle.law_scopes.specs.Promises.{Sums}
use Rattle.law_lent.specs.Run.{lent_by, lent_answers, Enough}

-- Memory that stands for a resolver, as long as some text and records were, and ready for the next call.
pub record MemoryFor (text records : List ℕ) (x : NamespaceResolver) (g : Given) : Type 0 where
  pub stands : stands_for g.text g.records g.head ≡ x
  pub text_length : length g.text ≡ length text
  pub records_length : length g.records ≡ length records
  pub ready : form_of g.text g.records g.head ≡ Ok tt

-- What a call left on lent memory is what it leaves on a resolver: its answer, and memory for the resolver after it.
pub record LentLeft (text records : List ℕ) (c : Changed) (g : Given) : Type 0 where
  pub answer : g.answer ≡ c.answer
  pub kept : MemoryFor text records c.resolver g

-- Memory that is ready, and any call on it, refused or not: LendMore, which changes nothing, or what the call makes of the
-- resolver that the memory stands for.
unfoldable pub LentFollows : Type 0
LentFollows =
    (text records : List ℕ) (head : Head) → form_of text records head ≡ Ok tt → (c : Call) →
    (lent_of (call_of c) text records head ≡ given (Err LendMore) text records head)
    ⊎ LentLeft text records (call_of c (stands_for text records head)) (lent_of (call_of c) text records head)

-- The limit of lent memory is set by its caller, in the head: that is the call that sets it.
unfoldable pub LentLimit : Type 0
LentLimit =
    (text records : List ℕ) (head : Head) → fits_of (length text) (length records) head.used head.count ≡ true →
    (limit : ℕ) →
    lent_of (call_of (set_limit limit)) text records head
    ≡ given (Ok tt) text records (head_of head.used head.count head.level limit)

-- What calls leave and answer, made one after another.
pub record RunOn (calls : List Call) (text records : List ℕ) (x : NamespaceResolver) (g : Given) : Type 0 where
  pub answers : lent_answers calls g ≡ answers_by calls x
  pub kept : MemoryFor text records (left_by calls x) (lent_by calls g)

-- As long as no call asks for more memory, calls on lent memory are the calls on the resolver that it stands for.
unfoldable pub LentRun : Type 0
LentRun =
    (text records : List ℕ) (head : Head) → form_of text records head ≡ Ok tt →
    (calls : List Call) → Enough (lent_answers calls (given (Ok tt) text records head)) →
    RunOn calls text records (stands_for text records head) (given (Ok tt) text records head)

-- A fresh resolver in lent memory, whatever stood there, stands for the fresh resolver.
unfoldable pub LentFresh : Type 0
LentFresh =
    (text records : List ℕ) (head : Head) → (fresh_in text records head).answer ≡ Ok tt →
    LentLeft text records (changed (Ok tt) fresh_of) (fresh_in text records head)

-- So after any calls on it the counts are the sums over the declarations that were accepted and not popped since, every
-- answer is the one that the list of those declarations gives, and the memory is ready.
unfoldable pub LentReached : Type 0
LentReached =
    (text records : List ℕ) (head : Head) → (fresh_in text records head).answer ≡ Ok tt →
    (calls : List Call) → Enough (lent_answers calls (fresh_in text records head)) →
    let g = lent_by calls (fresh_in text records head) in
    Sums (stands_for g.text g.records g.head) (scopes_after calls no_scopes)
    × (lent_answers calls (fresh_in text records head) ≡ answers_in calls no_scopes)
    × (form_of g.text g.records g.head ≡ Ok tt)

-- A push and then a pop give back text, records and head as they were, every place of them, unless the push asks for more
-- memory.
unfoldable pub LentPushPop : Type 0
LentPushPop =
    (text records : List ℕ) (head : Head) → form_of text records head ≡ Ok tt → head.level < DEEPEST →
    (tag : List ℕ) (from : ℕ) →
    let g = lent_of (push_of tag from) text records head in
    (g.answer ≡ Err LendMore → ⊥) →
    lent_of pop_of g.text g.records g.head ≡ given (Ok tt) text records head

-- On memory of full size, whatever stands in it and whatever the head says, no call that changes a resolver answers 98 or 99.
unfoldable pub FullNeverLends : Type 0
FullNeverLends =
    (text records : List ℕ) (head : Head) → length text ≡ TEXT → length records ≡ NUMBERS → (c : Call) →
    ((lent_of (call_of c) text records head).answer ≡ Err LendMore → ⊥) × ((lent_of (call_of c) text records head).answer ≡ Err WrongLength → ⊥)

-- And a call that asks is never wrong for its memory: it is what it is of the resolver.
unfoldable pub FullNeverWrong : Type 1
FullNeverWrong =
    (text records : List ℕ) (head : Head) → length text ≡ TEXT → length records ≡ NUMBERS →
    (A : Type 0) (wrong : A) (f : NamespaceResolver → A) → lent wrong f text records head ≡ f (resolver_of text records head)

-- More memory for the same: what was lent, and zeros after it.
pub record Longer (text records : List ℕ) (bytes numbers : ℕ) : Type 0 where
  pub bytes_least : length text ≤ bytes
  pub bytes_most : bytes ≤ TEXT
  pub numbers_least : length records ≤ numbers
  pub numbers_most : numbers ≤ NUMBERS

-- It holds what is in use as before, and stands for the same resolver: a call that asks answers the same.
unfoldable pub AsksAgain : Type 1
AsksAgain =
    (text records : List ℕ) (head : Head) → fits_of (length text) (length records) head.used head.count ≡ true →
    (bytes numbers : ℕ) → Longer text records bytes numbers →
    (stands_for (pad_to bytes text) (pad_to numbers records) head ≡ stands_for text records head)
    × (fits_of (length (pad_to bytes text)) (length (pad_to numbers records)) head.used head.count ≡ true)
    × ((A : Type 0) (wrong : A) (f : NamespaceResolver → A) →
    lent wrong f (pad_to bytes text) (pad_to numbers records) head ≡ lent wrong f text records head)

-- And a call that was answered LendMore is the same call when it is made again with more: its answer and what it leaves are
-- those of the resolver that the shorter memory stood for, if the memory holds what it leaves, and else it is LendMore again.
unfoldable pub CallsAgain : Type 0
CallsAgain =
    (text records : List ℕ) (head : Head) → form_of text records head ≡ Ok tt →
    (bytes numbers : ℕ) → Longer text records bytes numbers → (c : Call) →
    let after = call_of c (stands_for text records head) in
    let more = pad_to bytes text in
    let rows = pad_to numbers records in
    (fits_of bytes numbers after.resolver.head.used after.resolver.head.count ≡ true →
    LentLeft more rows after (lent_of (call_of c) more rows head))
    × (fits_of bytes numbers after.resolver.head.used after.resolver.head.count ≡ false →
    lent_of (call_of c) more rows head ≡ given (Err LendMore) more rows head)
