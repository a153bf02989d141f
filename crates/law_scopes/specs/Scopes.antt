-- Scopes with no table: the declarations that calls have had accepted and not popped since, as a list, with the level and
-- the limit. Nothing here is read off a record or a text; 16, 18 and 19 go by the list's length and its sum.
use Rattle.std.specs.Prelude.{ℕ, ◌+◌, ◌-◌, Bool, List, [], ◌∷◌, ◌++◌, length, take, leb, ltb, Ok, Err, Some, None}
use Rattle.scan.specs.First.{pick}
use Rattle.scope_table.specs.Table.{TEXT, RECORDS, LIMIT, DEEPEST}
use Rattle.scope_table.specs.Answer.{is_done, NamespaceResult}
use Rattle.scope_table.specs.declared.NamespaceError.TheVariants.{TooManyBindings, TooDeeplyNested, BindingTableFull, TextFull}
use Rattle.scope_declare.specs.Declare.{Judged, places_of, judge_of}
use Rattle.scope_push.specs.Push.{Declaration, declarations_of, tag_answers}
use Rattle.law_scopes.specs.Calls.{Call, add, push, pop, set_level, set_limit}

-- a binding that was made: its prefix, none for a default, its value, and the level that it was made at
pub record Made : Type 0 where
  pub prefix : List ℕ
  pub value : List ℕ
  pub level : ℕ

abbrev pub made : (prefix value : List ℕ) → ℕ → Made
made p v level = record { prefix = p; value = v; level = level }

pub record Scopes : Type 0 where
  pub bound : List Made
  pub level : ℕ
  pub limit : ℕ

abbrev pub scopes : List Made → ℕ → ℕ → Scopes
scopes bound level limit = record { bound = bound; level = level; limit = limit }

-- an answer, and the scopes that it leaves
pub record ScopesTold : Type 0 where
  pub answer : NamespaceResult
  pub scopes : Scopes

abbrev pub told : NamespaceResult → Scopes → ScopesTold
told a t = record { answer = a; scopes = t }

-- before any call
unfoldable pub no_scopes : Scopes
no_scopes = scopes [] 0 LIMIT

-- the bytes of prefixes and values, added up
unfoldable pub size_of : List Made → ℕ
size_of [] = 0
size_of (b ∷ more) = length b.prefix + length b.value + size_of more

-- 16 if as many are bound as the limit says; 18 if they and the 2 built in fill the records; 19 if text used, 73 bytes of
-- it built in, plus both lengths exceeds the capacity.
unfoldable pub room_for : Scopes → (prefix value : List ℕ) → NamespaceResult
room_for t p v =
    pick (leb t.limit (length t.bound)) (Err (TooManyBindings t.limit))
    (pick (leb RECORDS (2 + length t.bound)) (Err BindingTableFull)
    (pick (ltb TEXT (73 + size_of t.bound + (length p + length v))) (Err TextFull)
    (Ok tt)))

-- one more at the end, at the level that there is
unfoldable pub bind_in : Scopes → (prefix value : List ℕ) → Scopes
bind_in t p v = scopes (t.bound ++ (made p v t.level ∷ [])) t.level t.limit

-- a binding goes in where there is room for it; a refusal leaves the scopes as they were
unfoldable pub settle_in : Judged → Scopes → (prefix value : List ℕ) → ScopesTold
settle_in (Err e) t p v = told (Err e) t
settle_in (Ok None) t p v = told (Ok tt) t
settle_in (Ok (Some n)) t p v =
    pick (is_done (room_for t (take n p) v)) (told (Ok tt) (bind_in t (take n p) v)) (told (room_for t (take n p) v) t)

unfoldable pub declare_in : Declaration → Scopes → ScopesTold
declare_in d t = settle_in (judge_of d.kind d.prefix d.value d.at) t d.prefix d.value

-- one after the other, up to the first refusal, which keeps what went in before it
unfoldable pub declare_all_in : List Declaration → Scopes → ScopesTold
declare_all_in [] t = told (Ok tt) t
declare_all_in (d ∷ more) t =
    pick (is_done (declare_in d t).answer) (declare_all_in more (declare_in d t).scopes) (declare_in d t)

-- A level keeps those made at it or at a lower one.
unfoldable pub keeps : ℕ → Made → Bool
keeps level b = leb b.level level

unfoldable pub up_to : ℕ → List Made → List Made
up_to level [] = []
up_to level (b ∷ more) = pick (keeps level b) (b ∷ up_to level more) (up_to level more)

unfoldable pub level_in : ℕ → Scopes → Scopes
level_in level t = scopes (up_to level t.bound) level t.limit

unfoldable pub call_in : Call → Scopes → ScopesTold
call_in (add d p v) t = declare_in (record { kind = d; prefix = p; value = v; at = places_of 0 (length p) 0 (length v) }) t
call_in (push s from) t =
    pick (leb DEEPEST t.level) (told (Err (TooDeeplyNested DEEPEST)) t)
    (declare_all_in (declarations_of s (tag_answers s from)) (scopes t.bound (t.level + 1) t.limit))
call_in pop t = told (Ok tt) (level_in (t.level - 1) t)
call_in (set_level to h) t = told (Ok tt) (level_in to t)
call_in (set_limit limit) t = told (Ok tt) (scopes t.bound t.level limit)

-- what a history of calls leaves standing, and what its calls answer, the first made first
unfoldable pub scopes_after : List Call → Scopes → Scopes
scopes_after [] t = t
scopes_after (c ∷ more) t = scopes_after more (call_in c t).scopes

unfoldable pub answers_in : List Call → Scopes → List NamespaceResult
answers_in [] t = []
answers_in (c ∷ more) t = (call_in c t).answer ∷ answers_in more (call_in c t).scopes
