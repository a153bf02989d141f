-- Document 01, "Numbers and what they leave": what `has_nil` looks for, in which order it refuses, and what it leaves of
-- the iterator.
use Rattle.std.specs.Prelude.{ℕ, zero, suc, ◌≤◌, ◌≡◌, Bool, true, false, ◌&&◌, List, length, take, leb, Option, Some, None, Result, Ok, Err}
use Rattle.scan.specs.First.{pick}
use Rattle.scan.specs.Bytes.{same_bytes, bytes}
use Rattle.name.specs.Split.{has_colon, prefix_of, local_of}
use Rattle.tag_keys.specs.Keys.{capacity, holds}
use Rattle.tag_step.specs.Answer.{Answer}
use Rattle.tag_step.specs.declared.IterState.{IterState}
use Rattle.tag_step.specs.declared.Standing.{Standing}
use Rattle.tag_step.specs.Next.{state_good, next_of, lent_state}
use Rattle.tag_step.specs.Lent.{whole_of, stepped_of}
use Rattle.tag_step.specs.Run.{is_end}
use Rattle.tag_parts.specs.Parts.{key_part, value_part, truth_of}
use Rattle.scope_table.specs.Records.{record_at}
use Rattle.scope_table.specs.Table.{valid_of}
use Rattle.scope_table.specs.Lent.{lent}
use Rattle.scope_table.specs.declared.FormError.{FormError}
use Rattle.scope_table.specs.declared.FormError.TheVariants as Is
use Rattle.scope_table.specs.declared.Head.{Head}
use Rattle.scope_table.specs.declared.NamespaceResolver.{NamespaceResolver}
use Rattle.scope_lookup.specs.Lookup.{among_of, uri_part}
use Rattle.scope_nil.specs.declared.NilError.{NilError}
use Rattle.scope_nil.specs.declared.NilError.TheVariants.{BadState, BadResolver, LendMore, WrongLength}
use Rattle.scope_nil.specs.declared.HasNil.{HasNil}
use Rattle.scope_nil.specs.declared.Left.{Left}

-- Each answer by its number: 7 and 20 are document 01's, 98 and 99 those of lent memory. A yes and a no have none there, and are
-- 1 and 0.
abbrev pub nil_number : Result Bool NilError → ℕ
nil_number (Ok false) = 0
nil_number (Ok true) = 1
nil_number (Err BadState) = 7
nil_number (Err BadResolver) = 20
nil_number (Err LendMore) = 98
nil_number (Err WrongLength) = 99

-- what the test of the resolver's form refuses, as a refusal of a search
abbrev pub refused_nil : FormError → NilError
refused_nil Is.BadResolver = BadResolver
refused_nil Is.WrongLength = WrongLength

-- an answer, and the iterator that it leaves
abbrev pub said : Result Bool NilError → IterState → HasNil
said a st = record { answer = a; state = st }

-- An answer by its number, beside the iterator: what a call for users promises.
abbrev pub numbered_nil : HasNil → ℕ × IterState
numbered_nil h = (nil_number h.answer, h.state)

-- what an answer leaves of the iterator of lent tables and what it has beside them
abbrev pub nil_left_by : Standing → Left → (starts ends hashes : List ℕ) → HasNil
nil_left_by at r starts ends hashes = said r.answer (lent_state r.place at.html at.checks starts ends hashes r.count)

-- an answer that leaves it where it stands
abbrev pub unmoved_by : Result Bool NilError → Standing → Left
unmoved_by a at = record { answer = a; place = at.place; count = at.count }

unfoldable pub is_yes : Option Bool → Bool
is_yes (Some true) = true
is_yes (Some false) = false
is_yes None = false

-- The crate's XMLSchema-instance URI.
unfoldable pub instance_uri : List ℕ
instance_uri = bytes "http://www.w3.org/2001/XMLSchema-instance"

-- What is looked for: the local part is `nil`, the value is a yes, and the name, looked up as an attribute's, so with no
-- default, has that URI. The resolver is one that was found good: there this is what `resolve` gives (proofs/Resolves).
unfoldable pub is_nil : NamespaceResolver → (key value : List ℕ) → Bool
is_nil x key value =
    same_bytes (local_of key) (bytes "nil")
    && (is_yes (truth_of value)
    && same_bytes (uri_part x.text (Ok (among_of x.text (record_at x.records) x.head.count (prefix_of key) (has_colon key) false)))
    instance_uri)

-- One answer of the iterator. A refusal has no key, so it counts as no.
unfoldable pub says_nil : NamespaceResolver → (tag : List ℕ) → Answer → Bool
says_nil x s a = is_nil x (key_part s a) (value_part s a)

-- The first n answers of a good iterator: the end is a no; the first yes stops the search; every other answer counts as
-- no, and reading goes on.
unfoldable pub search_of : ℕ → NamespaceResolver → (tag : List ℕ) → IterState → HasNil
search_of zero x s st = said (Ok false) st
search_of (suc n) x s st =
    pick (is_end (next_of s st).answer) (said (Ok false) (next_of s st).state)
    (pick (says_nil x s (next_of s st).answer) (said (Ok true) (next_of s st).state)
    (search_of n x s (next_of s st).state))

-- All answers: no run has more than one for each byte and one besides, and the end follows them (`search_whole`,
-- proofs/Turns).
unfoldable pub searched : NamespaceResolver → (tag : List ℕ) → IterState → HasNil
searched x s st = search_of (suc (suc (length s))) x s st

-- `has_nil`: 20, which leaves the iterator unchanged, then 7, which leaves it as 7 does; else the search.
unfoldable pub has_nil_of : (tag : List ℕ) → IterState → NamespaceResolver → HasNil
has_nil_of s st x =
    pick (valid_of x)
    (pick (state_good s st) (searched x s st) (said (Err BadState) (next_of s st).state))
    (said (Err BadResolver) st)

-- Lent key tables may be shorter than the capacity: they are the iterator whose missing places are unused (tag_step,
-- specs/Lent). What a search leaves of it, where the tables hold that; else LendMore, and nothing changes.
unfoldable pub held_nil : IterState → HasNil → HasNil
held_nil st h =
    pick (holds st.starts st.ends st.hashes h.state.count)
    (said h.answer
    (lent_state h.state.place h.state.html h.state.check_duplicates (take (length st.starts) h.state.starts)
    (take (length st.ends) h.state.ends) (take (length st.hashes) h.state.hashes) h.state.count))
    (said (Err LendMore) st)

unfoldable pub whole_search : NamespaceResolver → (tag : List ℕ) → IterState → HasNil
whole_search x s st = held_nil st (searched x s (whole_of st))

-- `has_nil` of such tables, in the same order.
unfoldable pub nil_on_keys : (tag : List ℕ) → IterState → NamespaceResolver → HasNil
nil_on_keys s st x =
    pick (valid_of x)
    (pick (state_good s st) (whole_search x s st) (said (Err BadState) (stepped_of s st)))
    (said (Err BadResolver) st)

-- no table is longer than the capacity
unfoldable pub keys_fit : IterState → Bool
keys_fit st =
    leb (length st.starts) capacity && (leb (length st.ends) capacity && leb (length st.hashes) capacity)

-- `has_nil` on lent memory, both the iterator's and the resolver's.
unfoldable pub has_nil_in : (tag : List ℕ) → IterState → (text records : List ℕ) → Head → HasNil
has_nil_in s st text records head =
    pick (keys_fit st) (lent (said (Err WrongLength) st) (nil_on_keys s st) text records head) (said (Err WrongLength) st)

-- What the search asks of an iterator: it is good, and its tables have full size.
pub record Searchable (s : List ℕ) (st : IterState) : Type 0 where
  pub good : state_good s st ≡ true
  pub starts : length st.starts ≡ capacity
  pub ends : length st.ends ≡ capacity
  pub hashes : length st.hashes ≡ capacity

-- And on tables of any length up to the capacity.
pub record Resting (s : List ℕ) (st : IterState) : Type 0 where
  pub good : state_good s st ≡ true
  pub starts : length st.starts ≤ capacity
  pub ends : length st.ends ≤ capacity
  pub hashes : length st.hashes ≤ capacity
