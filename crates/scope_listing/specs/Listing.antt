-- Document 01, "Scopes": the two listings of bindings. Each takes a place and answers the first record at or after it that
-- it shows.
use Rattle.std.specs.Prelude.{ℕ, ◌+◌, ◌≤◌, ◌<◌, Bool, not, ◌&&◌, List, [], ◌∷◌, eqb, ltb, get_or, length, Option, Some, None, Result, Ok, Err}
use Rattle.scan.specs.First.{pick, first_to}
use Rattle.scope_table.specs.Records.{row_at, record_at, value_start, value_end, prefix_in}
use Rattle.scope_table.specs.Table.{level_before, valid_of}
use Rattle.scope_table.specs.declared.NamespaceBinding.{NamespaceBinding}
use Rattle.scope_table.specs.declared.NamespaceResolver.{NamespaceResolver}
use Rattle.scope_lookup.specs.Lookup.{has_prefix}
use Rattle.scope_table.specs.declared.FormError.{FormError}
use Rattle.scope_table.specs.declared.FormError.TheVariants.{BadResolver, WrongLength}
use Rattle.scope_listing.specs.declared.Binding.{Binding}
use Rattle.scope_listing.specs.declared.Listing.{Listing}
use Rattle.scope_listing.specs.declared.LinedUp.{LinedUp}

-- what a listing shows: a binding or its end, or why the resolver is not asked
abbrev pub Listed : Type 0
Listed = Result (Option Binding) FormError

abbrev pub shows : (prefix_from value_from value_to : ℕ) → Listed
shows a m e = Ok (Some (record { prefix_from = a; value_from = m; value_to = e }))

abbrev pub listing : Listed → ℕ → Listing
listing a place = record { answer = a; place = place }

-- Each answer by numbers: 0 the end; 1 a default and 2 a named binding, with the bounds of prefix and value in the text; 20
-- is document 01's, and 99 that of lent memory.
unfoldable pub listed_numbers : Listed → List ℕ
listed_numbers (Ok (Some b)) = pick (eqb b.prefix_from b.value_from) 1 2 ∷ b.prefix_from ∷ b.value_from ∷ b.value_from ∷ b.value_to ∷ []
listed_numbers (Ok None) = 0 ∷ []
listed_numbers (Err BadResolver) = 20 ∷ []
listed_numbers (Err WrongLength) = 99 ∷ []

-- What a listing shows by its numbers, beside the place to go on from: what a call for users promises.
abbrev pub numbered_listing : Listing → List ℕ × ℕ
numbered_listing l = (listed_numbers l.answer, l.place)

-- such a list as five numbers, 0 where it has none
abbrev pub lined_up : List ℕ → LinedUp
lined_up ns =
    record {
      number = get_or ns 0 0;
      prefix_from = get_or ns 1 0;
      prefix_to = get_or ns 2 0;
      value_from = get_or ns 3 0;
      value_to = get_or ns 4 0;
    }

-- whether the value of a record is not empty
unfoldable pub has_value : NamespaceBinding → Bool
has_value b = not (eqb b.value_len 0)

-- A record is overridden by any later one with the same prefix, also by one with an empty value.
unfoldable pub is_overridden : (text : List ℕ) (rows : ℕ → NamespaceBinding) (count : ℕ) → ℕ → Bool
is_overridden text rows count i =
    ltb (first_to (λ j. has_prefix text (prefix_in text (rows i)) (rows j)) (i + 1) count) count

-- `bindings` shows what is neither empty nor overridden.
unfoldable pub in_effect : (text : List ℕ) (rows : ℕ → NamespaceBinding) (count : ℕ) → ℕ → Bool
in_effect text rows count i = has_value (rows i) && not (is_overridden text rows count i)

-- `bindings_of` shows one level's nonempty ones, built-ins at 0 included, overridden or not.
unfoldable pub at_level : (level : ℕ) → NamespaceBinding → Bool
at_level level b = eqb b.level level && has_value b

-- What the search of one level asks of the records: each in use is lent, and no level is below the one before it.
pub record Rising (records : List ℕ) (count : ℕ) : Type 0 where
  pub rows : row_at count ≤ length records
  pub each : (k : ℕ) → k < count → level_before (record_at records) k ≤ (record_at records k).level

-- a record as it is shown: its prefix, then its value, as bounds in the text
unfoldable pub shown_of : NamespaceBinding → Listed
shown_of b = shows b.start (value_start b) (value_end b)

-- The first position at or after i and below n that passes p, where there is one.
unfoldable pub found_to : (ℕ → Bool) → (i n : ℕ) → Option ℕ
found_to p i n = pick (ltb (first_to p i n) n) (Some (first_to p i n)) None

-- the record that was found, as it is shown, or the end
abbrev pub shown_at : (rows : ℕ → NamespaceBinding) → Option ℕ → (place : ℕ) → Listing
shown_at rows (Some i) place = listing (shown_of (rows i)) (i + 1)
shown_at rows None place = listing (Ok None) place

-- After an answer the place is one past the record shown; the end leaves it as it was. A place past the records in use is
-- the end.
unfoldable pub listed_at : (rows : ℕ → NamespaceBinding) (count found place : ℕ) → Listing
listed_at rows count found place =
    pick (ltb found count) (listing (shown_of (rows found)) (found + 1)) (listing (Ok None) place)

-- `bindings` skips the built-ins: below 2, it reads a place as 2.
unfoldable pub past_built_in : ℕ → ℕ
past_built_in place = pick (ltb place 2) 2 place

unfoldable pub bindings_of : (place : ℕ) → NamespaceResolver → Listing
bindings_of place x =
    let rows = record_at x.records in
    let count = x.head.count in
    pick (valid_of x)
    (listed_at rows count (first_to (in_effect x.text rows count) (past_built_in place) count) place)
    (listing (Err BadResolver) place)

unfoldable pub bindings_at_of : (level place : ℕ) → NamespaceResolver → Listing
bindings_at_of level place x =
    let rows = record_at x.records in
    let count = x.head.count in
    pick (valid_of x)
    (listed_at rows count (first_to (λ i. at_level level (rows i)) place count) place)
    (listing (Err BadResolver) place)
