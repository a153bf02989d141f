-- The starred rows of document 01, as one table: tags and all their answers; and tags pushed on a fresh resolver and popped
-- again, what the last call answers, and what names resolve to then.
use Rattle.std.specs.Prelude.{ℕ, Bool, true, false, List, [], ◌∷◌, map, Some, Ok, Err}
use Prim.Native.String.{String}
use Rattle.scan.specs.Bytes.{bytes}
use Rattle.tag_step.specs.Answer.{Answer}
use Rattle.tag_step.specs.declared.Attr.TheVariants.{DoubleQ, SingleQ}
use Rattle.tag_step.specs.declared.AttrError.TheVariants.{ExpectedEq, UnquotedValue, Duplicated}
use Rattle.tag_step.specs.Read.{span}
use Rattle.tag_step.specs.Next.{opened}
use Rattle.tag_step.specs.Run.{answers_of}
use Rattle.scope_table.specs.Table.{fresh_of}
use Rattle.scope_table.specs.Answer.{change_numbers, changed}
use Rattle.scope_table.specs.declared.NamespaceResolver.{NamespaceResolver}
use Rattle.scope_table.specs.declared.Changed.{Changed}
use Rattle.scope_lookup.specs.Lookup.{resolve_of}
use Rattle.law_scopes.specs.Calls.{Call, push, pop, call_of}
use Rattle.law_rows.specs.Seen.{Seen, bound, unbound, unknown, handed_back}

-- a name, whether the default is wanted, and what it resolves to
pub record Look : Type 0 where
  pub name : String
  pub wanted : Bool
  pub means : Seen

-- the calls on a fresh resolver; the numbers of the last answer, text used and level then; and the lookups
pub record Row : Type 0 where
  pub calls : List Call
  pub numbers : List ℕ
  pub used : ℕ
  pub level : ℕ
  pub looks : List Look

abbrev pub element : String → Seen → Look
element n s = record { name = n; wanted = true; means = s }

abbrev pub attribute : String → Seen → Look
attribute n s = record { name = n; wanted = false; means = s }

abbrev pub row : List Call → List ℕ → ℕ → ℕ → List Look → Row
row calls numbers used level looks = record { calls = calls; numbers = numbers; used = used; level = level; looks = looks }

-- a tag that is pushed, its attributes from 0 on
abbrev pub tag : String → Call
tag t = push (bytes t) 0

-- what the last of these calls answers and leaves
unfoldable pub call_all : List Call → Changed → Changed
call_all [] c = c
call_all (x ∷ more) c = call_all more (call_of x c.resolver)

unfoldable pub looked_up : NamespaceResolver → Look → Look
looked_up x l =
    record {
      name = l.name;
      wanted = l.wanted;
      means = handed_back x (bytes l.name) (resolve_of (bytes l.name) l.wanted x);
    }

-- the row as the definitions have it
unfoldable pub shown_by : List Call → List Look → Changed → Row
shown_by calls looks c =
    row calls (change_numbers c.answer) c.resolver.head.used c.resolver.head.level (map (looked_up c.resolver) looks)

unfoldable pub computed : Row → Row
computed r = shown_by r.calls r.looks (call_all r.calls (changed (Ok tt) fresh_of))

-- A row of the table: a tag, opened at 0 in XML mode with checks on, and all its answers; a row of calls; or calls after which
-- the whole resolver is the one that stands here.
pub data Starred : Type 0 where
  reads : String → List Answer → Starred
  resolves : Row → Starred
  returns : List Call → Changed → Starred

-- as the definitions have it
unfoldable pub computed_of : Starred → Starred
computed_of (reads t answers) = reads t (answers_of (bytes t) (opened 0 false true))
computed_of (resolves r) = resolves (computed r)
computed_of (returns calls c) = returns calls (call_all calls (changed (Ok tt) fresh_of))

abbrev pub shown : List Call → List ℕ → ℕ → ℕ → List Look → Starred
shown calls numbers used level looks = resolves (row calls numbers used level looks)

-- The rows, in document 01's order. In the tag with `xmlns:xmlns`, 13 holds the bounds of `w`.
abbrev pub starred_rows : List Starred
starred_rows =
    reads "a=\"1\"b='2'" (Some (Ok (DoubleQ (span 0 1) (span 3 4))) ∷ Some (Ok (SingleQ (span 5 6) (span 8 9))) ∷ [])
    ∷ reads "a b=\"1\"" (Some (Err (ExpectedEq 2)) ∷ Some (Ok (DoubleQ (span 2 3) (span 5 6))) ∷ [])
    ∷ reads "a=1 b='2'" (Some (Err (UnquotedValue 2)) ∷ Some (Ok (SingleQ (span 4 5) (span 7 8))) ∷ [])
    ∷ reads "a='1' a=\"2 3\" b='4'" (Some (Ok (SingleQ (span 0 1) (span 3 4))) ∷ Some (Err (Duplicated 6 0)) ∷ Some (Err (ExpectedEq 14)) ∷ Some (Ok (SingleQ (span 14 15) (span 17 18))) ∷ [])
    ∷ reads "=\"1\"" (Some (Err (ExpectedEq 4)) ∷ [])
    ∷ reads "a=1 a='2'" (Some (Err (UnquotedValue 2)) ∷ Some (Err (Duplicated 4 0)) ∷ [])
    ∷ shown (tag " xmlns=\"u\" xmlns:p=\"v\"" ∷ []) (0 ∷ []) 76 1
    (element "a" (bound (bytes "u")) ∷ attribute "a" unbound ∷ element "p:a" (bound (bytes "v")) ∷ attribute "p:a" (bound (bytes "v")) ∷ [])
    ∷ shown (tag " xmlns=\"u\" xmlns:p=\"v\"" ∷ pop ∷ []) (0 ∷ []) 73 0 []
    ∷ shown (tag " xmlns=\"u\" xmlns:p=\"v\"" ∷ tag " xmlns:p=\"\"" ∷ []) (0 ∷ []) 77 2 (element "p:a" (unknown (bytes "p")) ∷ [])
    ∷ shown (tag " xmlns=\"u\" xmlns:p=\"v\"" ∷ tag " xmlns:p=\"\"" ∷ pop ∷ []) (0 ∷ []) 76 1 (element "p:a" (bound (bytes "v")) ∷ [])
    ∷ shown (tag " xmlns:=\"u\"" ∷ []) (0 ∷ []) 74 1 (element "a" (bound (bytes "u")) ∷ element ":a" (unknown []) ∷ [])
    ∷ shown (tag " xmlns:p=\"v\" xmlns:xmlns=\"w\" xmlns:q=\"z\"" ∷ []) (13 ∷ 26 ∷ 27 ∷ []) 75 1
    (element "p:a" (bound (bytes "v")) ∷ element "q:a" (unknown (bytes "q")) ∷ [])
    ∷ returns (tag " xmlns:p=\"v\" xmlns:xmlns=\"w\" xmlns:q=\"z\"" ∷ pop ∷ []) (changed (Ok tt) fresh_of)
    ∷ shown (tag " xmlns:p=\"v\" x xmlns:q=\"w\"" ∷ []) (0 ∷ []) 75 1
    (element "p:a" (bound (bytes "v")) ∷ element "q:a" (unknown (bytes "q")) ∷ [])
    ∷ []
