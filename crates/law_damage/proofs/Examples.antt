-- The damage theorem on tags: one table of what is read and what is said, with a single statement. Two rows show it; the
-- others each break one premise, and there what is read is not what the theorem would say.
use Prim.Native.Nat.{ℕ, ◌-◌}
use Prim.Native.String.{String}
use mathlib.Core.Path.{◌≡◌, refl}
use mathlib.Core.Bool.{Bool, true, false, not, ◌||◌}
use mathlib.Core.List.{List, [], ◌∷◌, map}
use native.Mathlib.Omega.{arith}
use lib.ListN.{length, get_or, replicate}
use lib.Dec.{eqb, ltb, leb}
use Rattle.std.specs.Prelude.{Some, Ok, Err}
use Rattle.scan.specs.First.{first_of, first_to, first_from}
use Rattle.scan.specs.Bytes.{is_space, not_space, ends_key, is_byte, part, same_bytes, bytes_from, bytes}
use Rattle.tag_keys.specs.Hash.{times_prime, hash_from, hash_of}
use Rattle.tag_keys.specs.Keys.{capacity, key_good, hash_is, key_bad, count_good, table_good, name_at, same_key, oldest_of, earlier_of, checked_by, checked_of, written_by, count_by}
use Rattle.tag_step.specs.declared.Place.TheVariants.{Next, SkipValue}
use Rattle.tag_step.specs.Answer.{Answer}
use Rattle.tag_step.specs.declared.Attr.TheVariants.{SingleQ, Unquoted}
use Rattle.tag_step.specs.declared.AttrError.TheVariants.{ExpectedEq, UnquotedValue, ExpectedQuote, Duplicated, BadState}
use Rattle.tag_step.specs.declared.IterState.{IterState}
use Rattle.tag_step.specs.Read.{span, is_at, is_quote, skip_to, skip_of, recover_of, key_eq, key_to, key_from, key_at, quoted, closed_of, quoted_to, quoted_of, unquoted_to, other_of, value_by, value_from, value_at}
use Rattle.tag_step.specs.Next.{check_of, kept_by, place_at, bare_by, bare_to, bare_of, valued_by, valued_to, valued_of, read_key, read_at, step_from, step_of, place_good, keys_of, state_good, no_keys, bad_reading, leaves, next_of, opened}
use Rattle.tag_step.specs.Run.{is_end, cons_unless, run_of, answers_of}
use Rattle.law_damage.specs.Damage.{Marked, kept, struck, was, Cut, whole_value, cuts, damaged, added, taken_out, moved, move_answer, becomes}

-- the premises as tests: XML mode, no recorded keys, and for each cut whether its run is not empty, has no whitespace and
-- starts with no quote, and whether whitespace or the end follows
abbrev premises : List ℕ → IterState → List Cut → List Bool
premises s st [] = not st.html ∷ eqb st.count 0 ∷ []
premises s st (c ∷ cs) =
    ltb 0 (length c.run)
    ∷ leb (length c.run) (first_from is_space c.run 0)
    ∷ not (is_quote (get_or c.run 0 0))
    ∷ (leb (length s) c.to || is_space (get_or s c.to 0))
    ∷ premises s st cs

-- a tag, a state to read it from, and its answers, marked; then the damaged tag, the premises, what the theorem says and
-- what is read
record Row : Type 0 where
  tag : String
  state : IterState
  marks : List Marked
  hurt : String
  holds : List Bool
  says : List Answer
  gives : List Answer

-- opened at 0 in XML mode with checks on
abbrev start : IterState
start = opened 0 false true

-- two values give way, to a shorter run and to a longer one: what follows moves by -3, then by -1
abbrev both_ways : Row
both_ways =
    record {
      tag = "a=\"12\" b='3' a=\"x\" c=\"4\" d=\"";
      state = start;
      marks =
          struck 34 (span 0 1) (span 3 5) (bytes "z")
          ∷ kept (Some (Ok (SingleQ (span 7 8) (span 10 11))))
          ∷ kept (Some (Err (Duplicated 13 0)))
          ∷ struck 34 (span 19 20) (span 22 23) (bytes "yyyyy")
          ∷ kept (Some (Err (ExpectedQuote 28 34)))
          ∷ [];
      hurt = "a=z b='3' a=\"x\" c=yyyyy d=\"";
      holds = true ∷ true ∷ true ∷ true ∷ true ∷ true ∷ true ∷ true ∷ true ∷ true ∷ [];
      says = Some (Err (UnquotedValue 2)) ∷ Some (Ok (SingleQ (span 4 5) (span 7 8))) ∷ Some (Err (Duplicated 10 0)) ∷ Some (Err (UnquotedValue 18)) ∷ Some (Err (ExpectedQuote 27 34)) ∷ [];
      gives = Some (Err (UnquotedValue 2)) ∷ Some (Ok (SingleQ (span 4 5) (span 7 8))) ∷ Some (Err (Duplicated 10 0)) ∷ Some (Err (UnquotedValue 18)) ∷ Some (Err (ExpectedQuote 27 34)) ∷ [];
    }

-- from a place that skips a value first, with checks off: moved by +4, and at the end by +4 - 2
abbrev from_a_skip : Row
from_a_skip =
    record {
      tag = "\"' x='1' y=\"23\" x=w v";
      state = record { place = SkipValue 0; html = false; check_duplicates = false; starts = no_keys.starts; ends = no_keys.ends; hashes = no_keys.hashes; count = 0 };
      marks =
          struck 39 (span 3 4) (span 6 7) (bytes "longer\"")
          ∷ struck 34 (span 9 10) (span 12 14) (bytes "=0")
          ∷ kept (Some (Err (UnquotedValue 18)))
          ∷ kept (Some (Err (ExpectedEq 21)))
          ∷ [];
      hurt = "\"' x=longer\" y==0 x=w v";
      holds = true ∷ true ∷ true ∷ true ∷ true ∷ true ∷ true ∷ true ∷ true ∷ true ∷ [];
      says = Some (Err (UnquotedValue 5)) ∷ Some (Err (UnquotedValue 15)) ∷ Some (Err (UnquotedValue 20)) ∷ Some (Err (ExpectedEq 23)) ∷ [];
      gives = Some (Err (UnquotedValue 5)) ∷ Some (Err (UnquotedValue 15)) ∷ Some (Err (UnquotedValue 20)) ∷ Some (Err (ExpectedEq 23)) ∷ [];
    }

-- what one premise fewer would allow

-- neither whitespace nor the end after the closing quote
abbrev close : Row
close =
    record {
      tag = "a=\"\"b=''";
      state = start;
      marks = struck 34 (span 0 1) (span 3 3) (bytes "z") ∷ kept (Some (Ok (SingleQ (span 4 5) (span 7 7)))) ∷ [];
      hurt = "a=zb=''";
      holds = true ∷ true ∷ true ∷ false ∷ true ∷ true ∷ [];
      says = Some (Err (UnquotedValue 2)) ∷ Some (Ok (SingleQ (span 3 4) (span 6 6))) ∷ [];
      gives = Some (Err (UnquotedValue 2)) ∷ [];
    }

-- a run that starts with a quote
abbrev quote : Row
quote =
    record {
      tag = "a=\"\" b=''";
      state = start;
      marks = struck 34 (span 0 1) (span 3 3) (bytes "''") ∷ kept (Some (Ok (SingleQ (span 5 6) (span 8 8)))) ∷ [];
      hurt = "a='' b=''";
      holds = true ∷ true ∷ false ∷ true ∷ true ∷ true ∷ [];
      says = Some (Err (UnquotedValue 2)) ∷ Some (Ok (SingleQ (span 5 6) (span 8 8))) ∷ [];
      gives = Some (Ok (SingleQ (span 0 1) (span 3 3))) ∷ Some (Ok (SingleQ (span 5 6) (span 8 8))) ∷ [];
    }

-- a run with whitespace
abbrev space : Row
space =
    record {
      tag = "a=\"\" b=''";
      state = start;
      marks = struck 34 (span 0 1) (span 3 3) (bytes "z c") ∷ kept (Some (Ok (SingleQ (span 5 6) (span 8 8)))) ∷ [];
      hurt = "a=z c b=''";
      holds = true ∷ false ∷ true ∷ true ∷ true ∷ true ∷ [];
      says = Some (Err (UnquotedValue 2)) ∷ Some (Ok (SingleQ (span 6 7) (span 9 9))) ∷ [];
      gives = Some (Err (UnquotedValue 2)) ∷ Some (Err (ExpectedEq 6)) ∷ Some (Ok (SingleQ (span 6 7) (span 9 9))) ∷ [];
    }

-- an empty run
abbrev empty : Row
empty =
    record {
      tag = "a=\"\" b=''";
      state = start;
      marks = struck 34 (span 0 1) (span 3 3) [] ∷ kept (Some (Ok (SingleQ (span 5 6) (span 8 8)))) ∷ [];
      hurt = "a= b=''";
      holds = false ∷ true ∷ true ∷ true ∷ true ∷ true ∷ [];
      says = Some (Err (UnquotedValue 2)) ∷ Some (Ok (SingleQ (span 3 4) (span 6 6))) ∷ [];
      gives = Some (Err (UnquotedValue 3)) ∷ [];
    }

-- a recorded key that points into the value: other bytes stand there then, and the kept hash is not theirs
abbrev recorded : Row
recorded =
    record {
      tag = "a=\"b\" b='1'";
      state = record { place = Next 0; html = false; check_duplicates = true; starts = 3 ∷ replicate (capacity - 1) 0; ends = 4 ∷ replicate (capacity - 1) 0; hashes = hash_of (bytes "b") ∷ replicate (capacity - 1) 0; count = 1 };
      marks = struck 34 (span 0 1) (span 3 4) (bytes "x") ∷ kept (Some (Err (Duplicated 6 3))) ∷ [];
      hurt = "a=x b='1'";
      holds = true ∷ true ∷ true ∷ true ∷ true ∷ false ∷ [];
      says = Some (Err (UnquotedValue 2)) ∷ Some (Err (Duplicated 4 3)) ∷ [];
      gives = Some (Err BadState) ∷ [];
    }

-- HTML mode
abbrev html : Row
html =
    record {
      tag = "a=\"b\"";
      state = opened 0 true true;
      marks = struck 34 (span 0 1) (span 3 4) (bytes "x") ∷ [];
      hurt = "a=x";
      holds = true ∷ true ∷ true ∷ true ∷ false ∷ true ∷ [];
      says = Some (Err (UnquotedValue 2)) ∷ [];
      gives = Some (Ok (Unquoted (span 0 1) (span 2 3))) ∷ [];
    }

-- what a row leaves to be computed: its old answers, the damaged tag, the premises, what the theorem says, what is read
record Shown : Type 0 where
  old : List Answer
  cut : List ℕ
  holds : List Bool
  says : List Answer
  gives : List Answer

abbrev computed : Row → Shown
computed r =
    record {
      old = answers_of (bytes r.tag) r.state;
      cut = damaged (bytes r.tag) 0 (cuts r.marks);
      holds = premises (bytes r.tag) r.state (cuts r.marks);
      says = map (becomes (moved (cuts r.marks))) r.marks;
      gives = answers_of (damaged (bytes r.tag) 0 (cuts r.marks)) r.state;
    }

abbrev written : Row → Shown
written r = record { old = map was r.marks; cut = bytes r.hurt; holds = r.holds; says = r.says; gives = r.gives }

abbrev table : List Row
table = both_ways ∷ from_a_skip ∷ close ∷ quote ∷ space ∷ empty ∷ recorded ∷ html ∷ []

rows : map computed table ≡ map written table
unfolding first_of first_to first_from is_space not_space ends_key is_byte part same_bytes bytes_from bytes times_prime hash_from hash_of key_good hash_is key_bad count_good table_good name_at same_key oldest_of earlier_of checked_by checked_of written_by count_by is_at is_quote skip_to skip_of recover_of key_eq key_to key_from key_at quoted closed_of quoted_to quoted_of unquoted_to other_of value_by value_from value_at check_of kept_by place_at bare_by bare_to bare_of valued_by valued_to valued_of read_key read_at step_from step_of place_good keys_of state_good no_keys bad_reading leaves next_of opened is_end cons_unless run_of answers_of was whole_value cuts damaged added taken_out moved move_answer becomes
rows = refl

-- and in the rows that break a premise what is read is not what the theorem would say
close_breaks : close.says ≡ close.gives → ⊥
close_breaks e = let z : ◌≡◌ {A = ℕ} 0 1 = cc in omega arith

quote_breaks : quote.says ≡ quote.gives → ⊥
quote_breaks e = let z : ◌≡◌ {A = ℕ} 0 1 = cc in omega arith

space_breaks : space.says ≡ space.gives → ⊥
space_breaks e = let z : ◌≡◌ {A = ℕ} 0 1 = cc in omega arith

empty_breaks : empty.says ≡ empty.gives → ⊥
empty_breaks e = let z : ◌≡◌ {A = ℕ} 2 3 = cc in omega arith

recorded_breaks : recorded.says ≡ recorded.gives → ⊥
recorded_breaks e = let z : ◌≡◌ {A = ℕ} 0 1 = cc in omega arith

html_breaks : html.says ≡ html.gives → ⊥
html_breaks e = let z : ◌≡◌ {A = ℕ} 0 1 = cc in omega arith
