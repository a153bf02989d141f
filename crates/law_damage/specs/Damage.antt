-- Damage to quoted values: what it makes of a tag, and of the answers that the tag gives. The theorem `damage_moves`
-- (proofs/Theorem) says: read any tag in XML mode from no recorded keys; take any attributes answered as quoted, each with
-- whitespace or the end after its closing quote; replace each whole quoted value by a nonempty run without whitespace
-- that starts with neither quote. Each damaged one then answers UnquotedValue at its run's first byte; every other answer
-- is the old one, in order, each position moved by the signed sum of the length changes before it.
use Rattle.std.specs.Prelude.{ℕ, ◌+◌, ◌-◌, ◌≤◌, ◌<◌, ◌≡◌, true, false, ◌⊎◌, List, [], ◌∷◌, ◌++◌, map, length, get_or, drop, leb, None, Some, Ok, Err}
use Rattle.scan.specs.First.{pick}
use Rattle.scan.specs.Bytes.{is_space, part}
use Rattle.tag_keys.specs.Keys.{capacity}
use Rattle.tag_step.specs.declared.Span.{Span}
use Rattle.tag_step.specs.declared.Place.{Place}
use Rattle.tag_step.specs.declared.Place.TheVariants.{Done, Next, SkipValue, SkipEqValue}
use Rattle.tag_step.specs.Answer.{Answer}
use Rattle.tag_step.specs.declared.Attr.TheVariants.{DoubleQ, SingleQ, Unquoted, Empty}
use Rattle.tag_step.specs.declared.AttrError.TheVariants.{ExpectedEq, ExpectedValue, UnquotedValue, ExpectedQuote, Duplicated, KeyTableFull, BadState}
use Rattle.tag_step.specs.declared.IterState.{IterState}
use Rattle.tag_step.specs.Read.{span, is_quote, quoted}
use Rattle.tag_step.specs.Run.{answers_of}

-- What is read, and what is chosen.

-- "in XML mode from no recorded keys": from any place, with either setting of checks. The unused places of the tables,
-- which are arrays of the capacity, may hold anything.
pub record NoneRecorded (st : IterState) : Type 0 where
  pub xml : st.html ≡ false
  pub count : st.count ≡ 0
  pub starts : length st.starts ≡ capacity
  pub ends : length st.ends ≡ capacity
  pub hashes : length st.hashes ≡ capacity

-- "any attributes answered as quoted": of the old answers, one after another, each is kept, or it is an attribute in the
-- quotes q (34 for `"`, else `'`) and is struck: its value gives way to a run.
pub data Marked : Type 0 where
  kept : Answer → Marked
  struck : (q : ℕ) (key value : Span) (run : List ℕ) → Marked

-- the old answer
unfoldable pub was : Marked → Answer
was (kept a) = a
was (struck q key value run) = quoted q key value

-- What becomes of the tag.

-- the bytes of a tag from `at` up to, and without, `to` give way to `run`
pub record Cut : Type 0 where
  pub at : ℕ
  pub to : ℕ
  pub run : List ℕ

-- "each whole quoted value": the value with both its quotes
--
--     key="value" next
--         ||    ||
--        at|  end|
--          start to
unfoldable pub whole_value : Span → List ℕ → Cut
whole_value value run = record { at = value.start - 1; to = value.end + 1; run = run }

-- the cuts, from left to right
unfoldable pub cuts : List Marked → List Cut
cuts [] = []
cuts (kept a ∷ ms) = cuts ms
cuts (struck q key value run ∷ ms) = whole_value value run ∷ cuts ms

-- "replace each": the tag from o on, with the cuts made
unfoldable pub damaged : List ℕ → ℕ → List Cut → List ℕ
damaged s o [] = drop o s
damaged s o (c ∷ cs) = part s o c.at ++ (c.run ++ damaged s c.to cs)

-- "a nonempty run without whitespace that starts with neither quote"
pub record IsRun (r : List ℕ) : Type 0 where
  pub some : 0 < length r
  pub solid : (j : ℕ) → j < length r → is_space (get_or r j 0) ≡ false
  pub plain : is_quote (get_or r 0 0) ≡ false

-- a cut with such a run, and "with whitespace or the end after its closing quote"
pub record Fits (s : List ℕ) (c : Cut) : Type 0 where
  pub run : IsRun c.run
  pub after : c.to < length s → is_space (get_or s c.to 0) ≡ true

unfoldable pub AllFit : List ℕ → List Cut → Type 0
AllFit s [] = Unit {0}
AllFit s (c ∷ cs) = Fits s c × AllFit s cs

-- What becomes of the answers.

-- "the length changes before" p: the bytes that are put in by the cuts that end at or before p, and those taken out
unfoldable pub added : List Cut → ℕ → ℕ
added [] p = 0
added (c ∷ cs) p = pick (leb c.to p) (length c.run) 0 + added cs p

unfoldable pub taken_out : List Cut → ℕ → ℕ
taken_out [] p = 0
taken_out (c ∷ cs) p = pick (leb c.to p) (c.to - c.at) 0 + taken_out cs p

-- "moved by the signed sum": the sum is `added` less `taken_out`, and may be below 0. The difference here is never cut off
-- (`signed`, below).
unfoldable pub moved : List Cut → ℕ → ℕ
moved cs p = (p + added cs p) - taken_out cs p

-- "each position": all numbers in an answer but refusal 4's quote byte
abbrev pub move_span : (ℕ → ℕ) → Span → Span
move_span f k = span (f k.start) (f k.end)

unfoldable pub move_answer : (ℕ → ℕ) → Answer → Answer
move_answer f None = None
move_answer f (Some (Ok (DoubleQ k v))) = Some (Ok (DoubleQ (move_span f k) (move_span f v)))
move_answer f (Some (Ok (SingleQ k v))) = Some (Ok (SingleQ (move_span f k) (move_span f v)))
move_answer f (Some (Ok (Unquoted k v))) = Some (Ok (Unquoted (move_span f k) (move_span f v)))
move_answer f (Some (Ok (Empty k))) = Some (Ok (Empty (move_span f k)))
move_answer f (Some (Err (ExpectedEq p))) = Some (Err (ExpectedEq (f p)))
move_answer f (Some (Err (ExpectedValue l))) = Some (Err (ExpectedValue (f l)))
move_answer f (Some (Err (UnquotedValue p))) = Some (Err (UnquotedValue (f p)))
move_answer f (Some (Err (ExpectedQuote l q))) = Some (Err (ExpectedQuote (f l) q))
move_answer f (Some (Err (Duplicated this earlier))) = Some (Err (Duplicated (f this) (f earlier)))
move_answer f (Some (Err (KeyTableFull this))) = Some (Err (KeyTableFull (f this)))
move_answer f (Some (Err BadState)) = Some (Err BadState)

unfoldable pub move_place : (ℕ → ℕ) → Place → Place
move_place f Done = Done
move_place f (Next o) = Next (f o)
move_place f (SkipValue o) = SkipValue (f o)
move_place f (SkipEqValue o) = SkipEqValue (f o)

-- "Each damaged one then answers UnquotedValue at its run's first byte; every other answer is the old one", moved. The
-- run's first byte stands where the opening quote has moved to (`stands`, below).
unfoldable pub becomes : (ℕ → ℕ) → Marked → Answer
becomes f (kept a) = move_answer f a
becomes f (struck q key value run) = Some (Err (UnquotedValue (f (value.start - 1))))

-- The theorem.

-- the cuts lie in the tag, one after another, past o
unfoldable pub Apart : ℕ → ℕ → List Cut → Type 0
Apart len o [] = Unit {0}
Apart len o (c ∷ cs) = (o < c.at) × (c.at < c.to) × (c.to ≤ len) × Apart len c.to cs

-- each run stands in t where its cut's first byte has moved to
unfoldable pub RunsStand : (ℕ → ℕ) → List ℕ → List Cut → Type 0
RunsStand f t [] = Unit {0}
RunsStand f t (c ∷ cs) = (part t (f c.at) (f c.at + length c.run) ≡ c.run) × RunsStand f t cs

-- p lies inside no cut
unfoldable pub Outside : List Cut → ℕ → Type 0
Outside [] p = Unit {0}
Outside (c ∷ cs) p = ((p ≤ c.at) ⊎ (c.to ≤ p)) × Outside cs p

pub record Hurt (s : List ℕ) (st : IterState) (ms : List Marked) : Type 0 where
  -- one answer for each old one, in order
  pub answers : answers_of (damaged s 0 (cuts ms)) st ≡ map (becomes (moved (cuts ms))) ms
  -- the sum is signed
  pub signed : (p : ℕ) → moved (cuts ms) p + taken_out (cuts ms) p ≡ p + added (cuts ms) p
  pub stands : RunsStand (moved (cuts ms)) (damaged s 0 (cuts ms)) (cuts ms)
  pub apart : Apart (length s) 0 (cuts ms)
  -- "before it" is unambiguous: no answer has a position inside a cut, so that it does not matter where one would move
  pub clear : (f : ℕ → ℕ) → ((p : ℕ) → Outside (cuts ms) p → f p ≡ moved (cuts ms) p) → map (becomes f) ms ≡ map (becomes (moved (cuts ms))) ms
  -- the place where reading begins lies before every cut, so that both tags are read from one state
  pub begins : move_place (moved (cuts ms)) st.place ≡ st.place

-- any tag, any such state, any of the quoted answers
abbrev pub DamageMoves : Type 0
DamageMoves =
    (s : List ℕ) (st : IterState) (ms : List Marked)
    → NoneRecorded st
    → map was ms ≡ answers_of s st
    → AllFit s (cuts ms)
    → Hurt s st ms
