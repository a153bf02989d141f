-- A page shows the answers: the five numbers of each give its own line.
use Prim.Native.Nat.{ℕ, ◌*◌, ◌/◌, ◌≤◌}
use mathlib.Core.Path.{◌≡◌, refl, sym, ap}
use mathlib.Core.Bool.{Bool}
use mathlib.Core.List.{List, [], ◌∷◌}
use native.Mathlib.Omega.{arith}
use lib.ListN.{length, take}
use lib.Seq.{take_at, drop_at}
use Rattle.std.specs.Prelude.{None, Some, Ok, Err}
use Rattle.tag_step.specs.Answer.{Answer}
use Rattle.tag_step.specs.declared.Attr.TheVariants.{DoubleQ, SingleQ, Unquoted, Empty}
use Rattle.tag_step.specs.declared.AttrError.TheVariants.{ExpectedEq, ExpectedValue, UnquotedValue, ExpectedQuote, Duplicated, KeyTableFull, BadState}
use Rattle.tag_step.specs.declared.IterState.{IterState}
use Rattle.tag_step.specs.Numbers.{numbers_of}
use Rattle.tag_step.specs.Run.{run_of}
use Rattle.tag_step.proofs.Good.{Sized}
use Rattle.tag_step.specs.declared.Place.{Place}
use Rattle.tag_step.specs.Next.{lent_state}
use Rattle.scan.specs.Lists.{over}
use Rattle.tag_batch.specs.Batch.{five_of, fives_of, answers_room, Batched, batched, batch_of}
use Rattle.std.specs.Prelude.{Result}
use Rattle.tag_batch.specs.declared.BatchRead.{BatchRead}
use Rattle.tag_batch.specs.declared.WrongTables.{WrongTables}
use Rattle.tag_batch.proofs.Full.{full_batch}
use Rattle.tag_batch.proofs.Turns.{five_length}
use Rattle.lines.specs.Lines.{lines_of, values_of, own_of, five_lines, lines_in}
use Rattle.lines.specs.Page.{answers_count, PageLeft, page_left, lines_by, page_by, page_of}
use Rattle.lines.specs.declared.Paged.{Paged}
use Rattle.lines.proofs.Text.{lines_room}
use Rattle.lines.proofs.Batches.{fives_length, run_most, read_front}

-- the zeros behind an answer's numbers are left out
pub own_numbers : (a : Answer) → own_of (five_of a) ≡ numbers_of a
unfolding own_of values_of five_of numbers_of
own_numbers None = refl
own_numbers (Some (Ok (DoubleQ k v))) = refl
own_numbers (Some (Ok (SingleQ k v))) = refl
own_numbers (Some (Ok (Unquoted k v))) = refl
own_numbers (Some (Ok (Empty k))) = refl
own_numbers (Some (Err (ExpectedEq p))) = refl
own_numbers (Some (Err (ExpectedValue l))) = refl
own_numbers (Some (Err (UnquotedValue p))) = refl
own_numbers (Some (Err (ExpectedQuote l q))) = refl
own_numbers (Some (Err (Duplicated this earlier))) = refl
own_numbers (Some (Err (KeyTableFull this))) = refl
own_numbers (Some (Err BadState)) = refl

pub fives_text : (l : List Answer) → five_lines (length l) (fives_of l) ≡ lines_of l
unfolding five_lines fives_of lines_of
fives_text [] = refl
fives_text (a ∷ l) =
    rw (take_at (five_of a) (fives_of l) 5 (five_length a), drop_at (five_of a) (fives_of l) 5 (five_length a), own_numbers a, fives_text l)

-- With room for 107 bytes an answer, a page is the lines of the next answers of the run.
pub page_lines : (s : List ℕ) (place : Place) (html checks : Bool) (starts ends hashes : List ℕ) (count : ℕ) (numbers text : List ℕ) →
    let st = lent_state place html checks starts ends hashes count in
    Sized st → 107 * answers_room numbers ≤ length text → lines_by (batch_of s st numbers) text ≡ lines_of (run_of (answers_room numbers) s st)
unfolding lines_by
page_lines s place html checks starts ends hashes count numbers text z h =
    let st = lent_state place html checks starts ends hashes count in
    let l : List Answer = run_of (answers_room numbers) s st in
    let many = fives_length l in
    let few = run_most (answers_room numbers) s st in
    let n : length (fives_of l) / 5 ≡ length l = omega arith in
    let front : take (5 * answers_count (batch_of s st numbers).batch) (batch_of s st numbers).out ≡ fives_of l = rw (full_batch s st numbers z) (read_front s place html checks starts ends hashes count numbers z (sym (full_batch s st numbers z)) refl) in
    rw (front, lines_room (fives_of l) text (omega arith), n, fives_text l)

-- what a page leaves, part by part
module _ (s : List ℕ) (st : IterState) (numbers text : List ℕ) {p : Paged} {starts' ends' hashes' numbers' text' : List ℕ} (e : page_left p starts' ends' hashes' numbers' text' ≡ page_of s st numbers text) where
  pub page_batch : batched p.left starts' ends' hashes' numbers' ≡ batch_of s st numbers
  unfolding page_of page_by
  page_batch = ap (λ (x : PageLeft). x.batch) e

  pub page_length : p.length ≡ length (lines_by (batch_of s st numbers) text)
  unfolding page_of page_by
  page_length = ap (λ (x : PageLeft). x.length) e

  pub page_text : text' ≡ over text 0 (lines_by (batch_of s st numbers) text)
  unfolding page_of page_by
  page_text = ap (λ (x : PageLeft). x.text) e

-- what the code makes
pub page_is : (s : List ℕ) (st : IterState) (numbers text : List ℕ) (left : Result BatchRead WrongTables) (starts' ends' hashes' numbers' text' : List ℕ) (k len : ℕ) → batched left starts' ends' hashes' numbers' ≡ batch_of s st numbers → k ≡ answers_count left → len ≡ length (lines_in (take (5 * k) numbers') text) → text' ≡ over text 0 (lines_in (take (5 * k) numbers') text) → page_left (record { left = left; length = len }) starts' ends' hashes' numbers' text' ≡ page_of s st numbers text
unfolding page_of page_by lines_by
page_is s st numbers text left starts' ends' hashes' numbers' text' k len e ek el et = rw (el, et, ek) (ap (λ (x : Batched). page_by x text) e)
