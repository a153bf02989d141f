-- One turn of showing: the page that is made is the next 256 answers' lines, so it comes next; after it the reader stands
-- behind them, or all is written.
use Prim.Native.Nat.{ℕ, suc, ◌+◌, ◌-◌, ◌*◌, ◌≤◌, ◌<◌}
use mathlib.Core.Path.{◌≡◌, ap, ◌∙◌}
use mathlib.Core.Bool.{true, false}
use mathlib.Core.List.{List}
use native.Mathlib.Omega.{arith}
use lib.ListN.{length, take}
use Rattle.std.specs.Prelude.{Ok, Err}
use Rattle.scan.specs.Lists.{over}
use Rattle.scan.proofs.Lists.{over_length}
use Rattle.tag_step.specs.declared.Place.{Place}
use Rattle.tag_step.specs.declared.Place.TheVariants.{Next}
use Rattle.tag_step.specs.declared.IterState.{IterState}
use Rattle.tag_step.specs.Next.{lent_state, no_keys, opened}
use Rattle.tag_step.specs.Run.{run_of}
use Rattle.tag_step.proofs.Good.{opened_sized}
use Rattle.tag_batch.specs.declared.BatchRead.{BatchRead}
use Rattle.tag_batch.specs.declared.WrongTables.{WrongTables}
use Rattle.tag_batch.specs.declared.Why.{Why}
use Rattle.tag_batch.specs.Batch.{answers_room, batched, batch_of, left_of}
use Rattle.lines.specs.Lines.{lines_of}
use Rattle.lines.specs.declared.Paged.{Paged}
use Rattle.lines.specs.Page.{page_left, lines_by, page_of}
use Rattle.lines.proofs.Pages.{page_lines, page_batch, page_length, page_text}
use Rattle.lines.proofs.Batches.{Stand, stand_first, stand_next, stand_bound, run_most, never_wrong, read_count, read_left}
use Rattle.attrs.specs.Output.{output_of, ComesNext, ToShow}
use Rattle.attrs.proofs.Turn.{room, total_fits}
use Rattle.attrs.proofs.Written.{fresh, Shown, shown_none, page_next, shown_within, shown_more, shown_all, front_is, page_fits}

-- before a turn: `shown` answers are shown, and the reader stands behind them
pub record Showing (s numbers text : List ℕ) (written shown : ℕ) (st : IterState) : Type 0 where
  pub stand : Stand s fresh shown st
  pub done : Shown s shown written
  pub room : answers_room numbers ≡ 256
  pub lines : 107 * 256 ≤ length text
  pub short : length s ≤ 65536

-- none are shown yet
pub showing_none : (s starts ends hashes numbers text : List ℕ) (written : ℕ) → ToShow s starts ends hashes numbers text written → Showing s numbers text written 0 (lent_state (Next 0) false true starts ends hashes 0)
unfolding opened no_keys
showing_none s starts ends hashes numbers text written to =
    record {
      stand = rw (to.fresh.0, to.fresh.1, to.fresh.2) (stand_first s fresh (opened_sized 0 false true));
      done = shown_none s written to.counted.count;
      room = to.lent.room;
      lines = to.room;
      short = to.counted.short;
    }

module _ (s : List ℕ) (place : Place) (starts ends hashes : List ℕ) (recorded : ℕ) (numbers text : List ℕ) (written shown : ℕ)
    (h : Showing s numbers text written shown (lent_state place false true starts ends hashes recorded)) where
  abbrev stood : IterState
  stood = lent_state place false true starts ends hashes recorded

  abbrev page : List ℕ
  page = lines_of (run_of 256 s stood)

  -- what is written is of the output
  pub written_within : written ≤ length (output_of s)
  written_within = shown_within s shown stood h.stand written h.done 256

  page_is : lines_by (batch_of s stood numbers) text ≡ page
  page_is =
      page_lines s place false true starts ends hashes recorded numbers text h.stand.sized (omega (arith, h.room, h.lines))
      ∙ ap (λ (m : ℕ). lines_of (run_of m s stood)) h.room

  module _ {p : Paged} {starts' ends' hashes' numbers' made : List ℕ} (e : page_left p starts' ends' hashes' numbers' made ≡ page_of s stood numbers text) where
    abbrev size : ℕ
    size = p.length

    size_is : size ≡ length page
    size_is = page_length s stood numbers text e ∙ ap length page_is

    made_is : made ≡ over text 0 page
    made_is = page_text s stood numbers text e ∙ ap (over text 0) page_is

    pub made_length : length made ≡ length text
    made_length = rw made_is (over_length text 0 page (omega (arith, page_fits s stood text h.lines)))

    pub turn_fits : size ≤ length made
    turn_fits = omega (arith, size_is, made_length, page_fits s stood text h.lines)

    front : take size made ≡ page
    front = rw made_is (front_is text page size_is)

    pub turn_next : ComesNext s written (take size made)
    turn_next = rw front (page_next s shown stood h.stand written h.done 256 h.short)

    module _ {wrote : ℕ} (ew : wrote ≡ written + length (take size made)) where
      wrote_is : wrote ≡ written + length page
      wrote_is = ew ∙ ap (λ (l : List ℕ). written + length l) front

      eb : batched p.left starts' ends' hashes' numbers' ≡ batch_of s stood numbers
      eb = page_batch s stood numbers text e

      pub turn_never : p.left ≡ Err (record {}) → ⊥
      turn_never = never_wrong s place false true starts ends hashes recorded numbers h.stand.sized eb

      module _ {x : BatchRead} (r : p.left ≡ Ok x) where
        count_is : x.answers ≡ length (run_of 256 s stood)
        count_is =
            read_count s place false true starts ends hashes recorded numbers h.stand.sized eb r
            ∙ ap (λ (m : ℕ). length (run_of m s stood)) h.room

        pub turn_last : x.answers < 256 → wrote ≡ length (output_of s)
        turn_last few = wrote_is ∙ shown_all s shown stood h.stand written h.done 256 (omega (arith, count_is))

        pub turn_adds : shown + x.answers ≤ suc (length s)
        turn_adds = omega (arith, count_is, total_fits s fresh shown stood h.stand 256)

        module _ (many : 256 ≤ x.answers) where
          full : x.answers ≡ 256
          full = omega (arith, count_is, run_most 256 s stood)

          stand_on : Stand s fresh (shown + 256) (left_of 256 s stood)
          stand_on = stand_next s fresh shown stood h.stand 256 (omega (arith, count_is, full))

          pub turn_less : length s + 1 - (shown + x.answers) < length s + 1 - shown
          turn_less = omega (arith, full, stand_bound s fresh (shown + 256) _ stand_on 0)

          pub turn_more : length numbers' ≡ length numbers → Showing s numbers' made wrote (shown + x.answers) (lent_state x.place false true starts' ends' hashes' x.count)
          turn_more size' =
              let left = read_left s place false true starts ends hashes recorded numbers h.stand.sized eb r ∙ ap (λ (m : ℕ). left_of m s stood) h.room in
              record {
                stand = rw (left, full) stand_on;
                done = rw (full, wrote_is) (shown_more s shown stood h.stand written h.done 256);
                room = room numbers' numbers size' h.room;
                lines = omega (arith, made_length, h.lines);
                short = h.short;
              }
