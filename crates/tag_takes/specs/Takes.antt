-- Many answers in one call: they are taken one by one, up to as many as a lent output holds.
use Rattle.std.specs.Prelude.{ℕ, zero, suc, Bool, not, ◌&&◌, List, [], ◌∷◌, length, eqb, leb, Option, None, Some, Result, Ok, Err}
use Rattle.scan.specs.First.{pick}
use Rattle.scan.specs.Lists.{over}
use Rattle.tag_step.specs.Answer.{Answer}
use Rattle.tag_step.specs.declared.IterState.{IterState}
use Rattle.tag_step.specs.declared.Place.{Place}
use Rattle.tag_step.specs.declared.Place.TheVariants.{Done}
use Rattle.tag_step.specs.Look.{look_next}
use Rattle.tag_step.specs.Lent.{whole_next, needs_more, stepped_of}
use Rattle.tag_step.specs.Run.{is_end}
use Rattle.tag_batch.specs.declared.Why.{Why}
use Rattle.tag_batch.specs.declared.Why.TheVariants.{OutFull, AtEnd, LendMore}
use Rattle.tag_batch.specs.Batch.{fives_of, answers_room, Ran, ran, ahead, Batched, batch_shown, tables_lent}
use Rattle.tag_phase.specs.declared.Phase.TheVariants.{Begin}
use Rattle.tag_pieces.specs.declared.Reader.{Reader}
use Rattle.tag_pieces.specs.declared.Cursor.{Cursor}
use Rattle.tag_pieces.specs.declared.MoreKeys.{MoreKeys}
use Rattle.tag_takes.specs.declared.TakesRead.{TakesRead}
use Rattle.tag_takes.specs.declared.WrongLength.{WrongLength}
use Rattle.tag_pieces.specs.Reader.{hold, iterator_of, take_of}

-- the answers, the reader that they leave, and why there are no more: the end is *more* while the tag is not finished
pub record Takes : Type 0 where
  pub answers : List Answer
  pub reader : Reader
  pub why : Why

abbrev pub takes : List Answer → Reader → Why → Takes
takes answers r why = record { answers = answers; reader = r; why = why }

-- one answer, and those after it
unfoldable pub takes_by : Result (Option Answer) MoreKeys → Reader → Takes → Takes
takes_by (Ok None) r rest = takes [] r AtEnd
takes_by (Err m) r rest = takes [] r LendMore
takes_by (Ok (Some a)) r rest = pick (is_end a) (takes [] r AtEnd) (takes (a ∷ rest.answers) rest.reader rest.why)

unfoldable pub takes_of : ℕ → Reader → Takes
takes_of zero r = takes [] r OutFull
takes_of (suc n) r = takes_by (take_of r).taken (take_of r).reader (takes_of n (take_of r).reader)

-- the reader in lent memory, of what it has beside that
abbrev pub lent_reader : Cursor → (text starts ends hashes : List ℕ) → Reader
lent_reader at text starts ends hashes =
    record {
      text = text;
      held = at.held;
      finished = at.finished;
      phase = at.phase;
      place = at.place;
      html = at.html;
      check_duplicates = at.checks;
      starts = starts;
      ends = ends;
      hashes = hashes;
      count = at.count;
    }

-- the same after so many answers, with the place and the recorded keys that they leave
unfoldable pub cursor_after : Cursor → ℕ → Place → ℕ → Cursor
cursor_after at n place count =
    record {
      place = place;
      html = at.html;
      checks = at.checks;
      count = count;
      held = at.held;
      finished = at.finished;
      phase = pick (eqb n 0) at.phase Begin;
    }

-- the same after 7
unfoldable pub emptied_at : Cursor → Cursor
emptied_at at =
    record {
      place = Done;
      html = at.html;
      checks = at.checks;
      count = 0;
      held = 0;
      finished = at.finished;
      phase = Begin;
    }

-- how many answers a call gives, and why no more; none where a length is wrong
abbrev pub Counted : Type 0
Counted = Option (ℕ × Why)

-- what is handed back, and the reader and the output then
pub record TakeEnd : Type 0 where
  pub counted : Counted
  pub reader : Reader
  pub out : List ℕ

abbrev pub take_end : Counted → Reader → List ℕ → TakeEnd
take_end counted r out = record { counted = counted; reader = r; out = out }

-- the same of what the code hands back, to a reader that stood so before
abbrev pub took_end : Result TakesRead WrongLength → Cursor → (text starts ends hashes out : List ℕ) → TakeEnd
took_end (Ok x) at text starts ends hashes out = take_end (Some (x.answers, x.why)) (lent_reader x.cursor text starts ends hashes) out
took_end (Err e) at text starts ends hashes out = take_end None (lent_reader at text starts ends hashes) out

-- text and tables are no longer than they can be
unfoldable pub lengths_lent : Reader → Bool
lengths_lent r = leb (length r.text) hold && tables_lent (iterator_of r)

unfoldable pub takes_shown : List ℕ → Takes → TakeEnd
takes_shown out x = take_end (Some (length x.answers, x.why)) x.reader (over out 0 (fives_of x.answers))

unfoldable pub take_all_of : Reader → List ℕ → TakeEnd
take_all_of r out = pick (lengths_lent r) (takes_shown out (takes_of (answers_room out) r)) (take_end None r out)

-- The next step of an iterator looks at or past the end of what is held. After the finish that is no matter.
unfoldable pub looks_past : Bool → List ℕ → IterState → Bool
looks_past finished s st = not finished && leb (length s) (look_next s st)

-- steps on a good iterator, up to one that is not ready
unfoldable pub ready_of : Bool → ℕ → List ℕ → IterState → Ran
ready_of finished zero s st = ran [] st OutFull
ready_of finished (suc n) s st =
    pick (looks_past finished s st) (ran [] st AtEnd)
    (pick (needs_more s st) (ran [] st LendMore)
    (pick (is_end (whole_next s st).answer) (ran [] (stepped_of s st) AtEnd)
    (ahead (whole_next s st).answer (ready_of finished n s (stepped_of s st)))))

-- a batch of them
abbrev pub ready_shown : Bool → List ℕ → IterState → List ℕ → Batched
ready_shown finished s st out = batch_shown out (ready_of finished (answers_room out) s st)
