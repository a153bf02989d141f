-- Tags in pieces: each public contract of crates `tag_look`, `tag_phase`, `tag_pieces`, `tag_takes`, `reader`, `reader_in_place`, `replay_pieces` and `export_pieces` leaves one answer, and one content of what is lent to it.
use mathlib.Core.Path.{◌≡◌, refl, sym, ap, ◌∙◌}
use mathlib.Core.List.{List}
use Prim.Native.Nat.{ℕ}
use seplogic.Ra.Ura.{Ura}
use base.Logic.{SProp}
use prog.Memory.{Memory}
use prog.Routine.{Routine}
use types.Logic.{Logic}
use contract.Monad.{Fun}
use Rattle.std.specs.Prelude.{None, Some, Result, Ok, Err}
use Rattle.law_one_answer.specs.Settled.{Settled}
use Rattle.tag_pieces.specs.declared.Reader.{Reader}
use Rattle.tag_pieces.specs.declared.Cursor.{Cursor}
use Rattle.tag_pieces.specs.declared.Growth.{Growth}
use Rattle.tag_pieces.specs.declared.Feeding.{Feeding}
use Rattle.tag_pieces.specs.declared.Take.{Take}
use Rattle.tag_pieces.specs.Reader.{Grown, feeding, took}
use Rattle.tag_takes.specs.declared.TakesRead.{TakesRead}
use Rattle.tag_takes.specs.declared.WrongLength.{WrongLength}
use Rattle.tag_takes.specs.Takes.{Counted, TakeEnd, took_end}
use Rattle.reader.specs.Numbers.{numbered_feeding, numbered_take}
use Rattle.reader.proofs.Numbers.{feeding_apart, take_apart}
use Rattle.export_pieces.specs.Pieces.{PieceEnd, FinishEnd, AnswersEnd}
use Rattle.law_one_answer.proofs.Ends.{follows, alone, read_off, by_numbers}
use Rattle.tag_look.specs.contracts.check_in as tag-look·check-in
use Rattle.tag_look.specs.contracts.look_in as tag-look·look-in
use Rattle.tag_phase.specs.contracts.carry as tag-phase·carry
use Rattle.tag_phase.specs.contracts.waits as tag-phase·waits
use Rattle.tag_pieces.specs.contracts.fed_number as tag-pieces·fed-number
use Rattle.tag_pieces.specs.contracts.accepted as tag-pieces·accepted
use Rattle.tag_pieces.specs.contracts.piece_in as tag-pieces·piece-in
use Rattle.tag_takes.specs.contracts.take_in as tag-takes·take-in
use Rattle.reader.specs.contracts.new as reader·new
use Rattle.reader.specs.contracts.with_checks as reader·with-checks
use Rattle.reader.specs.contracts.piece as reader·piece
use Rattle.reader.specs.contracts.finish as reader·finish
use Rattle.reader.specs.contracts.take as reader·take
use Rattle.reader_in_place.specs.contracts.piece as reader-in-place·piece
use Rattle.reader_in_place.specs.contracts.finish as reader-in-place·finish
use Rattle.reader_in_place.specs.contracts.take as reader-in-place·take
use Rattle.replay_pieces.specs.contracts.piece as replay-pieces·piece
use Rattle.replay_pieces.specs.contracts.finish as replay-pieces·finish
use Rattle.replay_pieces.specs.contracts.take as replay-pieces·take
use Rattle.export_pieces.specs.contracts.mz_piece as export-pieces·mz-piece
use Rattle.export_pieces.specs.contracts.mz_finish as export-pieces·mz-finish
use Rattle.export_pieces.specs.contracts.mz_take as export-pieces·mz-take

-- what a piece on lent text hands back, read off what the contract states
abbrev growth_of : Grown → Growth
growth_of x = record { fed = x.fed; held = x.held; phase = x.phase }

-- what a reader has beside its text and its tables
abbrev cursor_of : Reader → Cursor
cursor_of r =
    record {
      place = r.place;
      html = r.html;
      checks = r.check_duplicates;
      count = r.count;
      held = r.held;
      finished = r.finished;
      phase = r.phase;
    }

abbrev took_by : Counted → Reader → Result TakesRead WrongLength
took_by (Some (n, why)) r = Ok (record { answers = n; cursor = cursor_of r; why = why })
took_by None r = Err (record {})

-- many answers in one call: what is handed back, the three tables, and the output
abbrev TakeRead : Type 0
TakeRead = Result TakesRead WrongLength × List ℕ × List ℕ × List ℕ × List ℕ

abbrev take_read : TakeEnd → TakeRead
take_read x = (took_by x.counted x.reader, x.reader.starts, x.reader.ends, x.reader.hashes, x.out)

take_read_lem : (r : Result TakesRead WrongLength) (at : Cursor) (text starts ends hashes out : List ℕ) → take_read (took_end r at text starts ends hashes out) ≡ (r, starts, ends, hashes, out)
take_read_lem (Ok x) at text starts ends hashes out = refl
take_read_lem (Err e) at text starts ends hashes out = refl

-- two calls of which the contract states the same
take_same : (r r' : Result TakesRead WrongLength) (at : Cursor) (text : List ℕ) {starts ends hashes out starts' ends' hashes' out' : List ℕ} {x : TakeEnd} → took_end r at text starts ends hashes out ≡ x → took_end r' at text starts' ends' hashes' out' ≡ x → ◌≡◌ {A = TakeRead} (r, starts, ends, hashes, out) (r', starts', ends', hashes', out')
take_same r r' at text {starts} {ends} {hashes} {out} {starts'} {ends'} {hashes'} {out'} p q =
    sym (take_read_lem r at text starts ends hashes out) ∙ ap take_read (p ∙ sym q) ∙ take_read_lem r' at text starts' ends' hashes' out'

module _ {M : Type 1} {𝓤 : Ura M} (𝓛 : Logic 𝓤) (mem : Memory → SProp 𝓤) (run : Routine → Fun 𝓤) where
  pub tag_look_check_in : Settled 𝓤 tag-look·check-in.ended (tag-look·check-in.clauses 𝓛 mem run)
  tag_look_check_in κs a g y z = alone 𝓤 _ y z refl

  pub tag_look_look_in : Settled 𝓤 tag-look·look-in.ended (tag-look·look-in.clauses 𝓛 mem run)
  tag_look_look_in κs a g y z = alone 𝓤 _ y z refl

  pub tag_phase_carry : Settled 𝓤 tag-phase·carry.ended (tag-phase·carry.clauses 𝓛 mem run)
  tag_phase_carry κs a g y z = alone 𝓤 _ y z refl

  pub tag_phase_waits : Settled 𝓤 tag-phase·waits.ended (tag-phase·waits.clauses 𝓛 mem run)
  tag_phase_waits κs a g y z = alone 𝓤 _ y z refl

  pub tag_pieces_fed_number : Settled 𝓤 tag-pieces·fed-number.ended (tag-pieces·fed-number.clauses 𝓛 mem run)
  tag_pieces_fed_number κs a g y z = alone 𝓤 _ y z refl

  pub tag_pieces_accepted : Settled 𝓤 tag-pieces·accepted.ended (tag-pieces·accepted.clauses 𝓛 mem run)
  tag_pieces_accepted κs a g y z = alone 𝓤 _ y z refl

  pub tag_pieces_piece_in : Settled 𝓤 tag-pieces·piece-in.ended (tag-pieces·piece-in.clauses 𝓛 mem run)
  tag_pieces_piece_in κs a g y z = read_off 𝓤 (λ (x : Grown). (growth_of x, (x.text, (tt, (tt, tt)))))

  pub tag_takes_take_in : Settled 𝓤 tag-takes·take-in.ended (tag-takes·take-in.clauses 𝓛 mem run)
  tag_takes_take_in κs a g y z = follows 𝓤 (λ p q. ap (λ (x : TakeRead). (x.0, (tt, (x.1, (x.2, (x.3, (tt, (x.4, tt)))))))) (take_same y.0 z.0 _ _ p q))

  pub reader_new : Settled 𝓤 reader·new.ended (reader·new.clauses 𝓛 mem run)
  reader_new κs a g y z = alone 𝓤 _ y z refl

  pub reader_with_checks : Settled 𝓤 reader·with-checks.ended (reader·with-checks.clauses 𝓛 mem run)
  reader_with_checks κs a g y z = alone 𝓤 _ y z refl

  pub reader_piece : Settled 𝓤 reader·piece.ended (reader·piece.clauses 𝓛 mem run)
  reader_piece κs a g y z = by_numbers 𝓤 numbered_feeding feeding_apart (λ (x : Feeding). (x, y.1)) y.0 z.0

  pub reader_finish : Settled 𝓤 reader·finish.ended (reader·finish.clauses 𝓛 mem run)
  reader_finish κs a g y z = by_numbers 𝓤 numbered_feeding feeding_apart (λ (x : Feeding). (x, y.1)) y.0 z.0

  pub reader_take : Settled 𝓤 reader·take.ended (reader·take.clauses 𝓛 mem run)
  reader_take κs a g y z = by_numbers 𝓤 numbered_take take_apart (λ (x : Take). (x, y.1)) y.0 z.0

  pub reader_in_place_piece : Settled 𝓤 reader-in-place·piece.ended (reader-in-place·piece.clauses 𝓛 mem run)
  reader_in_place_piece κs a g y z = by_numbers 𝓤 numbered_feeding feeding_apart (λ (x : Feeding). (x.fed, (x.reader, (tt, tt)))) (feeding y.0 y.1.0) (feeding z.0 z.1.0)

  pub reader_in_place_finish : Settled 𝓤 reader-in-place·finish.ended (reader-in-place·finish.clauses 𝓛 mem run)
  reader_in_place_finish κs a g y z = by_numbers 𝓤 numbered_feeding feeding_apart (λ (x : Feeding). (x.fed, (x.reader, tt))) (feeding y.0 y.1.0) (feeding z.0 z.1.0)

  pub reader_in_place_take : Settled 𝓤 reader-in-place·take.ended (reader-in-place·take.clauses 𝓛 mem run)
  reader_in_place_take κs a g y z = by_numbers 𝓤 numbered_take take_apart (λ (x : Take). (x.taken, (x.reader, tt))) (took y.0 y.1.0) (took z.0 z.1.0)

  pub replay_pieces_piece : Settled 𝓤 replay-pieces·piece.ended (replay-pieces·piece.clauses 𝓛 mem run)
  replay_pieces_piece κs a g y z = alone 𝓤 _ y z refl

  pub replay_pieces_finish : Settled 𝓤 replay-pieces·finish.ended (replay-pieces·finish.clauses 𝓛 mem run)
  replay_pieces_finish κs a g y z = alone 𝓤 _ y z refl

  pub replay_pieces_take : Settled 𝓤 replay-pieces·take.ended (replay-pieces·take.clauses 𝓛 mem run)
  replay_pieces_take κs a g y z = alone 𝓤 _ y z refl

  pub export_pieces_mz_piece : Settled 𝓤 export-pieces·mz-piece.ended (export-pieces·mz-piece.clauses 𝓛 mem run)
  export_pieces_mz_piece κs a g y z = read_off 𝓤 (λ (x : PieceEnd). (x.code, (x.text, (x.reader, (tt, tt)))))

  pub export_pieces_mz_finish : Settled 𝓤 export-pieces·mz-finish.ended (export-pieces·mz-finish.clauses 𝓛 mem run)
  export_pieces_mz_finish κs a g y z = read_off 𝓤 (λ (x : FinishEnd). (x.code, (x.reader, tt)))

  pub export_pieces_mz_take : Settled 𝓤 export-pieces·mz-take.ended (export-pieces·mz-take.clauses 𝓛 mem run)
  export_pieces_mz_take κs a g y z = read_off 𝓤 (λ (x : AnswersEnd). (x.answers, (tt, (x.starts, (x.ends, (x.hashes, (x.reader, (tt, (tt, (x.out, tt))))))))))
