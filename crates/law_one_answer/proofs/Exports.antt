-- The lines that programs print, and the static library's exports: each public contract of crates `replay`, `lines`, `mezzulidda`, `export_memory`, `export_scopes`, `export_lookups`, `export_names` and `export_nil` leaves one answer, and one content of what is lent to it.
use mathlib.Core.Path.{refl, sym, ap, ◌∙◌}
use seplogic.Ra.Ura.{Ura}
use base.Logic.{SProp}
use prog.Memory.{Memory}
use prog.Routine.{Routine}
use types.Logic.{Logic}
use contract.Monad.{Fun}
use Rattle.law_one_answer.specs.Settled.{Settled}
use Rattle.lines.specs.declared.Paged.{Paged}
use Rattle.lines.specs.Page.{PageLeft}
use Rattle.export_tags.specs.Reading.{BatchEnd as Batch-reading}
use Rattle.export_memory.specs.Boundary.{Crossed, Asked}
use Rattle.export_nil.specs.Search.{NilEnd}
use Rattle.export_names.specs.Names.{Names}
use Rattle.law_one_answer.proofs.Ends.{follows, together, alone, read_off}
use Rattle.replay.specs.contracts.wide as replay·wide
use Rattle.replay.specs.contracts.two_at as replay·two-at
use Rattle.replay.specs.contracts.number_at as replay·number-at
use Rattle.replay.specs.contracts.is_two as replay·is-two
use Rattle.replay.specs.contracts.is_byte as replay·is-byte
use Rattle.replay.specs.contracts.same_numbers as replay·same-numbers
use Rattle.replay.specs.contracts.begun as replay·begun
use Rattle.replay.specs.contracts.after as replay·after
use Rattle.lines.specs.contracts.put_lines as lines·put-lines
use Rattle.lines.specs.contracts.answers as lines·answers
use Rattle.lines.specs.contracts.page as lines·page
use Rattle.export_tags.specs.contracts.mz_split as export-tags·mz-split
use Rattle.export_tags.specs.contracts.mz_declares as export-tags·mz-declares
use Rattle.export_tags.specs.contracts.mz_is_xml as export-tags·mz-is-xml
use Rattle.export_tags.specs.contracts.mz_is_xmlns as export-tags·mz-is-xmlns
use Rattle.export_tags.specs.contracts.mz_verdict as export-tags·mz-verdict
use Rattle.export_tags.specs.contracts.mz_read_batch as export-tags·mz-read-batch
use Rattle.export_memory.specs.contracts.head_from as export-memory·head-from
use Rattle.export_memory.specs.contracts.tell as export-memory·tell
use Rattle.export_memory.specs.contracts.left_head as export-memory·left-head
use Rattle.export_memory.specs.contracts.left as export-memory·left
use Rattle.export_scopes.specs.contracts.mz_layout as export-scopes·mz-layout
use Rattle.export_scopes.specs.contracts.mz_fresh as export-scopes·mz-fresh
use Rattle.export_scopes.specs.contracts.mz_push as export-scopes·mz-push
use Rattle.export_scopes.specs.contracts.mz_pop as export-scopes·mz-pop
use Rattle.export_scopes.specs.contracts.mz_set_level as export-scopes·mz-set-level
use Rattle.export_scopes.specs.contracts.mz_add as export-scopes·mz-add
use Rattle.export_lookups.specs.contracts.mz_resolve as export-lookups·mz-resolve
use Rattle.export_lookups.specs.contracts.mz_binding as export-lookups·mz-binding
use Rattle.export_lookups.specs.contracts.mz_binding_of as export-lookups·mz-binding-of
use Rattle.export_names.specs.contracts.mz_resolve_all as export-names·mz-resolve-all
use Rattle.export_nil.specs.contracts.mz_as_bool as export-nil·mz-as-bool
use Rattle.export_nil.specs.contracts.mz_has_nil as export-nil·mz-has-nil

-- what a page hands back, read off what the contract states
abbrev paged : PageLeft → Paged
paged x = record { left = x.batch.batch; length = x.length }

module _ {M : Type 1} {𝓤 : Ura M} (𝓛 : Logic 𝓤) (mem : Memory → SProp 𝓤) (run : Routine → Fun 𝓤) where
  pub replay_wide : Settled 𝓤 replay·wide.ended (replay·wide.clauses 𝓛 mem run)
  replay_wide κs a g y z = alone 𝓤 _ y z refl

  pub replay_two_at : Settled 𝓤 replay·two-at.ended (replay·two-at.clauses 𝓛 mem run)
  replay_two_at κs a g y z = alone 𝓤 _ y z refl

  pub replay_number_at : Settled 𝓤 replay·number-at.ended (replay·number-at.clauses 𝓛 mem run)
  replay_number_at κs a g y z = alone 𝓤 _ y z refl

  pub replay_is_two : Settled 𝓤 replay·is-two.ended (replay·is-two.clauses 𝓛 mem run)
  replay_is_two κs a g y z = alone 𝓤 _ y z refl

  pub replay_is_byte : Settled 𝓤 replay·is-byte.ended (replay·is-byte.clauses 𝓛 mem run)
  replay_is_byte κs a g y z = alone 𝓤 _ y z refl

  pub replay_same_numbers : Settled 𝓤 replay·same-numbers.ended (replay·same-numbers.clauses 𝓛 mem run)
  replay_same_numbers κs a g y z = alone 𝓤 _ y z refl

  pub replay_begun : Settled 𝓤 replay·begun.ended (replay·begun.clauses 𝓛 mem run)
  replay_begun κs a g y z = alone 𝓤 _ y z refl

  pub replay_after : Settled 𝓤 replay·after.ended (replay·after.clauses 𝓛 mem run)
  replay_after κs a g y z = alone 𝓤 _ y z refl

  pub lines_put_lines : Settled 𝓤 lines·put-lines.ended (lines·put-lines.clauses 𝓛 mem run)
  lines_put_lines κs a g y z = follows 𝓤 (λ p q. together y z (p.0 ∙ sym q.0) (together y.1 z.1 refl (together y.1.1 z.1.1 (p.1 ∙ sym q.1) refl)))

  pub lines_answers : Settled 𝓤 lines·answers.ended (lines·answers.clauses 𝓛 mem run)
  lines_answers κs a g y z = alone 𝓤 _ y z refl

  pub lines_page : Settled 𝓤 lines·page.ended (lines·page.clauses 𝓛 mem run)
  lines_page κs a g y z = read_off 𝓤 (λ (x : PageLeft). (paged x, (tt, (x.batch.starts, (x.batch.ends, (x.batch.hashes, (tt, (x.batch.out, (x.text, tt)))))))))

  pub export_tags_mz_split : Settled 𝓤 export-tags·mz-split.ended (export-tags·mz-split.clauses 𝓛 mem run)
  export_tags_mz_split κs a g y z = alone 𝓤 _ y z refl

  pub export_tags_mz_declares : Settled 𝓤 export-tags·mz-declares.ended (export-tags·mz-declares.clauses 𝓛 mem run)
  export_tags_mz_declares κs a g y z = alone 𝓤 _ y z refl

  pub export_tags_mz_is_xml : Settled 𝓤 export-tags·mz-is-xml.ended (export-tags·mz-is-xml.clauses 𝓛 mem run)
  export_tags_mz_is_xml κs a g y z = alone 𝓤 _ y z refl

  pub export_tags_mz_is_xmlns : Settled 𝓤 export-tags·mz-is-xmlns.ended (export-tags·mz-is-xmlns.clauses 𝓛 mem run)
  export_tags_mz_is_xmlns κs a g y z = alone 𝓤 _ y z refl

  pub export_tags_mz_verdict : Settled 𝓤 export-tags·mz-verdict.ended (export-tags·mz-verdict.clauses 𝓛 mem run)
  export_tags_mz_verdict κs a g y z = alone 𝓤 _ y z refl

  pub export_tags_mz_read_batch : Settled 𝓤 export-tags·mz-read-batch.ended (export-tags·mz-read-batch.clauses 𝓛 mem run)
  export_tags_mz_read_batch κs a g y z = read_off 𝓤 (λ (x : Batch-reading). (x.answers, (tt, (x.starts, (x.ends, (x.hashes, (x.state, (tt, (tt, (x.out, tt))))))))))

  pub export_memory_head_from : Settled 𝓤 export-memory·head-from.ended (export-memory·head-from.clauses 𝓛 mem run)
  export_memory_head_from κs a g y z = alone 𝓤 _ y z refl

  pub export_memory_tell : Settled 𝓤 export-memory·tell.ended (export-memory·tell.clauses 𝓛 mem run)
  export_memory_tell κs a g y z = read_off 𝓤 (λ (x : Asked). (x.result, (x.detail, (tt, tt))))

  pub export_memory_left_head : Settled 𝓤 export-memory·left-head.ended (export-memory·left-head.clauses 𝓛 mem run)
  export_memory_left_head κs a g y z = follows 𝓤 (λ p q. together y z (p.0 ∙ sym q.0) (together y.1 z.1 (p.1 ∙ sym q.1) refl))

  pub export_memory_left : Settled 𝓤 export-memory·left.ended (export-memory·left.clauses 𝓛 mem run)
  export_memory_left κs a g y z = follows 𝓤 (λ p q. together y z (ap (λ (x : Asked). x.result) (p.0 ∙ sym q.0)) (together y.1 z.1 (p.1 ∙ sym q.1) (together y.1.1 z.1.1 (ap (λ (x : Asked). x.detail) (p.0 ∙ sym q.0)) refl)))

  pub export_scopes_mz_layout : Settled 𝓤 export-scopes·mz-layout.ended (export-scopes·mz-layout.clauses 𝓛 mem run)
  export_scopes_mz_layout κs a g y z = alone 𝓤 _ y z refl

  pub export_scopes_mz_fresh : Settled 𝓤 export-scopes·mz-fresh.ended (export-scopes·mz-fresh.clauses 𝓛 mem run)
  export_scopes_mz_fresh κs a g y z = read_off 𝓤 (λ (x : Crossed). (x.result, (x.text, (x.records, (x.head, tt)))))

  pub export_scopes_mz_push : Settled 𝓤 export-scopes·mz-push.ended (export-scopes·mz-push.clauses 𝓛 mem run)
  export_scopes_mz_push κs a g y z = read_off 𝓤 (λ (x : Crossed). (x.result, (x.text, (x.records, (x.head, (tt, (tt, (x.detail, tt))))))))

  pub export_scopes_mz_pop : Settled 𝓤 export-scopes·mz-pop.ended (export-scopes·mz-pop.clauses 𝓛 mem run)
  export_scopes_mz_pop κs a g y z = read_off 𝓤 (λ (x : Crossed). (x.result, (x.text, (x.records, (x.head, tt)))))

  pub export_scopes_mz_set_level : Settled 𝓤 export-scopes·mz-set-level.ended (export-scopes·mz-set-level.clauses 𝓛 mem run)
  export_scopes_mz_set_level κs a g y z = read_off 𝓤 (λ (x : Crossed). (x.result, (x.text, (x.records, (x.head, (tt, tt))))))

  pub export_scopes_mz_add : Settled 𝓤 export-scopes·mz-add.ended (export-scopes·mz-add.clauses 𝓛 mem run)
  export_scopes_mz_add κs a g y z = read_off 𝓤 (λ (x : Crossed). (x.result, (x.text, (x.records, (x.head, (tt, (tt, (tt, (x.detail, tt)))))))))

  pub export_lookups_mz_resolve : Settled 𝓤 export-lookups·mz-resolve.ended (export-lookups·mz-resolve.clauses 𝓛 mem run)
  export_lookups_mz_resolve κs a g y z = read_off 𝓤 (λ (x : Asked). (x.result, (tt, (tt, (tt, (tt, (tt, (x.detail, tt))))))))

  pub export_lookups_mz_binding : Settled 𝓤 export-lookups·mz-binding.ended (export-lookups·mz-binding.clauses 𝓛 mem run)
  export_lookups_mz_binding κs a g y z = read_off 𝓤 (λ (x : Asked). (x.result, (tt, (tt, (tt, (tt, (x.detail, tt)))))))

  pub export_lookups_mz_binding_of : Settled 𝓤 export-lookups·mz-binding-of.ended (export-lookups·mz-binding-of.clauses 𝓛 mem run)
  export_lookups_mz_binding_of κs a g y z = read_off 𝓤 (λ (x : Asked). (x.result, (tt, (tt, (tt, (tt, (tt, (x.detail, tt))))))))

  pub export_names_mz_resolve_all : Settled 𝓤 export-names·mz-resolve-all.ended (export-names·mz-resolve-all.clauses 𝓛 mem run)
  export_names_mz_resolve_all κs a g y z = read_off 𝓤 (λ (x : Names). (x.result, (tt, (tt, (tt, (tt, (tt, (tt, (tt, (x.kinds, (x.begins, (x.ends, tt))))))))))))

  pub export_nil_mz_as_bool : Settled 𝓤 export-nil·mz-as-bool.ended (export-nil·mz-as-bool.clauses 𝓛 mem run)
  export_nil_mz_as_bool κs a g y z = alone 𝓤 _ y z refl

  pub export_nil_mz_has_nil : Settled 𝓤 export-nil·mz-has-nil.ended (export-nil·mz-has-nil.clauses 𝓛 mem run)
  export_nil_mz_has_nil κs a g y z = read_off 𝓤 (λ (x : NilEnd). (x.result, (tt, (tt, (tt, (tt, (x.starts, (x.ends, (x.hashes, (x.state, (tt, (tt, tt))))))))))))
