-- What is read of a tag: each public contract of crates `scan`, `name`, `keys`, `attributes`, `parts`, `batch`, `held` and `cursor` leaves one answer, and one content of what is lent to it.
use mathlib.Core.Path.{◌≡◌, refl, sym, ap, ◌∙◌}
use mathlib.Core.Bool.{Bool}
use Rattle.std.proofs.Common.{Result, Option, Some, None}
use Rattle.scan.specs.First.{pick}
use seplogic.Ra.Ura.{Ura}
use base.Logic.{SProp}
use prog.Memory.{Memory}
use prog.Routine.{Routine}
use types.Logic.{Logic}
use contract.Monad.{Fun}
use Prim.Native.Nat.{ℕ}
use mathlib.Core.List.{List}
use lib.ListN.{get_or}
use Rattle.std.specs.Prelude.{Result}
use Rattle.law_one_answer.specs.Settled.{Settled, SettledAs}
use Rattle.name.specs.Bind.{named_numbers}
use Rattle.name.specs.declared.ReservedBinding.{ReservedBinding}
use Rattle.name.proofs.Verdicts.{named_apart}
use Rattle.tag_keys.specs.Keys.{checked_numbers}
use Rattle.tag_keys.specs.declared.KeyRefusal.{KeyRefusal}
use Rattle.tag_keys.proofs.Numbers.{checked_apart}
use Rattle.tag_step.specs.Numbers.{numbers_of, numbered_step}
use Rattle.tag_step.specs.Answer.{Answer}
use Rattle.tag_step.specs.declared.Step.{Step}
use Rattle.tag_step.proofs.Numbers.{numbers_apart, step_apart}
use Rattle.tag_step.specs.Next.{Reading}
use Rattle.tag_keys.specs.Sieve.{sieve_left}
use Rattle.tag_step.specs.Lent.{Taken, Took, Short, taken, kept_in}
use Rattle.tag_step.specs.declared.Advance.{Advance}
use Rattle.tag_batch.specs.Batch.{Batched}
use Rattle.tag_batch.specs.declared.Five.{Five}
use Rattle.law_one_answer.proofs.Ends.{follows, together, alone, read_off, by_numbers}
use Rattle.scan.specs.contracts.is_whitespace as scan·is-whitespace
use Rattle.scan.specs.contracts.ends_key as scan·ends-key
use Rattle.scan.specs.contracts.whitespace_from as scan·whitespace-from
use Rattle.scan.specs.contracts.content_from as scan·content-from
use Rattle.scan.specs.contracts.key_end_from as scan·key-end-from
use Rattle.scan.specs.contracts.byte_from as scan·byte-from
use Rattle.scan.specs.contracts.byte_near as scan·byte-near
use Rattle.scan.specs.contracts.twice_near as scan·twice-near
use Rattle.scan.specs.contracts.inside as scan·inside
use Rattle.scan.specs.contracts.same as scan·same
use Rattle.scan.specs.contracts.same_start as scan·same-start
use Rattle.scan.specs.contracts.put as scan·put
use Rattle.name.specs.contracts.declares_number as name·declares-number
use Rattle.name.specs.contracts.verdict_number as name·verdict-number
use Rattle.name.specs.contracts.colon_at as name·colon-at
use Rattle.name.specs.contracts.index as name·index
use Rattle.name.specs.contracts.prefix as name·prefix
use Rattle.name.specs.contracts.local_name as name·local-name
use Rattle.name.specs.contracts.second_at as name·second-at
use Rattle.name.specs.contracts.second_colon as name·second-colon
use Rattle.name.specs.contracts.decompose as name·decompose
use Rattle.name.specs.contracts.is_xml as name·is-xml
use Rattle.name.specs.contracts.is_xmlns as name·is-xmlns
use Rattle.name.specs.contracts.is_xml_uri as name·is-xml-uri
use Rattle.name.specs.contracts.is_xmlns_uri as name·is-xmlns-uri
use Rattle.name.specs.contracts.as_namespace_binding as name·as-namespace-binding
use Rattle.name.specs.contracts.declared_prefix as name·declared-prefix
use Rattle.name.specs.contracts.check_named as name·check-named
use Rattle.name.specs.contracts.verdict_named as name·verdict-named
use Rattle.name.specs.contracts.verdict_default as name·verdict-default
use Rattle.name.specs.contracts.verdict_of as name·verdict-of
use Rattle.tag_keys.specs.contracts.hash_for as tag-keys·hash-for
use Rattle.tag_keys.specs.contracts.sieve_kept as tag-keys·sieve-kept
use Rattle.tag_keys.specs.contracts.keys_good as tag-keys·keys-good
use Rattle.tag_keys.specs.contracts.holds as tag-keys·holds
use Rattle.tag_keys.specs.contracts.check_for_duplicates as tag-keys·check-for-duplicates
use Rattle.tag_keys.specs.contracts.check_unsifted as tag-keys·check-unsifted
use Rattle.tag_keys.specs.contracts.record_key as tag-keys·record-key
use Rattle.tag_step.specs.contracts.is_quote as tag-step·is-quote
use Rattle.tag_step.specs.contracts.recover as tag-step·recover
use Rattle.tag_step.specs.contracts.read_key as tag-step·read-key
use Rattle.tag_step.specs.contracts.good_in as tag-step·good-in
use Rattle.tag_step.specs.contracts.step_in as tag-step·step-in
use Rattle.tag_step.specs.contracts.step_unchecked as tag-step·step-unchecked
use Rattle.tag_step.specs.contracts.clear_keys as tag-step·clear-keys
use Rattle.tag_step.specs.contracts.IterState.new as tag-step·IterState·new
use Rattle.tag_step.specs.contracts.IterState.with_checks as tag-step·IterState·with-checks
use Rattle.tag_step.specs.contracts.IterState.next as tag-step·IterState·next
use Rattle.tag_parts.specs.contracts.truth_number as tag-parts·truth-number
use Rattle.tag_parts.specs.contracts.key_part as tag-parts·key-part
use Rattle.tag_parts.specs.contracts.value_part as tag-parts·value-part
use Rattle.tag_parts.specs.contracts.as_bool as tag-parts·as-bool
use Rattle.tag_batch.specs.contracts.Why.number as tag-batch·Why·number
use Rattle.tag_batch.specs.contracts.numbers as tag-batch·numbers
use Rattle.tag_batch.specs.contracts.put as tag-batch·put
use Rattle.tag_batch.specs.contracts.after_seven as tag-batch·after-seven
use Rattle.tag_batch.specs.contracts.tables_lent as tag-batch·tables-lent
use Rattle.tag_batch.specs.contracts.read_batch as tag-batch·read-batch
use Rattle.tag_carried.specs.contracts.Attributes.new as tag-carried·Attributes·new
use Rattle.tag_carried.specs.contracts.Attributes.html as tag-carried·Attributes·html
use Rattle.tag_carried.specs.contracts.Attributes.with_checks as tag-carried·Attributes·with-checks
use Rattle.tag_carried.specs.contracts.Attributes.next as tag-carried·Attributes·next
use Rattle.tag_carried.specs.contracts.Attributes.key as tag-carried·Attributes·key
use Rattle.tag_carried.specs.contracts.Attributes.value as tag-carried·Attributes·value
use Rattle.tag_carried.specs.contracts.first as tag-carried·first
use Rattle.export_cursor.specs.contracts.place_from as export-cursor·place-from
use Rattle.export_cursor.specs.contracts.kind_of as export-cursor·kind-of
use Rattle.export_cursor.specs.contracts.position_of as export-cursor·position-of
use Rattle.export_cursor.specs.contracts.same_place as export-cursor·same-place
use Rattle.export_cursor.specs.contracts.settle as export-cursor·settle

-- the outcome of a step on lent tables, read off what the contract states
abbrev outcome : Reading → Advance
outcome x = record { answer = x.answer; place = x.place; count = x.keys.count }

-- the same of a step that lacks a place: which of the two it is, and the tables
abbrev StepRead : Type 0
StepRead = Option Advance × List ℕ × List ℕ × List ℕ

abbrev step_read : Taken → StepRead
step_read (Took x) = (Some (outcome x), x.keys.starts, x.keys.ends, x.keys.hashes)
step_read (Short keys) = (None, keys.starts, keys.ends, keys.hashes)

step_read_lem : (r : Option Advance) (starts ends hashes : List ℕ) (count : ℕ) → step_read (taken r starts ends hashes count) ≡ (r, starts, ends, hashes)
step_read_lem (Some o) starts ends hashes count = refl
step_read_lem None starts ends hashes count = refl

-- two steps of which the contract states the same
step_same : (r r' : Option Advance) {starts ends hashes starts' ends' hashes' : List ℕ} (count : ℕ) {x : Taken} → taken r starts ends hashes count ≡ x → taken r' starts' ends' hashes' count ≡ x → ◌≡◌ {A = StepRead} (r, starts, ends, hashes) (r', starts', ends', hashes')
step_same r r' {starts} {ends} {hashes} {starts'} {ends'} {hashes'} count p q =
    sym (step_read_lem r starts ends hashes count) ∙ ap step_read (p ∙ sym q) ∙ step_read_lem r' starts' ends' hashes' count

-- the five numbers of an answer, read off the list that the contract states
abbrev five_of_list : List ℕ → Five
five_of_list l = record { code = get_or l 0 0; a = get_or l 1 0; b = get_or l 2 0; c = get_or l 3 0; d = get_or l 4 0 }

picks_alike : (b c : Bool) (x y : List ℕ) → b ≡ c → pick b x y ≡ pick c x y
picks_alike b c x y e = ap (λ (t : Bool). pick t x y) e

module _ {M : Type 1} {𝓤 : Ura M} (𝓛 : Logic 𝓤) (mem : Memory → SProp 𝓤) (run : Routine → Fun 𝓤) where
  pub scan_is_whitespace : Settled 𝓤 scan·is-whitespace.ended (scan·is-whitespace.clauses 𝓛 mem run)
  scan_is_whitespace κs a g y z = alone 𝓤 _ y z refl

  pub scan_ends_key : Settled 𝓤 scan·ends-key.ended (scan·ends-key.clauses 𝓛 mem run)
  scan_ends_key κs a g y z = alone 𝓤 _ y z refl

  pub scan_whitespace_from : Settled 𝓤 scan·whitespace-from.ended (scan·whitespace-from.clauses 𝓛 mem run)
  scan_whitespace_from κs a g y z = alone 𝓤 _ y z refl

  pub scan_content_from : Settled 𝓤 scan·content-from.ended (scan·content-from.clauses 𝓛 mem run)
  scan_content_from κs a g y z = alone 𝓤 _ y z refl

  pub scan_key_end_from : Settled 𝓤 scan·key-end-from.ended (scan·key-end-from.clauses 𝓛 mem run)
  scan_key_end_from κs a g y z = alone 𝓤 _ y z refl

  pub scan_byte_from : Settled 𝓤 scan·byte-from.ended (scan·byte-from.clauses 𝓛 mem run)
  scan_byte_from κs a g y z = alone 𝓤 _ y z refl

  pub scan_byte_near : Settled 𝓤 scan·byte-near.ended (scan·byte-near.clauses 𝓛 mem run)
  scan_byte_near κs a g y z = alone 𝓤 _ y z refl

  pub scan_twice_near : Settled 𝓤 scan·twice-near.ended (scan·twice-near.clauses 𝓛 mem run)
  scan_twice_near κs a g y z = alone 𝓤 _ y z refl

  pub scan_inside : SettledAs 𝓤 scan·inside.ended (List ℕ) (λ κs r. r.now) (scan·inside.clauses 𝓛 mem run)
  scan_inside κs a g y z = read_off 𝓤 (λ (bytes : List ℕ). (bytes, y.1))

  pub scan_same : Settled 𝓤 scan·same.ended (scan·same.clauses 𝓛 mem run)
  scan_same κs a g y z = alone 𝓤 _ y z refl

  pub scan_same_start : Settled 𝓤 scan·same-start.ended (scan·same-start.clauses 𝓛 mem run)
  scan_same_start κs a g y z = alone 𝓤 _ y z refl

  pub scan_put : Settled 𝓤 scan·put.ended (scan·put.clauses 𝓛 mem run)
  scan_put κs a g y z = follows 𝓤 (λ p q. together y z refl (together y.1 z.1 (p ∙ sym q) refl))

  pub name_declares_number : Settled 𝓤 name·declares-number.ended (name·declares-number.clauses 𝓛 mem run)
  name_declares_number κs a g y z = alone 𝓤 _ y z refl

  pub name_verdict_number : Settled 𝓤 name·verdict-number.ended (name·verdict-number.clauses 𝓛 mem run)
  name_verdict_number κs a g y z = alone 𝓤 _ y z refl

  pub name_colon_at : Settled 𝓤 name·colon-at.ended (name·colon-at.clauses 𝓛 mem run)
  name_colon_at κs a g y z = alone 𝓤 _ y z refl

  pub name_index : Settled 𝓤 name·index.ended (name·index.clauses 𝓛 mem run)
  name_index κs a g y z = alone 𝓤 _ y z refl

  pub name_prefix : SettledAs 𝓤 name·prefix.ended (List ℕ) (λ κs r. r.now) (name·prefix.clauses 𝓛 mem run)
  name_prefix κs a g y z = read_off 𝓤 (λ (bytes : List ℕ). (bytes, y.1))

  pub name_local_name : SettledAs 𝓤 name·local-name.ended (List ℕ) (λ κs r. r.now) (name·local-name.clauses 𝓛 mem run)
  name_local_name κs a g y z = read_off 𝓤 (λ (bytes : List ℕ). (bytes, y.1))

  pub name_second_at : Settled 𝓤 name·second-at.ended (name·second-at.clauses 𝓛 mem run)
  name_second_at κs a g y z = alone 𝓤 _ y z refl

  pub name_second_colon : Settled 𝓤 name·second-colon.ended (name·second-colon.clauses 𝓛 mem run)
  name_second_colon κs a g y z = alone 𝓤 _ y z refl

  pub name_decompose : Settled 𝓤 name·decompose.ended (name·decompose.clauses 𝓛 mem run)
  name_decompose κs a g y z = alone 𝓤 _ y z refl

  pub name_is_xml : Settled 𝓤 name·is-xml.ended (name·is-xml.clauses 𝓛 mem run)
  name_is_xml κs a g y z = alone 𝓤 _ y z refl

  pub name_is_xmlns : Settled 𝓤 name·is-xmlns.ended (name·is-xmlns.clauses 𝓛 mem run)
  name_is_xmlns κs a g y z = alone 𝓤 _ y z refl

  pub name_is_xml_uri : Settled 𝓤 name·is-xml-uri.ended (name·is-xml-uri.clauses 𝓛 mem run)
  name_is_xml_uri κs a g y z = alone 𝓤 _ y z refl

  pub name_is_xmlns_uri : Settled 𝓤 name·is-xmlns-uri.ended (name·is-xmlns-uri.clauses 𝓛 mem run)
  name_is_xmlns_uri κs a g y z = alone 𝓤 _ y z refl

  pub name_as_namespace_binding : Settled 𝓤 name·as-namespace-binding.ended (name·as-namespace-binding.clauses 𝓛 mem run)
  name_as_namespace_binding κs a g y z = alone 𝓤 _ y z refl

  pub name_declared_prefix : SettledAs 𝓤 name·declared-prefix.ended (List ℕ) (λ κs r. r.now) (name·declared-prefix.clauses 𝓛 mem run)
  name_declared_prefix κs a g y z = read_off 𝓤 (λ (bytes : List ℕ). (bytes, y.1))

  pub name_check_named : Settled 𝓤 name·check-named.ended (name·check-named.clauses 𝓛 mem run)
  name_check_named κs a g y z = by_numbers 𝓤 named_numbers named_apart (λ (x : Result Bool ReservedBinding). (x, y.1)) y.0 z.0

  pub name_verdict_named : Settled 𝓤 name·verdict-named.ended (name·verdict-named.clauses 𝓛 mem run)
  name_verdict_named κs a g y z = alone 𝓤 _ y z refl

  pub name_verdict_default : Settled 𝓤 name·verdict-default.ended (name·verdict-default.clauses 𝓛 mem run)
  name_verdict_default κs a g y z = alone 𝓤 _ y z refl

  pub name_verdict_of : Settled 𝓤 name·verdict-of.ended (name·verdict-of.clauses 𝓛 mem run)
  name_verdict_of κs a g y z = alone 𝓤 _ y z refl

  pub tag_keys_hash_for : Settled 𝓤 tag-keys·hash-for.ended (tag-keys·hash-for.clauses 𝓛 mem run)
  tag_keys_hash_for κs a g y z = alone 𝓤 _ y z refl

  pub tag_keys_sieve_kept : Settled 𝓤 tag-keys·sieve-kept.ended (tag-keys·sieve-kept.clauses 𝓛 mem run)
  tag_keys_sieve_kept κs a g y z = follows 𝓤 (λ p q. together y z refl (together y.1 z.1 (p ∙ sym q) refl))

  pub tag_keys_keys_good : Settled 𝓤 tag-keys·keys-good.ended (tag-keys·keys-good.clauses 𝓛 mem run)
  tag_keys_keys_good κs a g y z = alone 𝓤 _ y z refl

  pub tag_keys_holds : Settled 𝓤 tag-keys·holds.ended (tag-keys·holds.clauses 𝓛 mem run)
  tag_keys_holds κs a g y z = alone 𝓤 _ y z refl

  pub tag_keys_check_for_duplicates : Settled 𝓤 tag-keys·check-for-duplicates.ended (tag-keys·check-for-duplicates.clauses 𝓛 mem run)
  tag_keys_check_for_duplicates κs a g y z = by_numbers 𝓤 checked_numbers checked_apart (λ (x : Result ℕ KeyRefusal). (x, y.1)) y.0 z.0

  pub tag_keys_check_unsifted : Settled 𝓤 tag-keys·check-unsifted.ended (tag-keys·check-unsifted.clauses 𝓛 mem run)
  tag_keys_check_unsifted κs a g y z = by_numbers 𝓤 checked_numbers checked_apart (λ (x : Result ℕ KeyRefusal). (x, y.1)) y.0 z.0

  pub tag_keys_record_key : Settled 𝓤 tag-keys·record-key.ended (tag-keys·record-key.clauses 𝓛 mem run)
  tag_keys_record_key κs a g y z = follows 𝓤 (λ p q. together y z (p.0 ∙ sym q.0) (together y.1 z.1 (p.1 ∙ picks_alike _ _ _ _ (p.0 ∙ sym q.0) ∙ sym q.1) (together y.1.1 z.1.1 (p.2 ∙ picks_alike _ _ _ _ (p.0 ∙ sym q.0) ∙ sym q.2) (together y.1.1.1 z.1.1.1 (p.3 ∙ picks_alike _ _ _ _ (p.0 ∙ sym q.0) ∙ sym q.3) (together y.1.1.1.1 z.1.1.1.1 (p.4 ∙ picks_alike _ _ _ _ (p.0 ∙ sym q.0) ∙ sym q.4) refl)))))

  pub tag_step_is_quote : Settled 𝓤 tag-step·is-quote.ended (tag-step·is-quote.clauses 𝓛 mem run)
  tag_step_is_quote κs a g y z = alone 𝓤 _ y z refl

  pub tag_step_recover : Settled 𝓤 tag-step·recover.ended (tag-step·recover.clauses 𝓛 mem run)
  tag_step_recover κs a g y z = alone 𝓤 _ y z refl

  pub tag_step_read_key : Settled 𝓤 tag-step·read-key.ended (tag-step·read-key.clauses 𝓛 mem run)
  tag_step_read_key κs a g y z = alone 𝓤 _ y z refl

  pub tag_step_good_in : Settled 𝓤 tag-step·good-in.ended (tag-step·good-in.clauses 𝓛 mem run)
  tag_step_good_in κs a g y z = alone 𝓤 _ y z refl

  pub tag_step_step_in : Settled 𝓤 tag-step·step-in.ended (tag-step·step-in.clauses 𝓛 mem run)
  tag_step_step_in κs a g y z = follows 𝓤 (λ p q. together y z (ap (λ (x : StepRead). x.0) (step_same y.0 z.0 a.1.1.1.1.1.0.count p.0 q.0))
      (together y.1 z.1 refl
      (together y.1.1 z.1.1 (ap (λ (x : StepRead). x.1) (step_same y.0 z.0 a.1.1.1.1.1.0.count p.0 q.0))
      (together y.1.1.1 z.1.1.1 (ap (λ (x : StepRead). x.2) (step_same y.0 z.0 a.1.1.1.1.1.0.count p.0 q.0))
      (together y.1.1.1.1 z.1.1.1.1 (ap (λ (x : StepRead). x.3) (step_same y.0 z.0 a.1.1.1.1.1.0.count p.0 q.0))
      (together y.1.1.1.1.1 z.1.1.1.1.1 (p.1 ∙ ap (λ (x : StepRead). sieve_left a.1.1.1.1.1.0.checks a.1.1.1.1.0.now x.3 (kept_in x.0 a.1.1.1.1.1.0.count)) (step_same y.0 z.0 a.1.1.1.1.1.0.count p.0 q.0) ∙ sym q.1) refl))))))

  pub tag_step_step_unchecked : Settled 𝓤 tag-step·step-unchecked.ended (tag-step·step-unchecked.clauses 𝓛 mem run)
  tag_step_step_unchecked κs a g y z = alone 𝓤 _ y z refl

  pub tag_step_clear_keys : Settled 𝓤 tag-step·clear-keys.ended (tag-step·clear-keys.clauses 𝓛 mem run)
  tag_step_clear_keys κs a g y z = follows 𝓤 (λ p q. together y z refl (together y.1 z.1 (p.0 ∙ sym q.0) (together y.1.1 z.1.1 (p.1 ∙ sym q.1) (together y.1.1.1 z.1.1.1 (p.2 ∙ sym q.2) refl))))

  pub tag_step_iter_state_new : Settled 𝓤 tag-step·IterState·new.ended (tag-step·IterState·new.clauses 𝓛 mem run)
  tag_step_iter_state_new κs a g y z = alone 𝓤 _ y z refl

  pub tag_step_iter_state_with_checks : Settled 𝓤 tag-step·IterState·with-checks.ended (tag-step·IterState·with-checks.clauses 𝓛 mem run)
  tag_step_iter_state_with_checks κs a g y z = alone 𝓤 _ y z refl

  pub tag_step_iter_state_next : Settled 𝓤 tag-step·IterState·next.ended (tag-step·IterState·next.clauses 𝓛 mem run)
  tag_step_iter_state_next κs a g y z = by_numbers 𝓤 numbered_step step_apart (λ (x : Step). (x, y.1)) y.0 z.0

  pub tag_parts_truth_number : Settled 𝓤 tag-parts·truth-number.ended (tag-parts·truth-number.clauses 𝓛 mem run)
  tag_parts_truth_number κs a g y z = alone 𝓤 _ y z refl

  pub tag_parts_key_part : SettledAs 𝓤 tag-parts·key-part.ended (List ℕ) (λ κs r. r.now) (tag-parts·key-part.clauses 𝓛 mem run)
  tag_parts_key_part κs a g y z = read_off 𝓤 (λ (bytes : List ℕ). (bytes, y.1))

  pub tag_parts_value_part : SettledAs 𝓤 tag-parts·value-part.ended (List ℕ) (λ κs r. r.now) (tag-parts·value-part.clauses 𝓛 mem run)
  tag_parts_value_part κs a g y z = read_off 𝓤 (λ (bytes : List ℕ). (bytes, y.1))

  pub tag_parts_as_bool : Settled 𝓤 tag-parts·as-bool.ended (tag-parts·as-bool.clauses 𝓛 mem run)
  tag_parts_as_bool κs a g y z = alone 𝓤 _ y z refl

  pub tag_batch_why_number : Settled 𝓤 tag-batch·Why·number.ended (tag-batch·Why·number.clauses 𝓛 mem run)
  tag_batch_why_number κs a g y z = alone 𝓤 _ y z refl

  pub tag_batch_numbers : Settled 𝓤 tag-batch·numbers.ended (tag-batch·numbers.clauses 𝓛 mem run)
  tag_batch_numbers κs a g y z = follows 𝓤 (λ p q. together y z (ap five_of_list (p ∙ sym q)) refl)

  pub tag_batch_put : Settled 𝓤 tag-batch·put.ended (tag-batch·put.clauses 𝓛 mem run)
  tag_batch_put κs a g y z = follows 𝓤 (λ p q. together y z refl (together y.1 z.1 (p ∙ sym q) refl))

  pub tag_batch_after_seven : Settled 𝓤 tag-batch·after-seven.ended (tag-batch·after-seven.clauses 𝓛 mem run)
  tag_batch_after_seven κs a g y z = alone 𝓤 _ y z refl

  pub tag_batch_tables_lent : Settled 𝓤 tag-batch·tables-lent.ended (tag-batch·tables-lent.clauses 𝓛 mem run)
  tag_batch_tables_lent κs a g y z = alone 𝓤 _ y z refl

  pub tag_batch_read_batch : Settled 𝓤 tag-batch·read-batch.ended (tag-batch·read-batch.clauses 𝓛 mem run)
  tag_batch_read_batch κs a g y z = read_off 𝓤 (λ (x : Batched). (x.batch, (tt, (x.starts, (x.ends, (x.hashes, (tt, (x.out, tt))))))))

  pub tag_carried_attributes_new : Settled 𝓤 tag-carried·Attributes·new.ended (tag-carried·Attributes·new.clauses 𝓛 mem run)
  tag_carried_attributes_new κs a g y z = alone 𝓤 _ y z refl

  pub tag_carried_attributes_html : Settled 𝓤 tag-carried·Attributes·html.ended (tag-carried·Attributes·html.clauses 𝓛 mem run)
  tag_carried_attributes_html κs a g y z = alone 𝓤 _ y z refl

  pub tag_carried_attributes_with_checks : Settled 𝓤 tag-carried·Attributes·with-checks.ended (tag-carried·Attributes·with-checks.clauses 𝓛 mem run)
  tag_carried_attributes_with_checks κs a g y z = follows 𝓤 (λ p q. together y z refl (together y.1 z.1 (p ∙ sym q) refl))

  pub tag_carried_attributes_next : Settled 𝓤 tag-carried·Attributes·next.ended (tag-carried·Attributes·next.clauses 𝓛 mem run)
  tag_carried_attributes_next κs a g y z = follows 𝓤 (λ p q. together y z (numbers_apart y.0 z.0 (p.0 ∙ sym q.0)) (together y.1 z.1 (p.1 ∙ sym q.1) refl))

  pub tag_carried_attributes_key : SettledAs 𝓤 tag-carried·Attributes·key.ended (List ℕ) (λ κs r. r.now) (tag-carried·Attributes·key.clauses 𝓛 mem run)
  tag_carried_attributes_key κs a g y z = read_off 𝓤 (λ (b : List ℕ). (b, y.1))

  pub tag_carried_attributes_value : SettledAs 𝓤 tag-carried·Attributes·value.ended (List ℕ) (λ κs r. r.now) (tag-carried·Attributes·value.clauses 𝓛 mem run)
  tag_carried_attributes_value κs a g y z = read_off 𝓤 (λ (b : List ℕ). (b, y.1))

  pub tag_carried_first : Settled 𝓤 tag-carried·first.ended (tag-carried·first.clauses 𝓛 mem run)
  tag_carried_first κs a g y z = by_numbers 𝓤 numbers_of numbers_apart (λ (x : Answer). (x, y.1)) y.0 z.0

  pub export_cursor_place_from : Settled 𝓤 export-cursor·place-from.ended (export-cursor·place-from.clauses 𝓛 mem run)
  export_cursor_place_from κs a g y z = alone 𝓤 _ y z refl

  pub export_cursor_kind_of : Settled 𝓤 export-cursor·kind-of.ended (export-cursor·kind-of.clauses 𝓛 mem run)
  export_cursor_kind_of κs a g y z = alone 𝓤 _ y z refl

  pub export_cursor_position_of : Settled 𝓤 export-cursor·position-of.ended (export-cursor·position-of.clauses 𝓛 mem run)
  export_cursor_position_of κs a g y z = alone 𝓤 _ y z refl

  pub export_cursor_same_place : Settled 𝓤 export-cursor·same-place.ended (export-cursor·same-place.clauses 𝓛 mem run)
  export_cursor_same_place κs a g y z = alone 𝓤 _ y z refl

  pub export_cursor_settle : Settled 𝓤 export-cursor·settle.ended (export-cursor·settle.clauses 𝓛 mem run)
  export_cursor_settle κs a g y z = follows 𝓤 (λ p q. together y z refl (together y.1 z.1 (p ∙ sym q) refl))
