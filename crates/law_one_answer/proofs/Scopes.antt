-- Scopes: each public contract of crates `scope_table`, `scope_change`, `scope_declare`, `scope_push`, `scope_lookup`, `scope_listing`, `scope_listing_carried`, `scope_nil`, `scope_nil_carried` and `scope_in_place` leaves one answer, and one content of what is lent to it.
use mathlib.Core.Path.{refl, sym, ◌∙◌}
use seplogic.Ra.Ura.{Ura}
use base.Logic.{SProp}
use prog.Memory.{Memory}
use prog.Routine.{Routine}
use types.Logic.{Logic}
use contract.Monad.{Fun}
use Prim.Native.Nat.{ℕ}
use mathlib.Core.List.{List}
use Rattle.law_one_answer.specs.Settled.{Settled, SettledAs}
use Rattle.scope_table.specs.Answer.{changed, numbered_change}
use Rattle.scope_table.specs.declared.Changed.{Changed}
use Rattle.scope_table.proofs.Answers.{change_apart}
use Rattle.scope_lookup.specs.Lookup.{Resolved, resolved_numbers, namespace_numbers}
use Rattle.std.specs.Prelude.{Option, Result}
use Rattle.scope_lookup.specs.declared.Namespace.{Namespace}
use Rattle.scope_lookup.specs.declared.LookupError.{LookupError}
use Rattle.scope_lookup.proofs.Numbers.{resolved_apart, namespace_apart}
use Rattle.scope_listing.specs.Listing.{numbered_listing}
use Rattle.scope_listing.specs.declared.Listing.{Listing}
use Rattle.scope_listing.proofs.Numbers.{listed_apart, listing_apart}
use Rattle.scope_nil.specs.Nil.{numbered_nil}
use Rattle.scope_nil.proofs.Numbers.{nil_apart, search_apart}
use Rattle.scope_nil.specs.declared.HasNil.{HasNil}
use Rattle.scope_nil.specs.declared.Left.{Left}
use Rattle.scope_table.specs.Lent.{Given}
use Rattle.scope_table.specs.declared.Outcome.{Outcome}
use Rattle.law_one_answer.proofs.Ends.{follows, together, alone, read_off, by_numbers}
use Rattle.scope_table.specs.contracts.NamespaceResolver.fresh as scope-table·NamespaceResolver·fresh
use Rattle.scope_table.specs.contracts.NamespaceResolver.valid as scope-table·NamespaceResolver·valid
use Rattle.scope_table.specs.contracts.NamespaceBinding.prefix as scope-table·NamespaceBinding·prefix
use Rattle.scope_table.specs.contracts.form_number as scope-table·form-number
use Rattle.scope_table.specs.contracts.record_at as scope-table·record-at
use Rattle.scope_table.specs.contracts.write_record as scope-table·write-record
use Rattle.scope_table.specs.contracts.clear_bytes as scope-table·clear-bytes
use Rattle.scope_table.specs.contracts.clear_rows as scope-table·clear-rows
use Rattle.scope_table.specs.contracts.clear_rows_from as scope-table·clear-rows-from
use Rattle.scope_table.specs.contracts.saturating_sub as scope-table·saturating-sub
use Rattle.scope_table.specs.contracts.fits as scope-table·fits
use Rattle.scope_table.specs.contracts.form_in as scope-table·form-in
use Rattle.scope_table.specs.contracts.fresh_in as scope-table·fresh-in
use Rattle.scope_table.specs.contracts.change_numbers as scope-table·change-numbers
use Rattle.scope_table.specs.contracts.told_of as scope-table·told-of
use Rattle.scope_change.specs.contracts.append_in as scope-change·append-in
use Rattle.scope_change.specs.contracts.clear_above_in as scope-change·clear-above-in
use Rattle.scope_change.specs.contracts.set_level_in as scope-change·set-level-in
use Rattle.scope_change.specs.contracts.take_back as scope-change·take-back
use Rattle.scope_declare.specs.contracts.judge as scope-declare·judge
use Rattle.scope_declare.specs.contracts.declare_in as scope-declare·declare-in
use Rattle.scope_declare.specs.contracts.add_in as scope-declare·add-in
use Rattle.scope_declare.specs.contracts.pop_in as scope-declare·pop-in
use Rattle.scope_declare.specs.contracts.add as scope-declare·add
use Rattle.scope_declare.specs.contracts.set_level as scope-declare·set-level
use Rattle.scope_declare.specs.contracts.pop as scope-declare·pop
use Rattle.scope_declare.specs.contracts.level as scope-declare·level
use Rattle.scope_declare.specs.contracts.max_namespace_bindings as scope-declare·max-namespace-bindings
use Rattle.scope_declare.specs.contracts.set_max_namespace_bindings as scope-declare·set-max-namespace-bindings
use Rattle.scope_push.specs.contracts.push_in as scope-push·push-in
use Rattle.scope_push.specs.contracts.push as scope-push·push
use Rattle.scope_lookup.specs.contracts.name_among as scope-lookup·name-among
use Rattle.scope_lookup.specs.contracts.resolve_prefix_in as scope-lookup·resolve-prefix-in
use Rattle.scope_lookup.specs.contracts.resolve_in as scope-lookup·resolve-in
use Rattle.scope_lookup.specs.contracts.resolve as scope-lookup·resolve
use Rattle.scope_lookup.specs.contracts.resolve_element as scope-lookup·resolve-element
use Rattle.scope_lookup.specs.contracts.resolve_attribute as scope-lookup·resolve-attribute
use Rattle.scope_lookup.specs.contracts.resolve_prefix as scope-lookup·resolve-prefix
use Rattle.scope_lookup.specs.contracts.uri_part as scope-lookup·uri-part
use Rattle.scope_lookup.specs.contracts.prefix_part as scope-lookup·prefix-part
use Rattle.scope_lookup.specs.contracts.local_part as scope-lookup·local-part
use Rattle.scope_lookup.specs.contracts.namespace_of as scope-lookup·namespace-of
use Rattle.scope_lookup.specs.contracts.resolved_numbers as scope-lookup·resolved-numbers
use Rattle.scope_listing.specs.contracts.listed_numbers as scope-listing·listed-numbers
use Rattle.scope_listing.specs.contracts.bindings_in as scope-listing·bindings-in
use Rattle.scope_listing.specs.contracts.bindings_of_in as scope-listing·bindings-of-in
use Rattle.scope_listing.specs.contracts.bindings as scope-listing·bindings
use Rattle.scope_listing.specs.contracts.bindings_of as scope-listing·bindings-of
use Rattle.scope_listing_carried.specs.contracts.bindings as scope-listing-carried·bindings
use Rattle.scope_listing_carried.specs.contracts.bindings_of as scope-listing-carried·bindings-of
use Rattle.scope_listing_carried.specs.contracts.NamespaceBindingsIter.next as scope-listing-carried·NamespaceBindingsIter·next
use Rattle.scope_listing_carried.specs.contracts.NamespaceBindingsOfLevelIter.next as scope-listing-carried·NamespaceBindingsOfLevelIter·next
use Rattle.scope_nil.specs.contracts.nil_number as scope-nil·nil-number
use Rattle.scope_nil.specs.contracts.has_nil_in as scope-nil·has-nil-in
use Rattle.scope_nil.specs.contracts.has_nil as scope-nil·has-nil
use Rattle.scope_in_place.specs.contracts.set_level as scope-in-place·set-level
use Rattle.scope_nil_carried.specs.contracts.has_nil as scope-nil-tag-carried·has-nil
use Rattle.scope_in_place.specs.contracts.pop as scope-in-place·pop
use Rattle.scope_in_place.specs.contracts.push as scope-in-place·push
use Rattle.scope_in_place.specs.contracts.add as scope-in-place·add
use Rattle.scope_in_place.specs.contracts.set_max_namespace_bindings as scope-in-place·set-max-namespace-bindings

-- what a call beside lent memory hands back, read off what the contract states
abbrev outcome_of : Given → Outcome
outcome_of x = record { answer = x.answer; head = x.head }

-- the same of a search for nil, whose mode and checks stay
abbrev left_in : HasNil → Left
left_in x = record { answer = x.answer; place = x.state.place; count = x.state.count }

module _ {M : Type 1} {𝓤 : Ura M} (𝓛 : Logic 𝓤) (mem : Memory → SProp 𝓤) (run : Routine → Fun 𝓤) where
  pub scope_table_namespace_resolver_fresh : Settled 𝓤 scope-table·NamespaceResolver·fresh.ended (scope-table·NamespaceResolver·fresh.clauses 𝓛 mem run)
  scope_table_namespace_resolver_fresh κs a g y z = alone 𝓤 _ y z refl

  pub scope_table_namespace_resolver_valid : Settled 𝓤 scope-table·NamespaceResolver·valid.ended (scope-table·NamespaceResolver·valid.clauses 𝓛 mem run)
  scope_table_namespace_resolver_valid κs a g y z = alone 𝓤 _ y z refl

  pub scope_table_namespace_binding_prefix : SettledAs 𝓤 scope-table·NamespaceBinding·prefix.ended (List ℕ) (λ κs r. r.now) (scope-table·NamespaceBinding·prefix.clauses 𝓛 mem run)
  scope_table_namespace_binding_prefix κs a g y z = read_off 𝓤 (λ (bytes : List ℕ). (bytes, y.1))

  pub scope_table_form_number : Settled 𝓤 scope-table·form-number.ended (scope-table·form-number.clauses 𝓛 mem run)
  scope_table_form_number κs a g y z = alone 𝓤 _ y z refl

  pub scope_table_record_at : Settled 𝓤 scope-table·record-at.ended (scope-table·record-at.clauses 𝓛 mem run)
  scope_table_record_at κs a g y z = alone 𝓤 _ y z refl

  pub scope_table_write_record : Settled 𝓤 scope-table·write-record.ended (scope-table·write-record.clauses 𝓛 mem run)
  scope_table_write_record κs a g y z = follows 𝓤 (λ p q. together y z refl (together y.1 z.1 (p ∙ sym q) refl))

  pub scope_table_clear_bytes : Settled 𝓤 scope-table·clear-bytes.ended (scope-table·clear-bytes.clauses 𝓛 mem run)
  scope_table_clear_bytes κs a g y z = follows 𝓤 (λ p q. together y z refl (together y.1 z.1 (p ∙ sym q) refl))

  pub scope_table_clear_rows : Settled 𝓤 scope-table·clear-rows.ended (scope-table·clear-rows.clauses 𝓛 mem run)
  scope_table_clear_rows κs a g y z = follows 𝓤 (λ p q. together y z refl (together y.1 z.1 (p ∙ sym q) refl))

  pub scope_table_clear_rows_from : Settled 𝓤 scope-table·clear-rows-from.ended (scope-table·clear-rows-from.clauses 𝓛 mem run)
  scope_table_clear_rows_from κs a g y z = follows 𝓤 (λ p q. together y z refl (together y.1 z.1 (p ∙ sym q) refl))

  pub scope_table_saturating_sub : Settled 𝓤 scope-table·saturating-sub.ended (scope-table·saturating-sub.clauses 𝓛 mem run)
  scope_table_saturating_sub κs a g y z = alone 𝓤 _ y z refl

  pub scope_table_fits : Settled 𝓤 scope-table·fits.ended (scope-table·fits.clauses 𝓛 mem run)
  scope_table_fits κs a g y z = alone 𝓤 _ y z refl

  pub scope_table_form_in : Settled 𝓤 scope-table·form-in.ended (scope-table·form-in.clauses 𝓛 mem run)
  scope_table_form_in κs a g y z = alone 𝓤 _ y z refl

  pub scope_table_fresh_in : Settled 𝓤 scope-table·fresh-in.ended (scope-table·fresh-in.clauses 𝓛 mem run)
  scope_table_fresh_in κs a g y z = read_off 𝓤 (λ (x : Given). (outcome_of x, (x.text, (x.records, (tt, tt)))))

  pub scope_table_change_numbers : Settled 𝓤 scope-table·change-numbers.ended (scope-table·change-numbers.clauses 𝓛 mem run)
  scope_table_change_numbers κs a g y z = alone 𝓤 _ y z refl

  pub scope_table_told_of : Settled 𝓤 scope-table·told-of.ended (scope-table·told-of.clauses 𝓛 mem run)
  scope_table_told_of κs a g y z = alone 𝓤 _ y z refl

  pub scope_change_append_in : Settled 𝓤 scope-change·append-in.ended (scope-change·append-in.clauses 𝓛 mem run)
  scope_change_append_in κs a g y z = read_off 𝓤 (λ (x : Given). (outcome_of x, (x.text, (x.records, (tt, (tt, (tt, (tt, tt))))))))

  pub scope_change_clear_above_in : Settled 𝓤 scope-change·clear-above-in.ended (scope-change·clear-above-in.clauses 𝓛 mem run)
  scope_change_clear_above_in κs a g y z = read_off 𝓤 (λ (x : Given). (outcome_of x, (x.text, (x.records, (tt, (tt, tt))))))

  pub scope_change_set_level_in : Settled 𝓤 scope-change·set-level-in.ended (scope-change·set-level-in.clauses 𝓛 mem run)
  scope_change_set_level_in κs a g y z = read_off 𝓤 (λ (x : Given). (outcome_of x, (x.text, (x.records, (tt, (tt, tt))))))

  pub scope_change_take_back : Settled 𝓤 scope-change·take-back.ended (scope-change·take-back.clauses 𝓛 mem run)
  scope_change_take_back κs a g y z = follows 𝓤 (λ p q. together y z refl (together y.1 z.1 (p.0 ∙ sym q.0) (together y.1.1 z.1.1 (p.1 ∙ sym q.1) refl)))

  pub scope_declare_judge : Settled 𝓤 scope-declare·judge.ended (scope-declare·judge.clauses 𝓛 mem run)
  scope_declare_judge κs a g y z = alone 𝓤 _ y z refl

  pub scope_declare_declare_in : Settled 𝓤 scope-declare·declare-in.ended (scope-declare·declare-in.clauses 𝓛 mem run)
  scope_declare_declare_in κs a g y z = read_off 𝓤 (λ (x : Given). (outcome_of x, (x.text, (x.records, (tt, (tt, (tt, (tt, (tt, (tt, tt))))))))))

  pub scope_declare_add_in : Settled 𝓤 scope-declare·add-in.ended (scope-declare·add-in.clauses 𝓛 mem run)
  scope_declare_add_in κs a g y z = read_off 𝓤 (λ (x : Given). (outcome_of x, (x.text, (x.records, (tt, (tt, (tt, (tt, tt))))))))

  pub scope_declare_pop_in : Settled 𝓤 scope-declare·pop-in.ended (scope-declare·pop-in.clauses 𝓛 mem run)
  scope_declare_pop_in κs a g y z = read_off 𝓤 (λ (x : Given). (outcome_of x, (x.text, (x.records, (tt, tt)))))

  pub scope_declare_add : Settled 𝓤 scope-declare·add.ended (scope-declare·add.clauses 𝓛 mem run)
  scope_declare_add κs a g y z = by_numbers 𝓤 numbered_change change_apart (λ (x : Changed). (x, y.1)) y.0 z.0

  pub scope_declare_set_level : Settled 𝓤 scope-declare·set-level.ended (scope-declare·set-level.clauses 𝓛 mem run)
  scope_declare_set_level κs a g y z = by_numbers 𝓤 numbered_change change_apart (λ (x : Changed). (x, y.1)) y.0 z.0

  pub scope_declare_pop : Settled 𝓤 scope-declare·pop.ended (scope-declare·pop.clauses 𝓛 mem run)
  scope_declare_pop κs a g y z = by_numbers 𝓤 numbered_change change_apart (λ (x : Changed). (x, y.1)) y.0 z.0

  pub scope_declare_level : Settled 𝓤 scope-declare·level.ended (scope-declare·level.clauses 𝓛 mem run)
  scope_declare_level κs a g y z = alone 𝓤 _ y z refl

  pub scope_declare_max_namespace_bindings : Settled 𝓤 scope-declare·max-namespace-bindings.ended (scope-declare·max-namespace-bindings.clauses 𝓛 mem run)
  scope_declare_max_namespace_bindings κs a g y z = alone 𝓤 _ y z refl

  pub scope_declare_set_max_namespace_bindings : Settled 𝓤 scope-declare·set-max-namespace-bindings.ended (scope-declare·set-max-namespace-bindings.clauses 𝓛 mem run)
  scope_declare_set_max_namespace_bindings κs a g y z = alone 𝓤 _ y z refl

  pub scope_push_push_in : Settled 𝓤 scope-push·push-in.ended (scope-push·push-in.clauses 𝓛 mem run)
  scope_push_push_in κs a g y z = read_off 𝓤 (λ (x : Given). (outcome_of x, (x.text, (x.records, (tt, (tt, (tt, tt)))))))

  pub scope_push_push : Settled 𝓤 scope-push·push.ended (scope-push·push.clauses 𝓛 mem run)
  scope_push_push κs a g y z = by_numbers 𝓤 numbered_change change_apart (λ (x : Changed). (x, y.1)) y.0 z.0

  pub scope_lookup_name_among : Settled 𝓤 scope-lookup·name-among.ended (scope-lookup·name-among.clauses 𝓛 mem run)
  scope_lookup_name_among κs a g y z = alone 𝓤 _ y z refl

  pub scope_lookup_resolve_prefix_in : Settled 𝓤 scope-lookup·resolve-prefix-in.ended (scope-lookup·resolve-prefix-in.clauses 𝓛 mem run)
  scope_lookup_resolve_prefix_in κs a g y z = alone 𝓤 _ y z refl

  pub scope_lookup_resolve_in : Settled 𝓤 scope-lookup·resolve-in.ended (scope-lookup·resolve-in.clauses 𝓛 mem run)
  scope_lookup_resolve_in κs a g y z = alone 𝓤 _ y z refl

  pub scope_lookup_resolve : Settled 𝓤 scope-lookup·resolve.ended (scope-lookup·resolve.clauses 𝓛 mem run)
  scope_lookup_resolve κs a g y z = by_numbers 𝓤 resolved_numbers resolved_apart (λ (x : Resolved). (x, y.1)) y.0 z.0

  pub scope_lookup_resolve_element : Settled 𝓤 scope-lookup·resolve-element.ended (scope-lookup·resolve-element.clauses 𝓛 mem run)
  scope_lookup_resolve_element κs a g y z = by_numbers 𝓤 resolved_numbers resolved_apart (λ (x : Resolved). (x, y.1)) y.0 z.0

  pub scope_lookup_resolve_attribute : Settled 𝓤 scope-lookup·resolve-attribute.ended (scope-lookup·resolve-attribute.clauses 𝓛 mem run)
  scope_lookup_resolve_attribute κs a g y z = by_numbers 𝓤 resolved_numbers resolved_apart (λ (x : Resolved). (x, y.1)) y.0 z.0

  pub scope_lookup_resolve_prefix : Settled 𝓤 scope-lookup·resolve-prefix.ended (scope-lookup·resolve-prefix.clauses 𝓛 mem run)
  scope_lookup_resolve_prefix κs a g y z = by_numbers 𝓤 resolved_numbers resolved_apart (λ (x : Resolved). (x, y.1)) y.0 z.0

  pub scope_lookup_uri_part : SettledAs 𝓤 scope-lookup·uri-part.ended (List ℕ) (λ κs r. r.now) (scope-lookup·uri-part.clauses 𝓛 mem run)
  scope_lookup_uri_part κs a g y z = read_off 𝓤 (λ (bytes : List ℕ). (bytes, y.1))

  pub scope_lookup_prefix_part : SettledAs 𝓤 scope-lookup·prefix-part.ended (List ℕ) (λ κs r. r.now) (scope-lookup·prefix-part.clauses 𝓛 mem run)
  scope_lookup_prefix_part κs a g y z = read_off 𝓤 (λ (bytes : List ℕ). (bytes, y.1))

  pub scope_lookup_local_part : SettledAs 𝓤 scope-lookup·local-part.ended (List ℕ) (λ κs r. r.now) (scope-lookup·local-part.clauses 𝓛 mem run)
  scope_lookup_local_part κs a g y z = read_off 𝓤 (λ (bytes : List ℕ). (bytes, y.1))

  pub scope_lookup_namespace_of : Settled 𝓤 scope-lookup·namespace-of.ended (scope-lookup·namespace-of.clauses 𝓛 mem run)
  scope_lookup_namespace_of κs a g y z = by_numbers 𝓤 namespace_numbers namespace_apart (λ (x : Result (Option Namespace) LookupError). (x, y.1)) y.0 z.0

  pub scope_lookup_resolved_numbers : Settled 𝓤 scope-lookup·resolved-numbers.ended (scope-lookup·resolved-numbers.clauses 𝓛 mem run)
  scope_lookup_resolved_numbers κs a g y z = alone 𝓤 _ y z refl

  pub scope_listing_listed_numbers : Settled 𝓤 scope-listing·listed-numbers.ended (scope-listing·listed-numbers.clauses 𝓛 mem run)
  scope_listing_listed_numbers κs a g y z = alone 𝓤 _ y z refl

  pub scope_listing_bindings_in : Settled 𝓤 scope-listing·bindings-in.ended (scope-listing·bindings-in.clauses 𝓛 mem run)
  scope_listing_bindings_in κs a g y z = alone 𝓤 _ y z refl

  pub scope_listing_bindings_of_in : Settled 𝓤 scope-listing·bindings-of-in.ended (scope-listing·bindings-of-in.clauses 𝓛 mem run)
  scope_listing_bindings_of_in κs a g y z = alone 𝓤 _ y z refl

  pub scope_listing_bindings : Settled 𝓤 scope-listing·bindings.ended (scope-listing·bindings.clauses 𝓛 mem run)
  scope_listing_bindings κs a g y z = by_numbers 𝓤 numbered_listing listing_apart (λ (x : Listing). (x, y.1)) y.0 z.0

  pub scope_listing_bindings_of : Settled 𝓤 scope-listing·bindings-of.ended (scope-listing·bindings-of.clauses 𝓛 mem run)
  scope_listing_bindings_of κs a g y z = by_numbers 𝓤 numbered_listing listing_apart (λ (x : Listing). (x, y.1)) y.0 z.0

  pub scope_listing_carried_bindings : Settled 𝓤 scope-listing-carried·bindings.ended (scope-listing-carried·bindings.clauses 𝓛 mem run)
  scope_listing_carried_bindings κs a g y z = alone 𝓤 _ y z refl

  pub scope_listing_carried_bindings_of : Settled 𝓤 scope-listing-carried·bindings-of.ended (scope-listing-carried·bindings-of.clauses 𝓛 mem run)
  scope_listing_carried_bindings_of κs a g y z = alone 𝓤 _ y z refl

  pub scope_listing_carried_namespace_bindings_iter_next : Settled 𝓤 scope-listing-carried·NamespaceBindingsIter·next.ended (scope-listing-carried·NamespaceBindingsIter·next.clauses 𝓛 mem run)
  scope_listing_carried_namespace_bindings_iter_next κs a g y z = follows 𝓤 (λ p q. together y z (listed_apart y.0 z.0 (p.0 ∙ sym q.0)) (together y.1 z.1 (p.1 ∙ sym q.1) refl))

  pub scope_listing_carried_namespace_bindings_of_level_iter_next : Settled 𝓤 scope-listing-carried·NamespaceBindingsOfLevelIter·next.ended (scope-listing-carried·NamespaceBindingsOfLevelIter·next.clauses 𝓛 mem run)
  scope_listing_carried_namespace_bindings_of_level_iter_next κs a g y z = follows 𝓤 (λ p q. together y z (listed_apart y.0 z.0 (p.0 ∙ sym q.0)) (together y.1 z.1 (p.1 ∙ sym q.1) refl))

  pub scope_nil_nil_number : Settled 𝓤 scope-nil·nil-number.ended (scope-nil·nil-number.clauses 𝓛 mem run)
  scope_nil_nil_number κs a g y z = alone 𝓤 _ y z refl

  pub scope_nil_has_nil_in : Settled 𝓤 scope-nil·has-nil-in.ended (scope-nil·has-nil-in.clauses 𝓛 mem run)
  scope_nil_has_nil_in κs a g y z = read_off 𝓤 (λ (x : HasNil). (left_in x, (tt, (x.state.starts, (x.state.ends, (x.state.hashes, (tt, (tt, (tt, (tt, tt))))))))))

  pub scope_nil_has_nil : Settled 𝓤 scope-nil·has-nil.ended (scope-nil·has-nil.clauses 𝓛 mem run)
  scope_nil_has_nil κs a g y z = by_numbers 𝓤 numbered_nil search_apart (λ (x : HasNil). (x, y.1)) y.0 z.0

  pub scope_in_place_set_level : Settled 𝓤 scope-in-place·set-level.ended (scope-in-place·set-level.clauses 𝓛 mem run)
  scope_in_place_set_level κs a g y z = by_numbers 𝓤 numbered_change change_apart (λ (x : Changed). (x.answer, (x.resolver, (tt, tt)))) (changed y.0 y.1.0) (changed z.0 z.1.0)

  pub scope_in_place_pop : Settled 𝓤 scope-in-place·pop.ended (scope-in-place·pop.clauses 𝓛 mem run)
  scope_in_place_pop κs a g y z = by_numbers 𝓤 numbered_change change_apart (λ (x : Changed). (x.answer, (x.resolver, tt))) (changed y.0 y.1.0) (changed z.0 z.1.0)

  pub scope_in_place_push : Settled 𝓤 scope-in-place·push.ended (scope-in-place·push.clauses 𝓛 mem run)
  scope_in_place_push κs a g y z = by_numbers 𝓤 numbered_change change_apart (λ (x : Changed). (x.answer, (x.resolver, (tt, (tt, tt))))) (changed y.0 y.1.0) (changed z.0 z.1.0)

  pub scope_in_place_add : Settled 𝓤 scope-in-place·add.ended (scope-in-place·add.clauses 𝓛 mem run)
  scope_in_place_add κs a g y z = by_numbers 𝓤 numbered_change change_apart (λ (x : Changed). (x.answer, (x.resolver, (tt, (tt, (tt, tt)))))) (changed y.0 y.1.0) (changed z.0 z.1.0)

  pub scope_in_place_set_max_namespace_bindings : Settled 𝓤 scope-in-place·set-max-namespace-bindings.ended (scope-in-place·set-max-namespace-bindings.clauses 𝓛 mem run)
  scope_in_place_set_max_namespace_bindings κs a g y z = follows 𝓤 (λ p q. together y z refl (together y.1 z.1 (p ∙ sym q) refl))

  pub scope_nil_carried_has_nil : Settled 𝓤 scope-nil-tag-carried·has-nil.ended (scope-nil-tag-carried·has-nil.clauses 𝓛 mem run)
  scope_nil_carried_has_nil κs a g y z = follows 𝓤 (λ p q. together y z (nil_apart y.0 z.0 (p.0 ∙ sym q.0)) (together y.1 z.1 (p.1 ∙ sym q.1) refl))
