-- Whole iterations: an iterator goes from place to place as a caller of the plain listing does, so it shows what that shows.
use Prim.Native.Nat.{ℕ, zero, suc, ◌+◌}
use mathlib.Core.Path.{◌≡◌, refl, ap, ◌∙◌}
use mathlib.Core.Bool.{true}
use mathlib.Core.List.{List, [], ◌∷◌}
use native.Mathlib.Omega.{arith}
use denote.Ref.{Bor}
use Rattle.scan.specs.First.{pick}
use Rattle.scope_table.specs.Records.{record_at}
use Rattle.scope_table.specs.Table.{valid_of}
use Rattle.scope_table.specs.declared.NamespaceResolver.{NamespaceResolver}
use Rattle.scope_listing.specs.Listing.{Listed, in_effect, past_built_in, bindings_of, bindings_at_of}
use Rattle.scope_listing.specs.Whole.{is_last, list_all}
use Rattle.scope_listing.proofs.Whole.{list_whole, past_on, lists_level}
use Rattle.scope_listing_carried.specs.Listings.{in_effect_on, level_on, listed_on, listed_on_level, after_shown, after_shown_at, iterated, IteratesInEffect, IteratesLevel}
use Rattle.scope_listing_carried.specs.declared.NamespaceBindingsIter.{NamespaceBindingsIter}
use Rattle.scope_listing_carried.specs.declared.NamespaceBindingsOfLevelIter.{NamespaceBindingsOfLevelIter}

by_places : (n : ℕ) (it : NamespaceBindingsIter) → iterated (λ it. (listed_on it).answer) after_shown n it ≡ list_all (λ place. bindings_of place it.resolver.now) n it.cursor
unfolding iterated list_all
by_places zero it = refl
by_places (suc n) it = ap (λ (w : List Listed). pick (is_last (listed_on it).answer) [] ((listed_on it).answer ∷ w)) (by_places n (after_shown it))

by_places_level : (n : ℕ) (it : NamespaceBindingsOfLevelIter) → iterated (λ it. (listed_on_level it).answer) after_shown_at n it ≡ list_all (λ place. bindings_at_of it.level place it.resolver.now) n it.cursor
unfolding iterated list_all
by_places_level zero it = refl
by_places_level (suc n) it = ap (λ (w : List Listed). pick (is_last (listed_on_level it).answer) [] ((listed_on_level it).answer ∷ w)) (by_places_level n (after_shown_at it))

pub iterates_in_effect : (x : Bor NamespaceResolver) → valid_of x.now ≡ true → IteratesInEffect x
unfolding bindings_of past_built_in
iterates_in_effect x v more =
    let rows = record_at x.now.records in
    let count = x.now.head.count in
    by_places (suc count + more) (in_effect_on x)
    ∙ list_whole rows (in_effect x.now.text rows count) count past_built_in past_on (λ place. bindings_of place x.now) (λ place. rw v) (suc count + more) 2 (omega arith)

pub iterates_level : (x : Bor NamespaceResolver) (level : ℕ) → valid_of x.now ≡ true → IteratesLevel x level
iterates_level x level v more = by_places_level (suc x.now.head.count + more) (level_on x level) ∙ lists_level x.now level v more
