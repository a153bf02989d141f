-- The listings that carry their resolver stand above the plain ones: the resolver stays, and all else is the plain listing's.
use Rattle.std.specs.Prelude.{ℕ, zero, suc, ◌+◌, ◌-◌, ◌≡◌, List, [], ◌∷◌}
use Rattle.std.specs.Borrow.{Bor}
use Rattle.scan.specs.First.{pick}
use Rattle.scope_table.specs.Records.{record_at}
use Rattle.scope_table.specs.declared.NamespaceResolver.{NamespaceResolver}
use Rattle.scope_listing.specs.Listing.{Listed, in_effect, at_level, bindings_of, bindings_at_of}
use Rattle.scope_listing.specs.Whole.{is_last, showing}
use Rattle.scope_listing.specs.declared.Listing.{Listing}
use Rattle.scope_listing_carried.specs.declared.NamespaceBindingsIter.{NamespaceBindingsIter}
use Rattle.scope_listing_carried.specs.declared.NamespaceBindingsOfLevelIter.{NamespaceBindingsOfLevelIter}

-- an iterator over the bindings in effect: `bindings` skips the two built-in ones
abbrev pub in_effect_on : Bor NamespaceResolver → NamespaceBindingsIter
in_effect_on x = record { resolver = x; cursor = 2 }

-- an iterator over the bindings of one level: `bindings_of` has the built-in ones at level 0
abbrev pub level_on : Bor NamespaceResolver → ℕ → NamespaceBindingsOfLevelIter
level_on x level = record { resolver = x; cursor = 0; level = level }

-- what the plain listing says where an iterator stands
abbrev pub listed_on : NamespaceBindingsIter → Listing
listed_on it = bindings_of it.cursor it.resolver.now

abbrev pub listed_on_level : NamespaceBindingsOfLevelIter → Listing
listed_on_level it = bindings_at_of it.level it.cursor it.resolver.now

-- the iterator after that
abbrev pub after_shown : NamespaceBindingsIter → NamespaceBindingsIter
after_shown it = record { resolver = it.resolver; cursor = (listed_on it).place }

abbrev pub after_shown_at : NamespaceBindingsOfLevelIter → NamespaceBindingsOfLevelIter
after_shown_at it = record { resolver = it.resolver; cursor = (listed_on_level it).place; level = it.level }

-- what an iterator shows, step after step, up to the end and at most n
unfoldable pub iterated : {It : Type 0} → (It → Listed) → (It → It) → ℕ → It → List Listed
iterated shows after zero it = []
iterated shows after (suc n) it = pick (is_last (shows it)) [] (shows it ∷ iterated shows after n (after it))

-- The iterator that `bindings` makes shows all bindings in effect but the built-in ones, and nothing else.
abbrev pub IteratesInEffect : Bor NamespaceResolver → Type 0
IteratesInEffect x =
    let rows = record_at x.now.records in
    let count = x.now.head.count in
    (more : ℕ) →
    iterated (λ it. (listed_on it).answer) after_shown (suc count + more) (in_effect_on x) ≡ showing rows (in_effect x.now.text rows count) 2 (count - 2)

-- The iterator that `bindings_of` makes shows all nonempty bindings of its level, and nothing else.
abbrev pub IteratesLevel : Bor NamespaceResolver → ℕ → Type 0
IteratesLevel x level =
    let rows = record_at x.now.records in
    let count = x.now.head.count in
    (more : ℕ) →
    iterated (λ it. (listed_on_level it).answer) after_shown_at (suc count + more) (level_on x level) ≡ showing rows (λ i. at_level level (rows i)) 0 count
