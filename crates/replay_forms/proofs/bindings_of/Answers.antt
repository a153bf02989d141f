-- The numbers of what is shown tell it apart, and the place is where the iterator then stands.
use Rattle.std.proofs.Common.{◌≡◌, ap, ◌∙◌}
use Rattle.scope_listing.specs.Listing.{Listed, listing, listed_numbers, bindings_at_of}
use Rattle.scope_listing.proofs.Numbers.{listed_apart}
use Rattle.scope_listing_carried.specs.Listings.{listed_on_level, after_shown_at}
use Rattle.scope_listing_carried.specs.declared.NamespaceBindingsOfLevelIter.{NamespaceBindingsOfLevelIter}
use Rattle.replay_forms.proofs.bindings_of.Goals as goal

shown : (a : Listed) (it left : NamespaceBindingsOfLevelIter) → listed_numbers a ≡ listed_numbers (listed_on_level it).answer → left ≡ after_shown_at it → listing a left.cursor ≡ listed_on_level it
shown a it left e f =
    ap (λ (x : NamespaceBindingsOfLevelIter). listing a x.cursor) f
    ∙ ap (λ (b : Listed). listing b (listed_on_level it).place) (listed_apart a (listed_on_level it).answer e)

pub returns : goal.returns
returns c =
    shown _ _ _ c.next-answer.ensures.0 c.next-answer.ensures.1
    ∙ ap (λ (x : NamespaceBindingsOfLevelIter). bindings_at_of x.level c.args.cursor x.resolver.now) c.bindings_of-it.ensures
