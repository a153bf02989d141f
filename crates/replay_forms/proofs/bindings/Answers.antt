-- The numbers of what is shown tell it apart, and the place is where the iterator then stands.
use Rattle.std.proofs.Common.{◌≡◌, ap, ◌∙◌}
use Rattle.scope_listing.specs.Listing.{Listed, listing, listed_numbers, bindings_of}
use Rattle.scope_listing.proofs.Numbers.{listed_apart}
use Rattle.scope_listing_carried.specs.Listings.{listed_on, after_shown}
use Rattle.scope_listing_carried.specs.declared.NamespaceBindingsIter.{NamespaceBindingsIter}
use Rattle.replay_forms.proofs.bindings.Goals as goal

shown : (a : Listed) (it left : NamespaceBindingsIter) → listed_numbers a ≡ listed_numbers (listed_on it).answer → left ≡ after_shown it → listing a left.cursor ≡ listed_on it
shown a it left e f =
    ap (λ (x : NamespaceBindingsIter). listing a x.cursor) f
    ∙ ap (λ (b : Listed). listing b (listed_on it).place) (listed_apart a (listed_on it).answer e)

pub returns : goal.returns
returns c =
    shown _ _ _ c.next-answer.ensures.0 c.next-answer.ensures.1
    ∙ ap (λ (x : NamespaceBindingsIter). bindings_of c.args.cursor x.resolver.now) c.bindings-it.ensures
