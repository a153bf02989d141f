-- The numbers of what a listing shows tell all cases apart: each can be read back from them.
use Prim.Native.Nat.{ℕ}
use mathlib.Core.Path.{◌≡◌, refl, sym, ap, ◌∙◌}
use mathlib.Core.List.{List}
use lib.Dec.{eqb}
use lib.ListN.{get_or, length}
use Rattle.scan.specs.First.{pick}
use Rattle.scope_listing.specs.Listing.{Listed, shows, listing, listed_numbers, numbered_listing}
use Rattle.scope_listing.specs.declared.Listing.{Listing}
use Rattle.std.specs.Prelude.{Some, None, Ok, Err}
use Rattle.scope_table.specs.declared.FormError.TheVariants.{BadResolver, WrongLength}

listed_by : List ℕ → Listed
listed_by l =
    pick (eqb (length l) 5) (shows (get_or l 1 0) (get_or l 2 0) (get_or l 4 0))
    (pick (eqb (get_or l 0 0) 20) (Err BadResolver)
    (pick (eqb (get_or l 0 0) 99) (Err WrongLength) (Ok None)))

listed_back : (a : Listed) → listed_by (listed_numbers a) ≡ a
unfolding listed_numbers listed_by
listed_back (Ok (Some b)) = refl
listed_back (Ok None) = refl
listed_back (Err BadResolver) = refl
listed_back (Err WrongLength) = refl

pub listed_apart : (a b : Listed) → listed_numbers a ≡ listed_numbers b → a ≡ b
listed_apart a b e = sym (listed_back a) ∙ ap listed_by e ∙ listed_back b

-- and with them the place, what a listing hands back
pub listing_apart : (k l : Listing) → numbered_listing k ≡ numbered_listing l → k ≡ l
listing_apart k l e =
    ap (λ (a : Listed). listing a k.place) (listed_apart k.answer l.answer (ap (λ (x : List ℕ × ℕ). x.0) e))
    ∙ ap (listing l.answer) (ap (λ (x : List ℕ × ℕ). x.1) e)
