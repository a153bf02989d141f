-- What a listing shows across the boundary, by numbers.
use Rattle.std.specs.Prelude.{ℕ, List, set}
use Rattle.scope_listing.specs.Listing.{listed_numbers, lined_up}
use Rattle.scope_listing.specs.declared.LinedUp.{LinedUp}
use Rattle.scope_listing.specs.declared.Listing.{Listing}
use Rattle.export_memory.specs.Boundary.{Asked, asked}

-- the number of an answer; its four bounds, 0 where it has none, and then the place to go on from, in the detail
abbrev pub listed_as : LinedUp → (place : ℕ) (detail : List ℕ) → Asked
listed_as n place detail =
    asked n.number
    (set (set (set (set (set detail 0 n.prefix_from) 1 n.prefix_to) 2 n.value_from) 3 n.value_to) 4 place)

unfoldable pub listed_by : Listing → (detail : List ℕ) → Asked
listed_by l detail = listed_as (lined_up (listed_numbers l.answer)) l.place detail
