-- The numbers of a lookup's answer, and those of an optional namespace, tell all cases apart: each can be read back.
use Prim.Native.Nat.{ℕ}
use mathlib.Core.Path.{◌≡◌, refl, sym, ap, ◌∙◌}
use mathlib.Core.List.{List}
use lib.Dec.{eqb}
use lib.ListN.{get_or, length}
use Rattle.scan.specs.First.{pick}
use Rattle.scope_lookup.specs.Lookup.{Resolved, resolved_numbers, namespace_numbers}
use Rattle.std.specs.Prelude.{Option, Some, None, Result, Ok, Err}
use Rattle.scope_table.specs.declared.FormError.TheVariants.{BadResolver, WrongLength}
use Rattle.scope_lookup.specs.declared.ResolveResult.TheVariants.{Bound, Unbound, Unknown}
use Rattle.scope_lookup.specs.declared.Namespace.{Namespace}
use Rattle.scope_lookup.specs.declared.LookupError.{LookupError}
use Rattle.scope_lookup.specs.declared.LookupError.TheVariants.{UnknownPrefix, Form}

resolved_by : List ℕ → Resolved
resolved_by l =
    pick (eqb (get_or l 0 0) 1) (Ok (Bound (get_or l 1 0) (get_or l 2 0)))
    (pick (eqb (get_or l 0 0) 2) (Ok (Unknown (get_or l 1 0) (get_or l 2 0)))
    (pick (eqb (get_or l 0 0) 20) (Err BadResolver)
    (pick (eqb (get_or l 0 0) 99) (Err WrongLength) (Ok Unbound))))

resolved_back : (f : Resolved) → resolved_by (resolved_numbers f) ≡ f
unfolding resolved_numbers resolved_by
resolved_back (Ok (Bound a e)) = refl
resolved_back (Ok Unbound) = refl
resolved_back (Ok (Unknown a e)) = refl
resolved_back (Err BadResolver) = refl
resolved_back (Err WrongLength) = refl

pub resolved_apart : (f g : Resolved) → resolved_numbers f ≡ resolved_numbers g → f ≡ g
resolved_apart f g e = sym (resolved_back f) ∙ ap resolved_by e ∙ resolved_back g

namespace_by : List ℕ → Result (Option Namespace) LookupError
namespace_by l =
    pick (eqb (get_or l 0 0) 11) (Err (UnknownPrefix (get_or l 1 0) (get_or l 2 0)))
    (pick (eqb (get_or l 0 0) 20) (Err (Form BadResolver))
    (pick (eqb (get_or l 0 0) 99) (Err (Form WrongLength))
    (pick (eqb (length l) 3) (Ok (Some (record { start = get_or l 1 0; end = get_or l 2 0 }))) (Ok None))))

namespace_back : (a : Result (Option Namespace) LookupError) → namespace_by (namespace_numbers a) ≡ a
unfolding namespace_numbers namespace_by
namespace_back (Ok (Some n)) = refl
namespace_back (Ok None) = refl
namespace_back (Err (UnknownPrefix a e)) = refl
namespace_back (Err (Form BadResolver)) = refl
namespace_back (Err (Form WrongLength)) = refl

pub namespace_apart : (a b : Result (Option Namespace) LookupError) → namespace_numbers a ≡ namespace_numbers b → a ≡ b
namespace_apart a b e = sym (namespace_back a) ∙ ap namespace_by e ∙ namespace_back b
