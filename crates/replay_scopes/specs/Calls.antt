-- What a recorded call answers and leaves: the resolver's own definitions, their answers in the numbers of a record.
use Rattle.std.specs.Prelude.{ℕ, true, false, List, [], ◌∷◌, get_or, Some, None, Ok, Err}
use Rattle.name.specs.declared.PrefixDeclaration.TheVariants.{Default, Named}
use Rattle.scope_table.specs.Table.{fresh_of}
use Rattle.scope_table.specs.Answer.{change_numbers, NamespaceResult}
use Rattle.scope_table.specs.declared.NamespaceResolver.{NamespaceResolver}
use Rattle.scope_table.specs.declared.Changed.{Changed}
use Rattle.scope_change.specs.Change.{level_of}
use Rattle.scope_declare.specs.Declare.{add_of, pop_of, limited_of}
use Rattle.scope_push.specs.Push.{push_of}
use Rattle.scope_lookup.specs.Lookup.{Resolved, resolved_numbers, resolve_of}
use Rattle.scope_listing.specs.Listing.{Listed, listed_numbers, bindings_of, bindings_at_of}
use Rattle.scope_listing.specs.declared.Listing.{Listing}
use Rattle.replay_scopes.specs.declared.RecordedCall.{RecordedCall}
use Rattle.replay_scopes.specs.declared.RecordedCall.TheVariants.{Fresh, AddDefault, AddNamed, Push, Pop, SetLevel, SetLimit, ResolveAttribute, ResolveElement, Bindings, BindingsOf}
use Rattle.replay_scopes.specs.declared.Said.{Said}
use Rattle.replay_scopes.specs.declared.Called.{Called}

-- the call of a number; no record has one above 10
unfoldable pub recorded_call_of : ℕ → RecordedCall
recorded_call_of number =
    get_or
    (Fresh ∷ AddDefault ∷ AddNamed ∷ Push ∷ Pop ∷ SetLevel ∷ SetLimit ∷ ResolveAttribute ∷ ResolveElement ∷ Bindings ∷ [])
    number BindingsOf

-- an answer of at most two values
abbrev pub said_numbers : (code first second : ℕ) → Said
said_numbers code first second =
    record { code = code; first = first; second = second; third = 0; fourth = 0; fifth = 0 }

-- A changing call: document 01's number, 0 for success, and its values.
unfoldable pub change_said : NamespaceResult → Said
change_said a = said_numbers (get_or (change_numbers a) 0 0) (get_or (change_numbers a) 1 0) (get_or (change_numbers a) 2 0)

-- A lookup: 0, 1 with the bounds of the URI in the resolver's text, 2 with those of the prefix in the name; 20.
unfoldable pub lookup_said : Resolved → Said
lookup_said found = said_numbers (get_or (resolved_numbers found) 0 0) (get_or (resolved_numbers found) 1 0) (get_or (resolved_numbers found) 2 0)

-- the next place of a listing, which is recorded where a binding is shown
unfoldable pub place_after : Listed → (place : ℕ) → ℕ
place_after (Ok (Some b)) place = place
place_after (Ok None) place = 0
place_after (Err why) place = 0

-- A listing: 0 for its end, 1 for a default, 2 for a named one, with the bounds of prefix and value and the next place;
-- 20.
unfoldable pub listing_said : Listed → (place : ℕ) → Said
listing_said a place =
    record {
      code = get_or (listed_numbers a) 0 0;
      first = get_or (listed_numbers a) 1 0;
      second = get_or (listed_numbers a) 2 0;
      third = get_or (listed_numbers a) 3 0;
      fourth = get_or (listed_numbers a) 4 0;
      fifth = place_after a place;
    }

-- how many bindings an answer shows
unfoldable pub shown_in : Listed → ℕ
shown_in (Ok (Some b)) = 1
shown_in (Ok None) = 0
shown_in (Err why) = 0

abbrev pub called_with : Said → (names bindings : ℕ) → NamespaceResolver → Called
called_with s names bindings x = record { said = s; names = names; bindings = bindings; resolver = x }

-- A changing call leaves what its definition says; one with no refusals says 0.
unfoldable pub changed_by : Changed → Called
changed_by c = called_with (change_said c.answer) 0 0 c.resolver

unfoldable pub reset_to : NamespaceResolver → Called
reset_to x = called_with (said_numbers 0 0 0) 0 0 x

-- A question leaves the resolver as it was.
unfoldable pub called_lookup : NamespaceResolver → Resolved → Called
called_lookup x found = called_with (lookup_said found) 1 0 x

unfoldable pub called_listing : NamespaceResolver → Listing → Called
called_listing x l = called_with (listing_said l.answer l.place) 0 (shown_in l.answer) x

-- Each call on a resolver, with two numbers and two texts.
unfoldable pub called_of : NamespaceResolver → RecordedCall → (a b : ℕ) (first second : List ℕ) → Called
called_of x Fresh a b s t = reset_to fresh_of
called_of x AddDefault a b s t = changed_by (add_of (Some Default) s t x)
called_of x AddNamed a b s t = changed_by (add_of (Some Named) s t x)
called_of x Push a b s t = changed_by (push_of s a x)
called_of x Pop a b s t = changed_by (pop_of x)
called_of x SetLevel a b s t = changed_by (level_of a x)
called_of x SetLimit a b s t = reset_to (limited_of a x)
called_of x ResolveAttribute a b s t = called_lookup x (resolve_of s false x)
called_of x ResolveElement a b s t = called_lookup x (resolve_of s true x)
called_of x Bindings a b s t = called_listing x (bindings_of a x)
called_of x BindingsOf a b s t = called_listing x (bindings_at_of b a x)
