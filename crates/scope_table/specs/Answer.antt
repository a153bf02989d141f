-- What a call answers, by numbers: one that changes a resolver, with the resolver that it leaves; and the test that each call
-- makes first.
use Rattle.std.specs.Prelude.{ℕ, Bool, true, false, List, [], ◌∷◌, get_or, Result, Ok, Err}
use Rattle.scope_table.specs.declared.Told.{Told}
use Rattle.scope_table.specs.declared.FormError.{FormError}
use Rattle.scope_table.specs.declared.FormError.TheVariants as Is
use Rattle.scope_table.specs.declared.NamespaceResolver.{NamespaceResolver}
use Rattle.scope_table.specs.declared.Changed.{Changed}
use Rattle.scope_table.specs.declared.NamespaceError.{NamespaceError}
use Rattle.scope_table.specs.declared.NamespaceError.TheVariants.{InvalidXmlPrefixBind, InvalidXmlnsPrefixBind, InvalidPrefixForXml, InvalidPrefixForXmlns, TooManyBindings, TooDeeplyNested, BindingTableFull, TextFull, BadResolver, LendMore, WrongLength}

-- what a call that changes a resolver answers
abbrev pub NamespaceResult : Type 0
NamespaceResult = Result (Unit {0}) NamespaceError

-- The number of document 01 for each answer, and its values in the table's order: the text of 12 and 13 (the value) and
-- of 14 and 15 (the prefix) as the bounds of that text. Success has no number there, and is 0; 98 and 99 are those of lent
-- memory.
unfoldable pub change_numbers : NamespaceResult → List ℕ
change_numbers (Ok tt) = 0 ∷ []
change_numbers (Err (InvalidXmlPrefixBind a e)) = 12 ∷ a ∷ e ∷ []
change_numbers (Err (InvalidXmlnsPrefixBind a e)) = 13 ∷ a ∷ e ∷ []
change_numbers (Err (InvalidPrefixForXml a e)) = 14 ∷ a ∷ e ∷ []
change_numbers (Err (InvalidPrefixForXmlns a e)) = 15 ∷ a ∷ e ∷ []
change_numbers (Err (TooManyBindings limit)) = 16 ∷ limit ∷ []
change_numbers (Err (TooDeeplyNested depth)) = 17 ∷ depth ∷ []
change_numbers (Err BindingTableFull) = 18 ∷ []
change_numbers (Err TextFull) = 19 ∷ []
change_numbers (Err BadResolver) = 20 ∷ []
change_numbers (Err LendMore) = 98 ∷ []
change_numbers (Err WrongLength) = 99 ∷ []

-- Such a list as three numbers, 0 where it has none.
abbrev pub told_of : List ℕ → Told
told_of ns = record { number = get_or ns 0 0; first = get_or ns 1 0; second = get_or ns 2 0 }

-- whether an answer is no refusal
abbrev pub is_done : NamespaceResult → Bool
is_done (Ok tt) = true
is_done (Err e) = false

abbrev pub changed : NamespaceResult → NamespaceResolver → Changed
changed a x = record { answer = a; resolver = x }

-- An answer by its numbers, beside the resolver that it leaves: what a call for users promises.
abbrev pub numbered_change : Changed → List ℕ × NamespaceResolver
numbered_change c = (change_numbers c.answer, c.resolver)

-- The test of the form: 20 is document 01's number, and 99 that of lent memory. A resolver of the right form has none, and is 0.
abbrev pub form_number : Result (Unit {0}) FormError → ℕ
form_number (Ok tt) = 0
form_number (Err Is.BadResolver) = 20
form_number (Err Is.WrongLength) = 99

-- what the test of the form refuses, as a refusal of a call that changes a resolver
abbrev pub refused_form : FormError → NamespaceError
refused_form Is.BadResolver = BadResolver
refused_form Is.WrongLength = WrongLength
