-- The text that 12 to 15 hold. The crate's errors hold the text itself; here an answer holds its bounds.
use Rattle.std.specs.Prelude.{ℕ, List, Ok, Err}
use Rattle.scan.specs.Bytes.{Marks}
use Rattle.scope_table.specs.Answer.{NamespaceResult}
use Rattle.scope_table.specs.declared.NamespaceError.TheVariants.{InvalidXmlPrefixBind, InvalidXmlnsPrefixBind, InvalidPrefixForXml, InvalidPrefixForXmlns, TooManyBindings, TooDeeplyNested, BindingTableFull, TextFull, BadResolver, LendMore, WrongLength}

-- What 12 to 15 hold is this text, as their bounds mark it: 12 and 13 in the bytes that the value stands in, 14 and 15 in
-- those that the prefix stands in. No other answer holds a text.
abbrev pub HoldsText : (prefixBytes valueBytes : List ℕ) → NamespaceResult → (text : List ℕ) → Type 0
HoldsText p v (Ok tt) text = Unit {0}
HoldsText p v (Err (InvalidXmlPrefixBind a e)) text = Marks v a e text
HoldsText p v (Err (InvalidXmlnsPrefixBind a e)) text = Marks v a e text
HoldsText p v (Err (InvalidPrefixForXml a e)) text = Marks p a e text
HoldsText p v (Err (InvalidPrefixForXmlns a e)) text = Marks p a e text
HoldsText p v (Err (TooManyBindings limit)) text = Unit {0}
HoldsText p v (Err (TooDeeplyNested depth)) text = Unit {0}
HoldsText p v (Err BindingTableFull) text = Unit {0}
HoldsText p v (Err TextFull) text = Unit {0}
HoldsText p v (Err BadResolver) text = Unit {0}
HoldsText p v (Err LendMore) text = Unit {0}
HoldsText p v (Err WrongLength) text = Unit {0}
