-- Whether some bytes are a body of the productions, decided by one pass over them.
use Rattle.std.specs.Prelude.{ℕ, Bool, true, false, List, [], ◌∷◌, eqb}
use Rattle.scan.specs.First.{pick}
use Rattle.scan.specs.Bytes.{is_space}
use Rattle.law_wellformed.specs.Grammar.{Quote, double, single, quote_byte, name_byte, value_byte}

-- where the pass stands
pub data State : Type 0 where
  -- at the start, or right after a value
  outside : State
  -- after whitespace that may come before an attribute
  spaced : State
  in_name : State
  -- after whitespace that stands before `=`
  named : State
  after_eq : State
  in_value : Quote → State
  -- right after `&`, and in what it names
  ampersand : Quote → State
  in_reference : Quote → State
  -- no body begins so
  dead : State

-- what one byte does
unfoldable pub after : State → ℕ → State
after outside b = pick (is_space b) spaced dead
after spaced b = pick (is_space b) spaced (pick (name_byte b) in_name dead)
after in_name b = pick (name_byte b) in_name (pick (is_space b) named (pick (eqb b 61) after_eq dead))
after named b = pick (is_space b) named (pick (eqb b 61) after_eq dead)
after after_eq b = pick (is_space b) after_eq (pick (eqb b 34) (in_value double) (pick (eqb b 39) (in_value single) dead))
after (in_value q) b = pick (value_byte q b) (in_value q) (pick (eqb b 38) (ampersand q) (pick (eqb b (quote_byte q)) outside dead))
after (ampersand q) b = pick (name_byte b) (in_reference q) dead
after (in_reference q) b = pick (eqb b 59) (in_value q) (pick (name_byte b) (in_reference q) dead)
after dead b = dead

unfoldable pub passes : State → List ℕ → State
passes x [] = x
passes x (b ∷ s) = passes (after x b) s

-- A body ends after a value, or after whitespace there.
unfoldable pub accepts : State → Bool
accepts outside = true
accepts spaced = true
accepts in_name = false
accepts named = false
accepts after_eq = false
accepts (in_value q) = false
accepts (ampersand q) = false
accepts (in_reference q) = false
accepts dead = false

unfoldable pub is_body : List ℕ → Bool
is_body s = accepts (passes outside s)
