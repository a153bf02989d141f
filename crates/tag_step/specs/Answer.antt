-- The code's alias `Answer`, written again, since an alias of the code has no name in specs/.
use Rattle.std.specs.Prelude.{Option, Result}
use Rattle.tag_step.specs.declared.Attr.{Attr}
use Rattle.tag_step.specs.declared.AttrError.{AttrError}

-- an attribute, a refusal, or None where nothing is left
abbrev pub Answer : Type 0
Answer = Option (Result Attr AttrError)
