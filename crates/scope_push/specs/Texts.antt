-- The text that a refused `push` holds: that of the first declaration of its tag that 12 to 15 refuse.
use Rattle.std.specs.Prelude.{ℕ, Bool, true, false, List, [], ◌∷◌, Option, Some, None, Result, Ok, Err}
use Rattle.scan.specs.First.{pick}
use Rattle.name.specs.Bind.{reserved_bind, refused_text}
use Rattle.name.specs.declared.PrefixDeclaration.{PrefixDeclaration}
use Rattle.name.specs.declared.PrefixDeclaration.TheVariants.{Default, Named}
use Rattle.name.specs.declared.ReservedBinding.{ReservedBinding}
use Rattle.name.specs.declared.ReservedBinding.TheVariants as Check
use Rattle.scope_push.specs.Push.{Declaration}

-- the checks that refuse
abbrev pub refuses_named : Result Bool ReservedBinding → Bool
refuses_named (Ok true) = false
refuses_named (Ok false) = false
refuses_named (Err Check.InvalidXmlPrefixBind) = true
refuses_named (Err Check.InvalidXmlnsPrefixBind) = true
refuses_named (Err Check.InvalidPrefixForXml) = true
refuses_named (Err Check.InvalidPrefixForXmlns) = true

-- Only a named prefix is checked.
abbrev pub check_by : Option PrefixDeclaration → (prefix value : List ℕ) → Result Bool ReservedBinding
check_by None p v = Ok false
check_by (Some Default) p v = Ok true
check_by (Some Named) p v = reserved_bind p v

-- the text that the first refusal is to hold, none where none is refused
unfoldable pub refused_in : List Declaration → List ℕ
refused_in [] = []
refused_in (d ∷ more) =
    let check = check_by d.kind d.prefix d.value in
    pick (refuses_named check) (refused_text check d.prefix d.value) (refused_in more)
