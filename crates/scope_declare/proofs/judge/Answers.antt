-- `scope_declare::judge` meets its contract: each arm says which case it is.
use mathlib.Core.Path.{sym, ap, ◌∙◌}
use Rattle.std.specs.Prelude.{Ok, Err}
use Rattle.name.proofs.Verdicts.{named_apart}
use Rattle.scope_declare.specs.Declare.{named_of, judge_of}
use Rattle.scope_declare.proofs.judge.Goals as goal

pub returns-in-None : goal.returns-in-None
unfolding judge_of
returns-in-None c = rw c.in-None.is

pub returns-in-Some-Default : goal.returns-in-Some-Default
unfolding judge_of
returns-in-Some-Default c = rw (c.in-Some-Default.is, rw c.in-Some-Default.is at c.in-Some-Default.field-0-is)

pub returns-in-Ok-true : goal.returns-in-Ok-true
unfolding judge_of named_of
returns-in-Ok-true c = rw (c.in-Some-Named.is, rw c.in-Some-Named.is at c.in-Some-Named.field-0-is, sym (named_apart _ _ c.check_named-check.ensures) ∙ c.in-Ok-true.is ∙ ap Ok c.in-Ok-true.field-0-test)

pub returns-in-Ok-false : goal.returns-in-Ok-false
unfolding judge_of named_of
returns-in-Ok-false c = rw (c.in-Some-Named.is, rw c.in-Some-Named.is at c.in-Some-Named.field-0-is, sym (named_apart _ _ c.check_named-check.ensures) ∙ c.in-Ok-false.is ∙ ap Ok c.in-Ok-false.field-0-test)

pub returns-in-Err-InvalidXmlPrefixBind : goal.returns-in-Err-InvalidXmlPrefixBind
unfolding judge_of named_of
returns-in-Err-InvalidXmlPrefixBind c = rw (c.in-Some-Named.is, rw c.in-Some-Named.is at c.in-Some-Named.field-0-is, sym (named_apart _ _ c.check_named-check.ensures) ∙ c.in-Err-InvalidXmlPrefixBind.is ∙ ap Err (rw c.in-Err-InvalidXmlPrefixBind.is at c.in-Err-InvalidXmlPrefixBind.field-0-is))

pub returns-in-Err-InvalidXmlnsPrefixBind : goal.returns-in-Err-InvalidXmlnsPrefixBind
unfolding judge_of named_of
returns-in-Err-InvalidXmlnsPrefixBind c = rw (c.in-Some-Named.is, rw c.in-Some-Named.is at c.in-Some-Named.field-0-is, sym (named_apart _ _ c.check_named-check.ensures) ∙ c.in-Err-InvalidXmlnsPrefixBind.is ∙ ap Err (rw c.in-Err-InvalidXmlnsPrefixBind.is at c.in-Err-InvalidXmlnsPrefixBind.field-0-is))

pub returns-in-Err-InvalidPrefixForXml : goal.returns-in-Err-InvalidPrefixForXml
unfolding judge_of named_of
returns-in-Err-InvalidPrefixForXml c = rw (c.in-Some-Named.is, rw c.in-Some-Named.is at c.in-Some-Named.field-0-is, sym (named_apart _ _ c.check_named-check.ensures) ∙ c.in-Err-InvalidPrefixForXml.is ∙ ap Err (rw c.in-Err-InvalidPrefixForXml.is at c.in-Err-InvalidPrefixForXml.field-0-is))

pub returns-in-Err-InvalidPrefixForXmlns : goal.returns-in-Err-InvalidPrefixForXmlns
unfolding judge_of named_of
returns-in-Err-InvalidPrefixForXmlns c = rw (c.in-Some-Named.is, rw c.in-Some-Named.is at c.in-Some-Named.field-0-is, sym (named_apart _ _ c.check_named-check.ensures) ∙ c.in-Err-InvalidPrefixForXmlns.is ∙ ap Err (rw c.in-Err-InvalidPrefixForXmlns.is at c.in-Err-InvalidPrefixForXmlns.field-0-is))
