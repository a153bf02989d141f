-- `replay_scopes::make` meets its contract: each call is the one of its name.
use mathlib.Core.Path.{◌∙◌}
use Rattle.replay_scopes.specs.Calls.{called_of}
use Rattle.replay_scopes.proofs.make.Goals as goal

pub returns-in-Fresh : goal.returns-in-Fresh
unfolding called_of
returns-in-Fresh g c = c.reset_to.ensures ∙ rw (c.fresh.ensures, c.in-Fresh.is)

pub returns-in-AddDefault : goal.returns-in-AddDefault
unfolding called_of
returns-in-AddDefault g c = c.changed_by.ensures ∙ rw (c.add.ensures, c.in-AddDefault.is)

pub returns-in-AddNamed : goal.returns-in-AddNamed
unfolding called_of
returns-in-AddNamed g c = c.changed_by-in-AddNamed.ensures ∙ rw (c.add-in-AddNamed.ensures, c.in-AddNamed.is)

pub returns-in-Push : goal.returns-in-Push
unfolding called_of
returns-in-Push g c = c.changed_by-in-Push.ensures ∙ rw (c.push.ensures, c.wide.ensures, c.in-Push.is)

pub returns-in-Pop : goal.returns-in-Pop
unfolding called_of
returns-in-Pop g c = c.changed_by-in-Pop.ensures ∙ rw (c.pop.ensures, c.in-Pop.is)

pub returns-in-SetLevel : goal.returns-in-SetLevel
unfolding called_of
returns-in-SetLevel g c = c.changed_by-in-SetLevel.ensures ∙ rw (c.set_level.ensures, c.in-SetLevel.is)

pub returns-in-SetLimit : goal.returns-in-SetLimit
unfolding called_of
returns-in-SetLimit g c = c.reset_to-in-SetLimit.ensures ∙ rw (c.set_limit.ensures, c.wide-in-SetLimit.ensures, c.in-SetLimit.is)

pub returns-in-ResolveAttribute : goal.returns-in-ResolveAttribute
unfolding called_of
returns-in-ResolveAttribute g c = c.looked_up.ensures ∙ rw (c.resolve_attribute.ensures, c.in-ResolveAttribute.is)

pub returns-in-ResolveElement : goal.returns-in-ResolveElement
unfolding called_of
returns-in-ResolveElement g c = c.looked_up-in-ResolveElement.ensures ∙ rw (c.resolve_element.ensures, c.in-ResolveElement.is)

pub returns-in-Bindings : goal.returns-in-Bindings
unfolding called_of
returns-in-Bindings g c = c.listed_as.ensures ∙ rw (c.bindings.ensures, c.wide-in-Bindings.ensures, c.in-Bindings.is)

pub returns-in-BindingsOf : goal.returns-in-BindingsOf
unfolding called_of
returns-in-BindingsOf g c = c.listed_as-in-BindingsOf.ensures ∙ rw (c.bindings_of.ensures, c.wide-in-BindingsOf.ensures, c.in-BindingsOf.is)
