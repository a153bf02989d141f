-- An iterator that is opened with checks on, and then has them set, is the one that is opened so.
use Rattle.std.proofs.Common.{false, ap, ◌∙◌}
use Rattle.tag_carried.specs.declared.Attributes.{Attributes}
use Rattle.tag_carried.specs.Held.{checked_as}
use Rattle.replay_forms.proofs.Checked.{checked_opened}
use Rattle.replay_forms.proofs.opened.Goals as goal

pub returns : goal.returns
returns c =
    ap (λ (x : Attributes). x.state) c.with_checks.ensures
    ∙ ap (λ (x : Attributes). (checked_as c.args.checks x).state) c.new-it.ensures
    ∙ checked_opened c.args.pos false c.args.checks
