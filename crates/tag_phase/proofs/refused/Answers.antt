-- `tag_phase::refused` meets its contract: bounds that are no key's are not asked; else the verdict decides.
use Rattle.std.proofs.Common.{◌<◌, ◌∙◌, length, arith}
use borrow.Author.Tests.{lt-leb, le-ltb}
use Rattle.tag_phase.proofs.Paths.{refused_empty, refused_outside, refused_asked, refused_err}
use Rattle.tag_phase.proofs.refused.Goals.{then-key, else-key}
use Rattle.tag_phase.proofs.refused.Goals as goal

pub returns-then-key-tag : goal.returns-then-key-tag
returns-then-key-tag c = c.is_err.ensures.value ∙ refused_err _ ∙ refused_asked _ _ _ _ (omega (arith, c.if-key-tag.true)) (omega (arith, c.if-key-tag.true)) _ c.check_in.ensures

pub returns-else-key-tag : goal.returns-else-key-tag
returns-else-key-tag c =
    elim c.if-key.branch [
      | then-key w ↦
          let past : length c.args.tag.now < c.args.key.end = omega (arith, c.if-key-tag.either) in
          w.t-9-is ∙ lt-leb _ _ past ∙ refused_outside _ _ _ _ w.if-key.true past
      | else-key w ↦ w.t-9-is ∙ le-ltb _ _ w.if-key.false ∙ refused_empty _ _ _ _ w.if-key.false
    ]
