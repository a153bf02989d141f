-- `replay_tags::opened_as` meets its contract: the mode is the one of the call.

use Rattle.replay_tags.proofs.opened_as.Goals as goal

pub returns-then-html : goal.returns-then-html
returns-then-html c = rw c.if-html.true c.opened_html.ensures

pub returns : goal.returns
returns c = rw c.if-html.false c.opened.ensures
