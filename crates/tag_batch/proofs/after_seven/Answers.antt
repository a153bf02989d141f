-- `tag_batch::after_seven` meets its contract.
use borrow.Author.Tests.{lt-ltb, le-ltb}
use Rattle.tag_batch.proofs.after_seven.Goals as goal

pub returns-then-room-lt10 : goal.returns-then-room-lt10
returns-then-room-lt10 c = rw (lt-ltb _ _ c.if-room-lt10.true)

pub returns-else-room-lt10 : goal.returns-else-room-lt10
returns-else-room-lt10 c = rw (le-ltb _ _ c.if-room-lt10.false)
