-- `ways::less` meets its contract: by the test.
-- Assumes nothing.
use borrow.Author.Tests.{le-leb, lt-leb}
use Rattle.ways.specs.Private.{lesser}
use Rattle.ways.proofs.less.Goals as goal

pub returns-then-a-b : goal.returns-then-a-b
unfolding lesser
returns-then-a-b c = rw (le-leb _ _ c.if-a-b.true)

pub returns-else-a-b : goal.returns-else-a-b
unfolding lesser
returns-else-a-b c = rw (lt-leb _ _ c.if-a-b.false)
