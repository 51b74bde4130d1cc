-- `has_room` meets its contract: the output, and then the list.
-- Assumes nothing.
use borrow.Author.Tests.{le-leb, lt-leb}
use Rattle.lists.specs.Lists.{◌and◌}
use Rattle.straighten.proofs.has_room.Goals as goal

pub returns-then-marking-output : goal.returns-then-marking-output
unfolding ◌and◌
returns-then-marking-output c = rw (le-leb c.args.marking c.args.output c.if-marking-output.true)

pub returns-else-marking-output : goal.returns-else-marking-output
unfolding ◌and◌
returns-else-marking-output c = rw (lt-leb c.args.marking c.args.output c.if-marking-output.false)
