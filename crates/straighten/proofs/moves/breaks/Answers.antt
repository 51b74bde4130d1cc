-- `breaks` meets its contract: by the two rules, one after the other.
-- Assumes nothing.
use mathlib.Core.Path.{sym}
use Rattle.lists.specs.Lists.{◌and◌}
use Rattle.straighten.proofs.moves.breaks.Goals as goal

pub returns-then-not-holds_at : goal.returns-then-not-holds_at
unfolding ◌and◌
returns-then-not-holds_at c = rw (sym c.holds_at.ensures, c.if-not-holds_at.true)

pub returns-else-not-holds_at : goal.returns-else-not-holds_at
unfolding ◌and◌
returns-else-not-holds_at c = rw (sym c.holds_at.ensures, c.if-not-holds_at.false, sym c.holds_at-else-not-holds_at.ensures)
