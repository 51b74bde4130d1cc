-- `rules::order::pair_kept` meets its contract.
-- Assumes nothing.
use borrow.Author.Tests.{lt-ltb, le-ltb, le-leb}
use Rattle.lists.specs.Lists.{◌implies◌}
use Rattle.links.specs.Tables.{earlier}
use Rattle.rules.specs.Orders.{pair_by}
use Rattle.rules.proofs.order.pair_kept.Goals as goal

pub returns-then-begin-end : goal.returns-then-begin-end
unfolding pair_by earlier ◌implies◌
returns-then-begin-end c = rw (c.in-Some-Some.is-0, c.in-Some-Some.is-1, le-leb _ _ c.if-begin-end.true, le-ltb _ _ c.if-begin-end.true)

pub returns-else-begin-end : goal.returns-else-begin-end
unfolding pair_by earlier ◌implies◌
returns-else-begin-end c = rw (c.in-Some-Some.is-0, c.in-Some-Some.is-1, lt-ltb _ _ c.if-begin-end.false)

pub returns-in_default : goal.returns-in_default
unfolding pair_by earlier ◌implies◌
returns-in_default c = rw (c.in_default.is-0, c.in_default.is-1)

pub returns-in_default-2 : goal.returns-in_default-2
unfolding pair_by earlier ◌implies◌
returns-in_default-2 c = rw c.in_default.is-0
