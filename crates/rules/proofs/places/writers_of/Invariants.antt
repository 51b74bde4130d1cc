-- `writers_of` meets its contract: after k places the writers are those of the first k.
-- Assumes nothing.
use Rattle.rules.specs.Orders.{Writers}
use Rattle.rules.proofs.places.writers_of.Given as goal

abbrev pub invariant-loop-k : goal.invariant-loop-k
invariant-loop-k l = Writers l.order l.outcomes l.tables l.k l.writers
