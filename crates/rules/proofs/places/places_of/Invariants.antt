-- `rules::places::places_of` meets its contract.
-- Assumes nothing.
use Rattle.rules.specs.Orders.{Inverse}
use Rattle.rules.proofs.places.places_of.Given as goal

abbrev pub invariant-loop-k : goal.invariant-loop-k
invariant-loop-k l = Inverse l.order l.k l.place
