-- `places::state::place_of` meets its contract: the places behind those that are left are of others.
-- Assumes nothing.
use Rattle.places.proofs.PlaceLaws.{Looking}
use Rattle.places.proofs.state.place_of.Given as goal

abbrev pub invariant-loop-rest : goal.invariant-loop-rest
invariant-loop-rest l = Looking l.count l.order l.t l.left l.rest

abbrev pub decreases-loop-rest : goal.decreases-loop-rest
decreases-loop-rest l = l.left
