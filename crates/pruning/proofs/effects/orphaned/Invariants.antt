-- `pruning::effects::orphaned` meets its contract.
-- Assumes nothing.
use Rattle.places.specs.State.{Within}
use Rattle.pruning.proofs.effects.orphaned.Given as goal

abbrev pub invariant-loop-t : goal.invariant-loop-t
invariant-loop-t l = Within l.need l.t-iterator.left
