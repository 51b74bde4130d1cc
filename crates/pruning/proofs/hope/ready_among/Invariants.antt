-- `pruning::hope::ready_among` meets its contract: what it has taken out did not pass, and what is left to be asked is in it.
-- Assumes nothing.
use Rattle.places.specs.State.{Within}
use Rattle.places.specs.Told.{told}
use Rattle.pruning.specs.Runs.{Ready}
use Rattle.pruning.proofs.hope.ready_among.Given as goal

abbrev pub invariant-loop-t : goal.invariant-loop-t
invariant-loop-t l = Ready (told l.constraints) l.s l.ready × Within l.ready l.t-iterator.left
