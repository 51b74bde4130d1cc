-- `pruning::effects::orphan` meets its contract.
-- Assumes nothing.
use lib.Bits.{bit_and}
use Rattle.places.specs.Facts.{reads_asked}
use Rattle.places.specs.State.{Within}
use Rattle.pruning.proofs.effects.orphan.Given as goal

abbrev pub invariant-loop-r : goal.invariant-loop-r
invariant-loop-r l = Within (bit_and (reads_asked l.constraints.facts.now l.constraints.asked l.t) l.overwritten) l.r-iterator.left
