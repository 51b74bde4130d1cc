-- `pruning::effects::registers_of` meets its contract.
-- Assumes nothing.
use Rattle.pruning.proofs.EffectLaws.{WritesBelow}
use Rattle.pruning.proofs.effects.registers_of.Given as goal

abbrev pub invariant-loop-r : goal.invariant-loop-r
invariant-loop-r l = WritesBelow l.facts l.t l.registers l.r
