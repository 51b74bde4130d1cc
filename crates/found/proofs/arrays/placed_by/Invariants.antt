-- `found::arrays::placed_by` meets its contract: the first k places stand in the arrays. Assumes nothing.
use Rattle.found.specs.Arrays.{Arrayed}
use Rattle.found.proofs.arrays.placed_by.Given as goal

abbrev pub invariant-loop-k : goal.invariant-loop-k
invariant-loop-k l = Arrayed l.codes l.k l.order l.outcomes
