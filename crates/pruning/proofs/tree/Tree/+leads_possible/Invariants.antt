-- The proof of the cycle of calls {leads, possible}. The measure: 2 for each unplaced transaction, and 1 before one is chosen.
-- Assumes nothing.
use lib.Count.{ones}
use Rattle.places.specs.Told.{told}
use Rattle.places.proofs.SetLaws.{Walked}
use Rattle.pruning.proofs.HopeLaws.{Missed}
use Prim.Native.Nat.{◌+◌, ◌*◌}
use Rattle.pruning.proofs.tree.Tree.+leads_possible.Given as goal

abbrev pub invariant-possible-loop-t : goal.invariant-possible-loop-t
invariant-possible-loop-t l = Walked (Missed (told l.self.constraints) l.s l.rest) l.ready l.t-iterator.left

-- 2 for each unplaced transaction, and 1 before one is chosen
abbrev pub decreases-leads : goal.decreases-leads
decreases-leads l = ones l.s.unplaced * 2

abbrev pub decreases-possible : goal.decreases-possible
decreases-possible l = ones l.s.unplaced * 2 + 1
