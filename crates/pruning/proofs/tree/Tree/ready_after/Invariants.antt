-- `pruning::tree::Tree::ready_after` meets its contract, as `pruning::hope::ready_among` does.
-- Assumes nothing.
use Rattle.places.specs.State.{placed_of, Within, Keeps}
use Rattle.places.specs.Told.{told}
use Rattle.places.specs.Tree.{legal_reads}
use Rattle.pruning.specs.Runs.{Renewed}
use Rattle.pruning.proofs.tree.Tree.ready_after.Given as goal

abbrev pub invariant-loop-t : goal.invariant-loop-t
invariant-loop-t l =
    Keeps (Renewed (legal_reads (told l.self.constraints)) (placed_of l.s) l.x l.ready) l.s.unplaced l.after × Within l.after l.t-iterator.left
