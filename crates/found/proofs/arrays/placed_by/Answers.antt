-- `found::arrays::placed_by` meets its contract: the first k places stand in the arrays. Assumes nothing.
use Rattle.lists.proofs.FilledLaws.{filled_none}
use Rattle.found.proofs.arrays.placed_by.Goals as goal

pub loop-k-init : goal.loop-k-init
loop-k-init c = record { transactions = filled_none _ _ _; ends = filled_none _ _ _ }
