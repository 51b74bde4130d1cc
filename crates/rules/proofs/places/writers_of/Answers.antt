-- `writers_of` meets its contract: after k places the writers are those of the first k.
-- Assumes nothing.
use Rattle.lists.proofs.FilledLaws.{filled_none}
use Rattle.rules.proofs.places.writers_of.Goals as goal

pub loop-k-init : goal.loop-k-init
loop-k-init c = filled_none _ _ _
