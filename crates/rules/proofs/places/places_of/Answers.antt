-- `rules::places::places_of` meets its contract.
-- Assumes nothing.
use Rattle.rules.proofs.OrderLaws.{inverse-start}
use Rattle.rules.proofs.places.places_of.Goals as goal

pub loop-k-init : goal.loop-k-init
loop-k-init c = inverse-start _
