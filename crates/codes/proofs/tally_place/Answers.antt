-- `codes::tally_place` meets its contract.
-- Assumes nothing.
use Rattle.codes.specs.Codes.{halves, pair}
use Rattle.codes.proofs.tally_place.Goals as goal

pub returns : goal.returns
unfolding halves pair
returns c = c.join.ensures
