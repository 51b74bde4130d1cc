-- `ranks_of` meets its contract: after i events each rank is that of the first i.
-- Assumes nothing.
use Rattle.links.specs.declared.tables.Rank.TheVariants.{Live}
use Rattle.links.specs.Tables.{rank_noted, Slots}
use Rattle.links.proofs.tables.ranks_of.Given as goal

abbrev pub invariant-loop-e : goal.invariant-loop-e
invariant-loop-e l = Slots Live rank_noted l.log l.e-index l.ranks
