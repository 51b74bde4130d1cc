-- `tables_of` meets its contract: after i events each table is that of the first i.
-- Assumes nothing.
use Rattle.links.specs.Tables.{blank, noted, Slots}
use Rattle.links.proofs.tables.tables_of.Given as goal

abbrev pub invariant-loop-i : goal.invariant-loop-i
invariant-loop-i l = Slots blank noted l.log l.i l.tables
