-- `lowest::find_order` meets its contract: the tables are those of the events passed. Assumes nothing.
use mathlib.Core.Path.{◌≡◌}
use lib.ListN.{take}
use Rattle.tables.specs.Tables.{tables_of}
use Rattle.lowest.proofs.find_order.Given as goal

abbrev pub invariant-loop-e : goal.invariant-loop-e
invariant-loop-e l = l.tables ≡ tables_of (take l.e-index l.log)
