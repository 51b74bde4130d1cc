-- `tables_of` meets its contract: after i events each table is that of the first i.
-- Assumes nothing.
use Rattle.links.specs.Tables.{blank, noted}
use Rattle.links.proofs.TableLaws.{slots-start, slots-more}
use Rattle.opacity.proofs.Bounds.{transaction-low}
use Rattle.std.proofs.Common.{arith}
use Rattle.links.proofs.tables.tables_of.Goals as goal

pub loop-i-init : goal.loop-i-init
loop-i-init c = slots-start _ _ _

pub loop-i-preserved : goal.loop-i-preserved
loop-i-preserved c = slots-more blank noted c.args.log.now c.loop-i.i c.from-t.ensures (omega (arith, c.from-t.ensures, transaction-low c.args.log.now c.requires c.loop-i.i c.loop-i-test.true)) c.noted.ensures c.loop-i.invariant
