-- `ranks_of` meets its contract: after i events each rank is that of the first i.
-- Assumes nothing.
use Prim.Native.Nat.{◌<◌}
use Rattle.links.specs.declared.tables.Rank.TheVariants.{Live}
use Rattle.links.specs.Tables.{rank_noted}
use Rattle.links.proofs.TableLaws.{slots-start, slots-more}
use Rattle.opacity.proofs.Bounds.{transaction-low}
use Rattle.std.proofs.Common.{arith}
use Rattle.links.proofs.tables.ranks_of.Goals as goal

pub loop-e-init : goal.loop-e-init
loop-e-init c = slots-start _ _ _

pub loop-e-preserved : goal.loop-e-preserved
loop-e-preserved c =
    let h = c.args.log.now in
    let low : c.from-t.result < 64 = omega (arith, c.from-t.ensures, transaction-low h c.requires c.loop-e.e-index c.loop-e-test.true) in
    slots-more Live rank_noted h c.loop-e.e-index c.from-t.ensures low c.rank_with.ensures c.loop-e.invariant
