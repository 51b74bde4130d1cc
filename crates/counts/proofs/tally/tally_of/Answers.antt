-- `tally_of` meets its contract: after t transactions the counts are of those below t. Assumes nothing.
use Prim.Native.Nat.{◌+◌, ◌<◌}
use mathlib.Core.Path.{◌≡◌, sym, ◌∙◌}
use lib.ListN.{take, get_or}
use Rattle.std.proofs.Common.{arith}
use Rattle.links.specs.declared.tables.Rank.{Rank}
use Rattle.links.specs.declared.tables.Rank.TheVariants.{Live}
use Rattle.counts.specs.declared.tally.Tally.{Tally}
use Rattle.counts.proofs.TallyLaws.{with_rank, Counted, Few, counted-first, counts-few, counted-more, counted-all, ranked, ranked-length, ranked-at, few-enough}
use Rattle.counts.proofs.tally.tally_of.Goals as goal
use Rattle.counts.proofs.tally.tally_of.Goals.{In-loop-rank, in-Committed, in-Aborted, in-Pending, in-Live}

-- the transaction at hand is one of those that the ranks are of, so that no count of those before it is too large
few : (c : In-loop-rank) → c.loop-rank.rank-index < 64
few c =
    few-enough c.args.log.now c.requires c.ranks_of-ranks.result c.ranks_of-ranks.ensures
    c.transactions_begun-begun.result c.transactions_begun-begun.ensures c.loop-rank.rank-index c.loop-rank-test.true

so-far : (c : In-loop-rank) → Few c.args.log.now c.loop-rank.tally c.loop-rank.rank-index c.loop-rank.invariant
so-far c = counts-few c.args.log.now c.loop-rank.tally c.loop-rank.rank-index c.loop-rank.invariant

-- one transaction more
more : (c : In-loop-rank) (k : Rank) (x : Tally)
    → get_or (take c.transactions_begun-begun.result c.ranks_of-ranks.result) c.loop-rank.rank-index Live ≡ k
    → x ≡ with_rank k c.loop-rank.tally → Counted c.args.log.now x (c.loop-rank.rank-index + 1)
more c k x e f =
    let t = c.loop-rank.rank-index in
    let status = ranked-at c.args.log.now c.requires c.ranks_of-ranks.result c.ranks_of-ranks.ensures
    c.transactions_begun-begun.result c.transactions_begun-begun.ensures t c.loop-rank-test.true in
    rw f (counted-more c.args.log.now c.loop-rank.tally t c.loop-rank.invariant k (sym e ∙ status))

pub slice_bounds-ranks-end : goal.slice_bounds-ranks-end
slice_bounds-ranks-end c =
    ranked c.args.log.now c.requires c.ranks_of-ranks.result c.ranks_of-ranks.ensures
    c.transactions_begun-begun.result c.transactions_begun-begun.ensures

pub slice_bounds-rank-items-end : goal.slice_bounds-rank-items-end
slice_bounds-rank-items-end c =
    sym (ranked-length c.args.log.now c.requires c.ranks_of-ranks.result c.ranks_of-ranks.ensures
    c.transactions_begun-begun.result c.transactions_begun-begun.ensures)

pub loop-rank-init : goal.loop-rank-init
loop-rank-init c = counted-first c.args.log.now

pub overflow_add-tally : goal.overflow_add-tally
overflow_add-tally c = let on = (goal.at.overflow_add-tally c).In-loop-rank in omega (arith, (so-far on).committed, few on)

pub overflow_add-tally-in-Aborted : goal.overflow_add-tally-in-Aborted
overflow_add-tally-in-Aborted c = let on = (goal.at.overflow_add-tally-in-Aborted c).In-loop-rank in omega (arith, (so-far on).aborted, few on)

pub overflow_add-tally-in-Pending : goal.overflow_add-tally-in-Pending
overflow_add-tally-in-Pending c = let on = (goal.at.overflow_add-tally-in-Pending c).In-loop-rank in omega (arith, (so-far on).pending, few on)

pub overflow_add-tally-in-Live : goal.overflow_add-tally-in-Live
overflow_add-tally-in-Live c = let on = (goal.at.overflow_add-tally-in-Live c).In-loop-rank in omega (arith, (so-far on).live, few on)

pub loop-rank-preserved : goal.loop-rank-preserved
loop-rank-preserved c =
    let on = (goal.at.loop-rank-preserved c).In-loop-rank in
    elim c.match-rank.branch [
      | in-Committed w ↦ more on _ _ w.in-Committed.is w.tally-is
      | in-Aborted w ↦ more on _ _ w.in-Aborted.is w.tally-is
      | in-Pending w ↦ more on _ _ w.in-Pending.is w.tally-is
      | in-Live w ↦ more on _ _ w.in-Live.is w.tally-is
    ]

pub returns : goal.returns
returns c =
    let begun = c.transactions_begun-begun in
    let length = ranked-length c.args.log.now c.requires c.ranks_of-ranks.result c.ranks_of-ranks.ensures begun.result begun.ensures in
    counted-all c.args.log.now _ c.loop-rank.rank-index (omega (arith, length, begun.ensures)) c.loop-rank.invariant
