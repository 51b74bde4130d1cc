-- `tally_of` meets its contract: after t transactions the counts are of those below t. Assumes nothing.
use Rattle.counts.proofs.TallyLaws.{Counted}
use Rattle.counts.proofs.tally.tally_of.Given as goal

abbrev pub invariant-loop-rank : goal.invariant-loop-rank
invariant-loop-rank l = Counted l.log l.tally l.rank-index
