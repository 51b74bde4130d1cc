-- `counts_of` meets its contract: each number is counted from the log. Assumes nothing.
use lib.ListN.{length}
use Rattle.opacity.specs.Counts.{counts}
use Rattle.capture.specs.Report.{counts_of}
use Rattle.capture.proofs.counts_of.Goals as goal

pub returns : goal.returns
unfolding counts_of counts
returns c =
    λ i. record {
      events = length c.args.log.now;
      transactions = c.transactions_begun-begun.ensures i;
      reads = c.count_store_reads-reads.ensures i;
    }
