-- `judge_log` meets its contract: each line by its function. Assumes nothing.
use Rattle.scan.specs.Logs.{scan_of}
use Rattle.capture.specs.Report.{marking_of, opacity_of, judged}
use Rattle.capture.proofs.judge_log.Goals as goal

pub returns : goal.returns
unfolding judged marking_of opacity_of scan_of
returns c =
    λ i. record {
      counts = c.counts_of-counts.ensures i;
      tally = c.tally_of-tally.ensures i;
      marking = c.check_log-marking.ensures i;
      opacity = c.scan_log-opacity.ensures i;
    }
