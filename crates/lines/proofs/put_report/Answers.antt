-- `lines::put_report` meets its contract.
-- Assumes nothing.
use Rattle.lines.proofs.PutLaws.{put_first}
use Rattle.lines.proofs.put_report.Goals as goal

pub returns : goal.returns
returns c =
    let all = put_first c.new-text.ensures c.put_lines.ensures c.put_into.ensures in record {
      value = all.0;
      out_after = all.1;
    }
