-- `sendoshi::sendoshi_scan` meets its contract.
-- Assumes nothing.
use mathlib.Core.Path.{ap, ◌∙◌}
use native.Mathlib.Omega.{arith}
use Rattle.event_log.specs.declared.columns.History.{History}
use Rattle.event_log.specs.Lent.{columns_of}
use Rattle.event_log.specs.Columns.{columns}
use Rattle.scan.specs.Answer.{scan_answer, said}
use Rattle.codes.specs.Decoded.{no_value, never}
use Rattle.codes.proofs.CodeLaws.{Decodable, answer-known, call-coded, call-decoded}
use Rattle.sendoshi.specs.Calls.{scan_call}
use Rattle.sendoshi.proofs.Bounds.{scan-decodable}
use Rattle.sendoshi.proofs.sendoshi_scan.Goals as goal
use Rattle.sendoshi.proofs.sendoshi_scan.Goals.{Start}

decodable : (s : Start)
    → Decodable no_value never
    (said (scan_answer s.args.edition s.args.starts.now (columns s.args.kinds.now s.args.transactions.now s.args.registers.now
    s.args.values.now s.args.threads.now) s.args.count))
decodable s = scan-decodable s.args.edition s.args.starts.now (columns s.args.kinds.now s.args.transactions.now s.args.registers.now
    s.args.values.now s.args.threads.now) s.args.count (omega arith)

pub scan_code-requires : goal.scan_code-requires
scan_code-requires c =
    answer-known said no_value never (c.scan_history.ensures ∙ ap (λ (h : History). scan_answer h.edition h.starts.now (columns_of h.columns) h.count) c.history_of-history.ensures) (decodable (goal.at.scan_code-requires c).Start)

pub returns : goal.returns
unfolding scan_call
returns c =
    let g = c.scan_history.ensures ∙ ap (λ (h : History). scan_answer h.edition h.starts.now (columns_of h.columns) h.count) c.history_of-history.ensures in
    let d = decodable (goal.at.returns c).Start in
    record {
      value = call-coded said no_value never g d c.scan_code.ensures;
      result_value = call-decoded said no_value never g d c.scan_code.ensures;
    }
