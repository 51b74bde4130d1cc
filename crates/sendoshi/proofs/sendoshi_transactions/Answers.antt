-- `sendoshi::sendoshi_transactions` meets its contract.
-- Assumes nothing.
use mathlib.Core.Path.{ap, ◌∙◌}
use native.Mathlib.Omega.{arith}
use Rattle.event_log.specs.declared.columns.History.{History}
use Rattle.event_log.specs.Lent.{columns_of}
use Rattle.event_log.specs.Columns.{columns}
use Rattle.counts.specs.Answer.{transactions_answer, count_said}
use Rattle.codes.specs.Decoded.{one_value, never}
use Rattle.codes.proofs.CodeLaws.{Decodable, answer-known, call-coded, call-decoded}
use Rattle.sendoshi.specs.Calls.{transactions_call}
use Rattle.sendoshi.proofs.Bounds.{transactions-decodable}
use Rattle.sendoshi.proofs.sendoshi_transactions.Goals as goal
use Rattle.sendoshi.proofs.sendoshi_transactions.Goals.{Start}

decodable : (s : Start)
    → Decodable one_value never
    (count_said (transactions_answer s.args.edition s.args.starts.now (columns s.args.kinds.now s.args.transactions.now
    s.args.registers.now s.args.values.now s.args.threads.now) s.args.count))
decodable s = transactions-decodable s.args.edition s.args.starts.now (columns s.args.kinds.now s.args.transactions.now s.args.registers.now
    s.args.values.now s.args.threads.now) s.args.count (omega arith)

pub number_code-requires : goal.number_code-requires
number_code-requires c =
    answer-known count_said one_value never (c.count_transactions.ensures ∙ ap (λ (h : History). transactions_answer h.edition h.starts.now (columns_of h.columns) h.count) c.history_of-history.ensures) (decodable (goal.at.number_code-requires c).Start)

pub returns : goal.returns
unfolding transactions_call
returns c =
    let g = c.count_transactions.ensures ∙ ap (λ (h : History). transactions_answer h.edition h.starts.now (columns_of h.columns) h.count) c.history_of-history.ensures in
    let d = decodable (goal.at.returns c).Start in
    record {
      value = call-coded count_said one_value never g d c.number_code.ensures;
      result_value = call-decoded count_said one_value never g d c.number_code.ensures;
    }
