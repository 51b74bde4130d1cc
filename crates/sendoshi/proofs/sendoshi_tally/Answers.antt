-- `sendoshi::sendoshi_tally` meets its contract.
-- Assumes nothing.
use mathlib.Core.Path.{ap, ◌∙◌}
use native.Mathlib.Omega.{arith}
use Rattle.event_log.specs.declared.columns.History.{History}
use Rattle.event_log.specs.Lent.{columns_of}
use Rattle.event_log.specs.Columns.{columns}
use Rattle.counts.specs.Answer.{tally_answer, tally_said}
use Rattle.codes.specs.Decoded.{four_values, never}
use Rattle.codes.proofs.CodeLaws.{Decodable, answer-known, call-coded, call-decoded}
use Rattle.sendoshi.specs.Calls.{tally_call}
use Rattle.sendoshi.proofs.Bounds.{tally-decodable}
use Rattle.sendoshi.proofs.sendoshi_tally.Goals as goal
use Rattle.sendoshi.proofs.sendoshi_tally.Goals.{Start}

decodable : (s : Start)
    → Decodable four_values never
    (tally_said (tally_answer s.args.edition s.args.starts.now (columns s.args.kinds.now s.args.transactions.now s.args.registers.now
    s.args.values.now s.args.threads.now) s.args.count))
decodable s = tally-decodable s.args.edition s.args.starts.now (columns s.args.kinds.now s.args.transactions.now s.args.registers.now
    s.args.values.now s.args.threads.now) s.args.count (omega arith)

pub tally_code-requires : goal.tally_code-requires
tally_code-requires c =
    answer-known tally_said four_values never (c.tally_transactions.ensures ∙ ap (λ (h : History). tally_answer h.edition h.starts.now (columns_of h.columns) h.count) c.history_of-history.ensures) (decodable (goal.at.tally_code-requires c).Start)

pub returns : goal.returns
unfolding tally_call
returns c =
    let g = c.tally_transactions.ensures ∙ ap (λ (h : History). tally_answer h.edition h.starts.now (columns_of h.columns) h.count) c.history_of-history.ensures in
    let d = decodable (goal.at.returns c).Start in
    record {
      value = call-coded tally_said four_values never g d c.tally_code.ensures;
      result_value = call-decoded tally_said four_values never g d c.tally_code.ensures;
    }
