-- `sendoshi::sendoshi_check` meets its contract.
-- Assumes nothing.
use mathlib.Core.Path.{ap, ◌∙◌}
use native.Mathlib.Omega.{arith}
use Rattle.event_log.specs.declared.columns.History.{History}
use Rattle.event_log.specs.Lent.{columns_of}
use Rattle.event_log.specs.Columns.{columns}
use Rattle.marking.specs.Answer.{verdict_answer, said}
use Rattle.codes.specs.Decoded.{no_value, of_marking}
use Rattle.codes.proofs.CodeLaws.{Decodable, answer-known, call-coded, call-decoded}
use Rattle.sendoshi.specs.Calls.{check_call}
use Rattle.sendoshi.proofs.Bounds.{check-decodable}
use Rattle.sendoshi.proofs.sendoshi_check.Goals as goal
use Rattle.sendoshi.proofs.sendoshi_check.Goals.{Start}

decodable : (s : Start)
    → Decodable no_value of_marking
    (said (verdict_answer s.args.edition s.args.starts.now (columns s.args.kinds.now s.args.transactions.now s.args.registers.now
    s.args.values.now s.args.threads.now) s.args.count s.args.file.now))
decodable s = check-decodable s.args.edition s.args.starts.now (columns s.args.kinds.now s.args.transactions.now s.args.registers.now
    s.args.values.now s.args.threads.now) s.args.count (omega arith) s.args.file.now

pub check_code-requires : goal.check_code-requires
check_code-requires c =
    answer-known said no_value of_marking (c.check_marking.ensures ∙ ap (λ (h : History). verdict_answer h.edition h.starts.now (columns_of h.columns) h.count c.args.file.now) c.history_of-history.ensures) (decodable (goal.at.check_code-requires c).Start)

pub returns : goal.returns
unfolding check_call
returns c =
    let g = c.check_marking.ensures ∙ ap (λ (h : History). verdict_answer h.edition h.starts.now (columns_of h.columns) h.count c.args.file.now) c.history_of-history.ensures in
    let d = decodable (goal.at.returns c).Start in
    record {
      value = call-coded said no_value of_marking g d c.check_code.ensures;
      result_value = call-decoded said no_value of_marking g d c.check_code.ensures;
    }
