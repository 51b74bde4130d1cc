-- `sendoshi::sendoshi_straighten` meets its contract.
-- Assumes nothing.
use mathlib.Core.Path.{ap, ◌∙◌}
use native.Mathlib.Omega.{arith}
use Rattle.event_log.specs.declared.columns.History.{History}
use Rattle.event_log.specs.Lent.{columns_of}
use Rattle.event_log.specs.Columns.{columns}
use Rattle.events.specs.Said.{Said}
use Rattle.straighten.specs.Answer.{Given, straightened_answer, said}
use Rattle.codes.specs.Decoded.{two_values, of_marking}
use Rattle.codes.proofs.CodeLaws.{Decodable, answer-known, call-decoded}
use Rattle.sendoshi.specs.Calls.{straighten_filled, straighten_call}
use Rattle.sendoshi.proofs.Bounds.{straighten-decodable}
use Rattle.sendoshi.proofs.sendoshi_straighten.Goals as goal
use Rattle.sendoshi.proofs.sendoshi_straighten.Goals.{Start}

abbrev said_by : Given → Said
said_by a = said a.result

decodable : (s : Start)
    → Decodable two_values of_marking
    (said_by (straightened_answer s.args.edition s.args.starts.now (columns s.args.kinds.now s.args.transactions.now
    s.args.registers.now s.args.values.now s.args.threads.now) s.args.count
    s.args.file.now s.args.output.now s.args.moved.now))
decodable s =
    straighten-decodable s.args.edition s.args.starts.now (columns s.args.kinds.now s.args.transactions.now s.args.registers.now
    s.args.values.now s.args.threads.now) s.args.count (omega arith)
    s.args.file.now s.args.output.now s.args.moved.now

pub straighten_code-requires : goal.straighten_code-requires
straighten_code-requires c =
    answer-known said_by two_values of_marking (c.straighten.ensures ∙ ap (λ (h : History). straightened_answer h.edition h.starts.now (columns_of h.columns) h.count c.args.file.now c.args.output.now c.args.moved.now) c.history_of-history.ensures) (decodable (goal.at.straighten_code-requires c).Start)

pub returns : goal.returns
unfolding straighten_call
returns c =
    let g = c.straighten.ensures ∙ ap (λ (h : History). straightened_answer h.edition h.starts.now (columns_of h.columns) h.count c.args.file.now c.args.output.now c.args.moved.now) c.history_of-history.ensures in
    let n = c.straighten_code.ensures in
    record {
      moved_after = rw n (ap straighten_filled g);
      result_value = call-decoded said_by two_values of_marking g (decodable (goal.at.returns c).Start) n;
    }
