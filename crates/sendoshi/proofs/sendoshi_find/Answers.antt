-- `sendoshi::sendoshi_find` meets its contract.
-- Assumes nothing.
use mathlib.Core.Path.{ap, ◌∙◌}
use native.Mathlib.Omega.{arith}
use Rattle.event_log.specs.declared.columns.History.{History}
use Rattle.event_log.specs.Lent.{columns_of}
use Rattle.event_log.specs.Columns.{columns}
use Rattle.events.specs.Said.{Said}
use Rattle.finder.specs.Answer.{Given, found_answer, said}
use Rattle.codes.specs.Decoded.{one_value, never}
use Rattle.codes.proofs.CodeLaws.{Decodable, answer-known, call-decoded}
use Rattle.sendoshi.specs.Calls.{found_filled, find_call}
use Rattle.sendoshi.proofs.Bounds.{find-decodable}
use Rattle.sendoshi.proofs.sendoshi_find.Goals as goal
use Rattle.sendoshi.proofs.sendoshi_find.Goals.{Start}

abbrev said_by : Given → Said
said_by a = said a.result

decodable : (s : Start)
    → Decodable one_value never
    (said_by (found_answer s.args.edition s.args.starts.now (columns s.args.kinds.now s.args.transactions.now s.args.registers.now
    s.args.values.now s.args.threads.now) s.args.count s.args.prefix s.args.output.now))
decodable s =
    find-decodable s.args.edition s.args.starts.now (columns s.args.kinds.now s.args.transactions.now s.args.registers.now s.args.values.now
    s.args.threads.now) s.args.count (omega arith)
    s.args.prefix s.args.output.now

pub found_code-requires : goal.found_code-requires
found_code-requires c =
    answer-known said_by one_value never (c.find_marking.ensures ∙ ap (λ (h : History). found_answer h.edition h.starts.now (columns_of h.columns) h.count c.args.prefix c.args.output.now) c.history_of-history.ensures) (decodable (goal.at.found_code-requires c).Start)

pub returns : goal.returns
unfolding find_call
returns c =
    let g = c.find_marking.ensures ∙ ap (λ (h : History). found_answer h.edition h.starts.now (columns_of h.columns) h.count c.args.prefix c.args.output.now) c.history_of-history.ensures in
    let n = c.found_code.ensures in
    record {
      output_after = rw n (ap found_filled g);
      result_value = call-decoded said_by one_value never g (decodable (goal.at.returns c).Start) n;
    }
