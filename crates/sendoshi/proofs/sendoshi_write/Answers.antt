-- `sendoshi::sendoshi_write` meets its contract.
-- Assumes nothing.
use mathlib.Core.Path.{ap, ◌∙◌}
use native.Mathlib.Omega.{arith}
use Rattle.event_log.specs.declared.columns.History.{History}
use Rattle.event_log.specs.Lent.{columns_of}
use Rattle.event_log.specs.Columns.{columns}
use Rattle.events.specs.Said.{Said}
use Rattle.counts.specs.Answer.{count_said}
use Rattle.writer.specs.Writing.{WrittenAnswer, written_answer, said}
use Rattle.codes.specs.Decoded.{one_value, never}
use Rattle.codes.proofs.CodeLaws.{Decodable, answer-known, call-decoded}
use Rattle.sendoshi.specs.Calls.{written_filled, write_call}
use Rattle.sendoshi.proofs.Bounds.{write-decodable}
use Rattle.sendoshi.proofs.sendoshi_write.Goals as goal
use Rattle.sendoshi.proofs.sendoshi_write.Goals.{Start}

abbrev said_by : WrittenAnswer → Said
said_by a = said a.result

decodable : (s : Start)
    → Decodable one_value never
    (said_by (written_answer s.args.edition s.args.starts.now (columns s.args.kinds.now s.args.transactions.now s.args.registers.now
    s.args.values.now s.args.threads.now) s.args.count s.args.output.now))
decodable s =
    write-decodable s.args.edition s.args.starts.now (columns s.args.kinds.now s.args.transactions.now s.args.registers.now
    s.args.values.now s.args.threads.now) s.args.count (omega arith)
    s.args.output.now

pub number_code-requires : goal.number_code-requires
unfolding said count_said
number_code-requires c =
    answer-known said_by one_value never (c.write_history.ensures ∙ ap (λ (h : History). written_answer h.edition h.starts.now (columns_of h.columns) h.count c.args.output.now) c.history_of-history.ensures) (decodable (goal.at.number_code-requires c).Start)

pub returns : goal.returns
unfolding write_call said count_said
returns c =
    let g = c.write_history.ensures ∙ ap (λ (h : History). written_answer h.edition h.starts.now (columns_of h.columns) h.count c.args.output.now) c.history_of-history.ensures in
    let n = c.number_code.ensures in
    record {
      output_after = rw n (ap written_filled g);
      result_value = call-decoded said_by one_value never g (decodable (goal.at.returns c).Start) n;
    }
