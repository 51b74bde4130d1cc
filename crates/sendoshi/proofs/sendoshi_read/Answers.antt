-- `sendoshi::sendoshi_read` meets its contract.
-- Assumes nothing.
use mathlib.Core.Path.{ap}
use Rattle.event_log.specs.Columns.{columns}
use Rattle.events.specs.Said.{Said}
use Rattle.reader.specs.Reading.{ReadAnswer, read_answer, said}
use Rattle.codes.specs.Decoded.{two_values, always}
use Rattle.codes.proofs.CodeLaws.{Decodable, answer-known, call-decoded}
use Rattle.sendoshi.specs.Calls.{read_filled, read_call}
use Rattle.sendoshi.proofs.Bounds.{read-decodable}
use Rattle.sendoshi.proofs.sendoshi_read.Goals as goal
use Rattle.sendoshi.proofs.sendoshi_read.Goals.{Start}

abbrev said_by : ReadAnswer → Said
said_by a = said a.result

decodable : (s : Start)
    → Decodable two_values always
    (said_by (read_answer s.args.file.now (columns s.args.kinds.now s.args.transactions.now s.args.registers.now s.args.values.now
    s.args.threads.now)))
decodable s = read-decodable s.args.file.now (columns s.args.kinds.now s.args.transactions.now s.args.registers.now s.args.values.now
    s.args.threads.now)

pub read_code-requires : goal.read_code-requires
read_code-requires c =
    answer-known said_by two_values always c.read_history-answer.ensures (decodable (goal.at.read_code-requires c).Start)

pub returns : goal.returns
unfolding read_call
returns c =
    let g = c.read_history-answer.ensures in
    let n = c.read_code.ensures in
    record {
      threads_after = rw (n, c.hand_over.ensures) (ap (read_filled _) g);
      result_value = call-decoded said_by two_values always g (decodable (goal.at.returns c).Start) n;
    }
