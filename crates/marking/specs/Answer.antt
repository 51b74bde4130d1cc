-- To be believed: the checker's answer ("Marking and checker").
-- Assumes nothing.
use Rattle.std.specs.Prelude.{ℕ, ◌≡◌, List, [], Result, Ok, Err}
use Rattle.events.specs.declared.event.Event.{Event}
use Rattle.events.specs.declared.refusal.Refusal.{Refusal}
use Rattle.event_log.specs.Checked.{Checked}
use Rattle.event_log.specs.Columns.{Columns, history}
use Rattle.event_log.specs.Starts.{start_of}
use Rattle.events.specs.Said.{Said, done, broken, event_refused, byte_refused, refuse}
use Rattle.event_log.specs.Answer.{columns_answer, history_answer}
use Rattle.opacity.specs.declared.verdict.Rule.{Rule}
use Rattle.opacity.specs.declared.verdict.Verdict.{Verdict}
use Rattle.opacity.specs.declared.verdict.Verdict.TheVariants.{Accepted, Broken}
use Rattle.opacity.specs.Marking.{Marking, verdict, rule_number, named_event, named_transaction}
use Rattle.opacity.specs.Verdicts.{RuleD, FirstBroken}
use Rattle.opacity.specs.Justification.{Justified, zeros}
use Rattle.marking.specs.declared.check.Unchecked.{Unchecked}
use Rattle.marking.specs.declared.check.Unchecked.TheVariants.{HistoryRefused, MarkingRefused}
use Rattle.marking_reader.specs.File.{known, FileRead, content, refused, file_read}

-- the answer for a readable history, and the checker's
abbrev pub Ruling : Type 0
Ruling = Result Verdict Refusal

abbrev pub Checking : Type 0
Checking = Result Verdict Unchecked

-- the verdict on the content of the file, or the question that refuses the file
abbrev pub ruling : (ℕ → ℕ) → List Event → FileRead → Ruling
ruling start h (content m) = Ok (verdict start h m)
ruling start h (refused q byte) = Err (refuse q byte)

-- the checker's answer for a readable history
abbrev pub from_file : Ruling → Checking
from_file (Ok v) = Ok v
from_file (Err r) = Err (MarkingRefused r)

abbrev pub ruled : (ℕ → ℕ) → List Event → FileRead → Checking
ruled start h x = from_file (ruling start h x)

abbrev pub after_columns : (ℕ → ℕ) → List Event → List ℕ → Checked → Checking
after_columns start h file (Ok u) = ruled start h (file_read (known h) file)
after_columns start h file (Err r) = Err (HistoryRefused r)

-- 17, 3 of the edition and the start values, and each event's own questions, then the marking's, then the rules
unfoldable pub verdict_answer : ℕ → List ℕ → Columns → ℕ → List ℕ → Checking
verdict_answer edition starts c n file = after_columns (start_of starts) (history c n) file (history_answer edition starts c n)

-- the answer of edition 1, where every register starts at 0, as it was before there were start values
unfoldable pub first_edition_answer : Columns → ℕ → List ℕ → Checking
first_edition_answer c n file = after_columns zeros (history c n) file (columns_answer 1 c n)

-- what a verdict says: accepted, or the rule (1 for A to 5 for E) with its event and transaction
abbrev pub verdict_said : Verdict → Said
verdict_said Accepted = done []
verdict_said (Broken r e t) = broken (rule_number r) e t

-- what the checker says: accepted, or the rule with its event and transaction, or the history's question with its event, or the marking's
-- with its byte
unfoldable pub said : Checking → Said
said (Ok v) = verdict_said v
said (Err (HistoryRefused r)) = event_refused r
said (Err (MarkingRefused r)) = byte_refused r

-- no question says no, and rule r is the first that the content of the file breaks: where it is broken lowest, it names event e and
-- transaction t
pub record Breaking (edition : ℕ) (starts : List ℕ) (c : Columns) (n : ℕ) (file : List ℕ) (r : Rule) (e t : ℕ) : Type 0 where
  pub fine : history_answer edition starts c n ≡ Ok tt
  pub marking : Marking
  pub holds : file_read (known (history c n)) file ≡ content marking
  pub at : ℕ
  pub first : FirstBroken (start_of starts) (history c n) marking r at
  pub event : e ≡ named_event (history c n) r at
  pub transaction : t ≡ named_transaction (history c n) r at

-- no question says no, the content of the file is m, and its outcomes and order are a justification of which no other committed writer of
-- the register stands between a read's point and its reader
pub record Justifying (edition : ℕ) (starts : List ℕ) (c : Columns) (n : ℕ) (file : List ℕ) : Type 0 where
  pub fine : history_answer edition starts c n ≡ Ok tt
  pub marking : Marking
  pub holds : file_read (known (history c n)) file ≡ content marking
  pub justified : Justified (start_of starts) (history c n) marking.places
  pub rule_d : RuleD (history c n) marking
