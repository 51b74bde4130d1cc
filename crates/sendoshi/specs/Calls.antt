-- To be believed: what each call gives (include/sendoshi.h), over the answers of the functions called: its number, and each buffer that it
-- is lent to fill, afterwards.
-- Assumes nothing.
use Rattle.std.specs.Prelude.{ℕ, ◌≤◌, List, [], ◌∷◌, Option, Some, None, Result, Ok, Err}
use Rattle.events.specs.declared.refusal.Refusal.{Refusal}
use Rattle.event_log.specs.Columns.{Columns}
use Rattle.reader.specs.declared.HistoryRead.{HistoryRead}
use Rattle.reader.specs.Reading.{ReadAnswer, read_answer, said as read_said}
use Rattle.writer.specs.Writing.{WrittenAnswer, written_answer, said as written_said}
use Rattle.finder.specs.Answer.{Given, found_answer, said as found_said}
use Rattle.scan.specs.Answer.{scan_answer, said as scan_said}
use Rattle.marking.specs.Answer.{verdict_answer, said as check_said}
use Rattle.straighten.specs.Answer.{Given as Straight, straightened_answer, said as straight_said}
use Rattle.counts.specs.Answer.{transactions_answer, store_reads_answer, tally_answer, count_said, tally_said}
use Rattle.notes.specs.declared.Note.{Note}
use Rattle.notes.specs.Notes.{next_note, said as note_said}
use Rattle.codes.specs.Codes.{most, coded}

-- A call that is lent start values and columns to fill, one that is lent an output, one that is lent an output and a list, and one that is
-- lent the three numbers of a note.
pub record FilledHistory : Type 0 where
  pub number : ℕ
  pub starts : List ℕ
  pub columns : Columns

abbrev pub filled : ℕ → List ℕ → Columns → FilledHistory
filled n s c = record { number = n; starts = s; columns = c }

pub record FilledOutput : Type 0 where
  pub number : ℕ
  pub output : List ℕ

abbrev pub put : ℕ → List ℕ → FilledOutput
put n o = record { number = n; output = o }

pub record FilledBoth : Type 0 where
  pub number : ℕ
  pub output : List ℕ
  pub list : List ℕ

abbrev pub put_both : ℕ → List ℕ → List ℕ → FilledBoth
put_both n o l = record { number = n; output = o; list = l }

pub record FilledNote : Type 0 where
  pub number : ℕ
  pub note : List ℕ

abbrev pub told : ℕ → List ℕ → FilledNote
told n l = record { number = n; note = l }

-- the lent start values afterwards: those of the history that was read, and on a refusal what they were
unfoldable pub starts_after : Result HistoryRead Refusal → List ℕ → List ℕ
starts_after (Ok read) lent = read.starts
starts_after (Err r) lent = lent

-- the three lent numbers afterwards: how many events are before the note, where its bytes begin and how many they are; where there is none
-- what they were
unfoldable pub note_after : Option Note → List ℕ → List ℕ
note_after (Some x) lent = x.events ∷ x.start ∷ x.size ∷ []
note_after None lent = lent

abbrev pub read_filled : List ℕ → ReadAnswer → FilledHistory
read_filled lent a = filled (coded (read_said a.result)) (starts_after a.result lent) a.columns

abbrev pub written_filled : WrittenAnswer → FilledOutput
written_filled a = put (coded (written_said a.result)) a.output

abbrev pub found_filled : Given → FilledOutput
found_filled a = put (coded (found_said a.result)) a.output

abbrev pub straighten_filled : Straight → FilledBoth
straighten_filled a = put_both (coded (straight_said a.result)) a.output a.list

abbrev pub note_filled : List ℕ → Option Note → FilledNote
note_filled lent a = told (coded (note_said a)) (note_after a lent)

unfoldable pub read_call : List ℕ → List ℕ → Columns → FilledHistory
read_call file starts c = read_filled starts (read_answer file c)

unfoldable pub write_call : ℕ → List ℕ → Columns → ℕ → List ℕ → FilledOutput
write_call edition starts c count output = written_filled (written_answer edition starts c count output)

unfoldable pub find_call : ℕ → List ℕ → Columns → ℕ → ℕ → List ℕ → FilledOutput
find_call edition starts c count prefix output = found_filled (found_answer edition starts c count prefix output)

unfoldable pub scan_call : ℕ → List ℕ → Columns → ℕ → ℕ
scan_call edition starts c count = coded (scan_said (scan_answer edition starts c count))

unfoldable pub check_call : ℕ → List ℕ → Columns → ℕ → List ℕ → ℕ
check_call edition starts c count file = coded (check_said (verdict_answer edition starts c count file))

unfoldable pub straighten_call : ℕ → List ℕ → Columns → ℕ → List ℕ → List ℕ → List ℕ → FilledBoth
straighten_call edition starts c count file output list = straighten_filled (straightened_answer edition starts c count file output list)

unfoldable pub transactions_call : ℕ → List ℕ → Columns → ℕ → ℕ
transactions_call edition starts c count = coded (count_said (transactions_answer edition starts c count))

unfoldable pub store_reads_call : ℕ → List ℕ → Columns → ℕ → ℕ
store_reads_call edition starts c count = coded (count_said (store_reads_answer edition starts c count))

unfoldable pub tally_call : ℕ → List ℕ → Columns → ℕ → ℕ
tally_call edition starts c count = coded (tally_said (tally_answer edition starts c count))

unfoldable pub next_note_call : List ℕ → ℕ → List ℕ → FilledNote
next_note_call file from lent = note_filled lent (next_note file from)

-- ---- what is known of a note before it is told: each of its numbers has 32 bits

pub record NoteFits (x : Note) : Type 0 where
  pub events : x.events ≤ most
  pub start : x.start ≤ most
  pub size : x.size ≤ most

abbrev pub AnswerFits : Option Note → Type 0
AnswerFits (Some x) = NoteFits x
AnswerFits None = Unit {0}
