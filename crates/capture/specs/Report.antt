-- To be believed: the report on a capture ("Scan and report"), as the numbers of its lines, from the bytes of a history file and of a
-- marking file.
-- Assumes nothing.
use Rattle.std.specs.Prelude.{ℕ, List, Result, Ok, Err, length}
use Rattle.events.specs.declared.refusal.Refusal.{Refusal}
use Rattle.events.specs.declared.event.Event.{Event}
use Rattle.events.specs.Said.{refuse}
use Rattle.event_log.specs.Starts.{start_of}
use Rattle.opacity.specs.Counts.{counts}
use Rattle.opacity.specs.declared.verdict.Verdict.{Verdict}
use Rattle.opacity.specs.Scan.{Scanned, scan}
use Rattle.counts.specs.Tally.{tally}
use Rattle.reader.specs.Reading.{Outcome, readable, refused, history_of}
use Rattle.scan.specs.Answer.{size_refusal, decided}
use Rattle.marking_reader.specs.File.{known, file_read}
use Rattle.marking.specs.Answer.{ruling}
use Rattle.capture.specs.declared.Counts.{Counts}
use Rattle.capture.specs.declared.Report.{Report}

-- "events" counts the events, "transactions" those begun, "reads" the store reads
unfoldable pub counts_of : List Event → Counts
counts_of h = record { events = (counts h).events; transactions = (counts h).transactions; reads = (counts h).reads }

-- the marking's questions, and then the rules
unfoldable pub marking_of : (ℕ → ℕ) → List Event → List ℕ → Result Verdict Refusal
marking_of start h file = ruling start h (file_read (known h) file)

-- 31, and then the prefixes
unfoldable pub opacity_of : (ℕ → ℕ) → List Event → Result Scanned Refusal
opacity_of start h = decided (size_refusal h (length h)) (scan start h)

unfoldable pub judged : (ℕ → ℕ) → List Event → List ℕ → Report
judged start h file =
    record { counts = counts_of h; tally = tally h; marking = marking_of start h file; opacity = opacity_of start h }

-- what is said of a history file's content
abbrev pub said_of : Outcome → List ℕ → Result Report Refusal
said_of (readable l) marking = Ok (judged (start_of l.starts) l.events marking)
said_of (refused q byte) marking = Err (refuse q byte)

unfoldable pub report_on : List ℕ → List ℕ → Result Report Refusal
report_on history marking = said_of (history_of history) marking
