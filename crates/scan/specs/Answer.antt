-- To be believed: the scan's answer ("Scan and report"): opaque, or the event and the cause, or the first question that says no.
-- Assumes nothing.
use Rattle.std.specs.Prelude.{ℕ, ◌≤◌, ◌≡◌, true, List, [], ◌∷◌, leb, Result, Ok, Err}
use Rattle.events.specs.declared.event.Event.{Event}
use Rattle.events.specs.declared.refusal.Refusal.{Refusal}
use Rattle.event_log.specs.Checked.{Checked}
use Rattle.events.specs.Events.{begins}
use Rattle.event_log.specs.Columns.{Columns, history, hold}
use Rattle.event_log.specs.Starts.{start_of, admits}
use Rattle.events.specs.Said.{Said, done, faulted, event_refused}
use Rattle.events.specs.Questions.{ask, readable_in}
use Rattle.event_log.specs.Answer.{columns_answer, history_answer}
use Rattle.opacity.specs.Justification.{zeros}
use Rattle.opacity.specs.Scan.{Scanned, cause_number, scan}
use Rattle.event_log.specs.Calls.{asked_of, then_checked}

-- what the scan answers: opaque, or the event and the cause; or the question that says no, with its event
abbrev pub Scanning : Type 0
Scanning = Result Scanned Refusal

-- what the scan of a history says: opaque, or the event with the cause
abbrev pub scanned_said : Scanned → Said
scanned_said (Ok tt) = done []
scanned_said (Err f) = faulted f.event (cause_number f.cause)

-- what the scan says: opaque, or the event and the cause, or the question with its event
unfoldable pub said : Scanning → Said
said (Ok s) = scanned_said s
said (Err r) = event_refused r

-- 31, of the events below the count
unfoldable pub size_refusal : List Event → ℕ → Checked
size_refusal h count = asked_of count (ask 31 (leb (begins h) 10) ∷ [])

-- 17, 3 and every event; then 31: the first that says no, with its event
unfoldable pub scan_refusal : ℕ → List ℕ → Columns → ℕ → Checked
scan_refusal edition starts c count = then_checked (history_answer edition starts c count) (size_refusal (history c count) count)

-- no question says no to a call: the columns hold the events, edition and start values are admitted, and the history is readable and has at
-- most 10 transactions
pub record Passed (edition : ℕ) (starts : List ℕ) (c : Columns) (count : ℕ) : Type 0 where
  pub held : hold c count ≡ true
  pub admitted : admits edition starts ≡ true
  pub readable : readable_in edition (history c count) ≡ true
  pub few : begins (history c count) ≤ 10

abbrev pub Passes : ℕ → List ℕ → Columns → ℕ → Type 0
Passes edition starts c count = scan_refusal edition starts c count ≡ Ok tt

unfoldable pub decided : Checked → Scanned → Scanning
decided (Err r) s = Err r
decided (Ok tt) s = Ok s

-- each prefix keeps the edition and the start values of its history
unfoldable pub scan_answer : ℕ → List ℕ → Columns → ℕ → Scanning
scan_answer edition starts c count = decided (scan_refusal edition starts c count) (scan (start_of starts) (history c count))

-- The answer of edition 1, where every register starts at 0, as it was before there were start values: 17 and no 3, and 0 in every
-- register before any writer.
unfoldable pub first_edition_answer : Columns → ℕ → Scanning
first_edition_answer c count =
    decided (then_checked (columns_answer 1 c count) (size_refusal (history c count) count)) (scan zeros (history c count))
