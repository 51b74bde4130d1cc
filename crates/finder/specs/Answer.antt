-- To be believed: the finder's answer ("Finder"): the marking of the lowest justification of a prefix, or none, or the first question that
-- says no.
-- Assumes nothing.
use Rattle.std.specs.Prelude.{ℕ, ◌+◌, ◌*◌, ◌≤◌, ◌≡◌, true, List, [], ◌∷◌, leb, length, take, Result, Ok, Err, Option as Answer, Some, None}
use Rattle.std.proofs.Math.Option.{Option, none, some}
use Rattle.events.specs.declared.event.Event.{Event}
use Rattle.events.specs.declared.refusal.Refusal.{Refusal}
use Rattle.event_log.specs.Checked.{Checked}
use Rattle.records.specs.Bytes.{over}
use Rattle.events.specs.Events.{begins}
use Rattle.event_log.specs.Columns.{Columns, history, hold}
use Rattle.event_log.specs.Starts.{start_of, admits}
use Rattle.events.specs.Said.{Said, done, nothing, event_refused}
use Rattle.events.specs.Questions.{ask, readable_in}
use Rattle.event_log.specs.Answer.{events_answer}
use Rattle.opacity.specs.Transactions.{store_reads}
use Rattle.opacity.specs.Justification.{Place, zeros}
use Rattle.opacity.specs.Lowest.{lowest_of}
use Rattle.opacity.specs.Marking.{marked, marking_bytes}
use Rattle.event_log.specs.Calls.{asked_of, then_checked}

-- what the finder answers: the length of the marking written, or none; or the question that says no, with its event
abbrev pub Finding : Type 0
Finding = Result (Answer ℕ) Refusal

-- What a call gives: its result, and the output afterwards.
pub record Given : Type 0 where
  pub result : Finding
  pub output : List ℕ

abbrev pub gives : Finding → List ℕ → Given
gives r o = record { result = r; output = o }

-- what the finder says: the length of the marking, or none, or the question with its event
unfoldable pub said : Finding → Said
said (Ok (Some n)) = done (n ∷ [])
said (Ok None) = nothing
said (Err r) = event_refused r

-- the bytes of a marking: the head, its transactions and its store reads
abbrev pub marking_size : List Event → ℕ
marking_size h = 6 + 8 * begins h + 10 * length (store_reads h)

-- 31 and 32, of the events of the prefix
unfoldable pub prefix_refusal : List Event → ℕ → ℕ → Checked
prefix_refusal h count room =
    asked_of count (ask 31 (leb (begins h) 10) ∷ ask 32 (leb (marking_size h) room) ∷ [])

-- 17, 3 and 18, and then every event below the count
unfoldable pub call_refusal : ℕ → List ℕ → Columns → ℕ → ℕ → Checked
call_refusal edition starts c count prefix =
    then_checked (asked_of count (ask 17 (hold c count) ∷ ask 3 (admits edition starts) ∷ ask 18 (leb prefix count) ∷ []))
    (events_answer edition (history c count))

-- the call and its events; 31 and 32: the first that says no, with its event
unfoldable pub find_refusal : ℕ → List ℕ → Columns → ℕ → ℕ → ℕ → Checked
find_refusal edition starts c count prefix room =
    then_checked (call_refusal edition starts c count prefix)
    (prefix_refusal (take prefix (history c count)) count room)

-- no question says no to a call: the columns hold the events, edition and start values are admitted, the prefix is one of the history,
-- which is readable, and it has at most 10 transactions and room in the output
pub record Passed (edition : ℕ) (starts : List ℕ) (c : Columns) (count prefix room : ℕ) : Type 0 where
  pub held : hold c count ≡ true
  pub admitted : admits edition starts ≡ true
  pub inside : prefix ≤ count
  pub readable : readable_in edition (history c count) ≡ true
  pub few : begins (take prefix (history c count)) ≤ 10
  pub fits : marking_size (take prefix (history c count)) ≤ room

abbrev pub marking_of : List Event → Option (List Place) → Option (List ℕ)
marking_of h none = none
marking_of h (some J) = some (marking_bytes (marked h J))

-- the marking of the lowest justification
unfoldable pub lowest_marking : (ℕ → ℕ) → List Event → Option (List ℕ)
lowest_marking start h = marking_of h (lowest_of start h)

-- A refusal and none leave the output alone; a marking is written from its first byte, and nothing behind it changes.
unfoldable pub decided : Checked → Option (List ℕ) → List ℕ → Given
decided (Err r) m o = gives (Err r) o
decided (Ok tt) none o = gives (Ok None) o
decided (Ok tt) (some bytes) o = gives (Ok (Some (length bytes))) (over bytes o)

-- a prefix keeps the edition and the start values of its history
unfoldable pub found_answer : ℕ → List ℕ → Columns → ℕ → ℕ → List ℕ → Given
found_answer edition starts c count prefix output =
    decided (find_refusal edition starts c count prefix (length output)) (lowest_marking (start_of starts) (take prefix (history c count))) output

-- The answer of edition 1, where every register starts at 0, as it was before there were start values: 17 and 18 and no 3, and 0 in
-- every register before any writer.
unfoldable pub first_edition_refusal : Columns → ℕ → ℕ → ℕ → Checked
first_edition_refusal c count prefix room =
    then_checked (asked_of count (ask 17 (hold c count) ∷ ask 18 (leb prefix count) ∷ []))
    (then_checked (events_answer 1 (history c count))
    (prefix_refusal (take prefix (history c count)) count room))

unfoldable pub first_edition_answer : Columns → ℕ → ℕ → List ℕ → Given
first_edition_answer c count prefix output =
    decided (first_edition_refusal c count prefix (length output)) (lowest_marking zeros (take prefix (history c count))) output
