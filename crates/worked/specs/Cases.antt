-- To be believed: how a worked history is written down, and what may be said of it.
-- Assumes nothing.
use Rattle.std.specs.Prelude.{ℕ, Bool, true, false, List, [], ◌∷◌, ◌++◌, map, eqb, leb, length, replicate, Option as Answer, Some, None}
use Rattle.std.proofs.Math.Option.{Option, none, some}
use Rattle.lists.specs.Lists.{◌and◌, ◌or◌, all}
use Rattle.events.specs.declared.event.Event.{Event}
use Rattle.events.specs.Events.{begins}
use Rattle.event_log.specs.Starts.{start_of, no_starts}
use Rattle.event_log.specs.Columns.{Columns, columns, filled_with}
use Rattle.events.specs.Said.{Said, done, nothing, faulted, broken, at_event, at_byte}
use Rattle.event_log.specs.Answer.{history_answer, said}
use Rattle.reader.specs.Reading.{read_answer, said as read_said}
use Rattle.notes.specs.declared.Note.{Note}
use Rattle.notes.specs.Without.{without_notes}
use Rattle.notes.specs.Notes.{next_note}
use Rattle.opacity.specs.declared.verdict.Verdict.{Verdict}
use Rattle.opacity.specs.Transactions.{store_reads}
use Rattle.opacity.specs.Justification.{Place, is_order}
use Rattle.opacity.specs.Lowest.{lowest_of}
use Rattle.opacity.specs.Marking.{Point, Marking, marked, marking_bytes, verdict, outcome_number}
use Rattle.opacity.specs.Scan.{Scanned, scan}
use Rattle.scan.specs.Answer.{scanned_said}
use Rattle.opacity.specs.Serial.{runs_right}
use Rattle.opacity.specs.Counts.{counts}
use Rattle.counts.specs.Tally.{tally}
use Rattle.marking.specs.Answer.{verdict_answer, verdict_said, said as check_said}
use Rattle.straighten.specs.Straight.{straightened, moved_events}

-- ---- histories

unfoldable pub event : ℕ → ℕ → ℕ → ℕ → Event
event k t r v = record { kind = k; transaction = t; register = r; value = v; thread = 0 }

unfoldable pub begin_on : ℕ → ℕ → List Event
begin_on thread t = record { kind = 16; transaction = t; register = 0; value = 0; thread = thread } ∷ []

-- accesses outside transactions
unfoldable pub lone_read : ℕ → ℕ → ℕ → ℕ → List Event
lone_read thread t r v = record { kind = 24; transaction = t; register = r; value = v; thread = thread } ∷ []

unfoldable pub lone_write : ℕ → ℕ → ℕ → ℕ → List Event
lone_write thread t r v = record { kind = 25; transaction = t; register = r; value = v; thread = thread } ∷ []

-- a begin on the thread of its own number
unfoldable pub begin : ℕ → List Event
unfolding begin_on
begin t = begin_on t t

-- a read, a write and a commit, each called and answered
unfoldable pub read : ℕ → ℕ → ℕ → List Event
unfolding event
read t r v = event 17 t r 0 ∷ event 18 t r v ∷ []

unfoldable pub write : ℕ → ℕ → ℕ → List Event
unfolding event
write t r v = event 19 t r v ∷ event 20 t 0 0 ∷ []

unfoldable pub call_read : ℕ → ℕ → List Event
unfolding event
call_read t r = event 17 t r 0 ∷ []

unfoldable pub call_commit : ℕ → List Event
unfolding event
call_commit t = event 21 t 0 0 ∷ []

unfoldable pub commit : ℕ → List Event
unfolding event
commit t = event 21 t 0 0 ∷ event 22 t 0 0 ∷ []

unfoldable pub abort : ℕ → List Event
unfolding event
abort t = event 23 t 0 0 ∷ []

-- events one part after the other
unfoldable pub then : List (List Event) → List Event
then [] = []
then (p ∷ ps) = p ++ then ps

-- ---- markings

unfoldable pub point : ℕ → ℕ → Point
point i g = record { event = i; gap = g }

unfoldable pub marking : List Place → List Point → Marking
marking J ps = record { places = J; points = ps }

-- ---- what is said of a history: the scan's answer; its lowest marking, and that marking's file; the verdict on a marking; what the checker says
-- of a marking file; a marking with its points straightened, the events moved, and the verdict then; whether an order run one at a time
-- gives every read its value; the counts of the report; its tally; the question, with its event, that refuses a call with this edition and
-- these start values; what the reader says of a history file, the file without its notes, and its next note from a byte on

pub data Claim : Type 0 where
  scanned : Scanned → Claim
  lowest_is : Marking → Claim
  file_is : List ℕ → Claim
  checked : Marking → Verdict → Claim
  file_says : List ℕ → Said → Claim
  straight : Marking → Marking → List ℕ → Verdict → Claim
  runs : List Place → Bool → Claim
  counted : ℕ → ℕ → ℕ → Claim
  tallied : ℕ → ℕ → ℕ → ℕ → Claim
  refused_by : ℕ → ℕ → Claim
  log_says : List ℕ → Said → Claim
  bare_is : List ℕ → List ℕ → Claim
  next_is : List ℕ → ℕ → List ℕ → Claim

-- answers as lists of numbers, to compare them
place_numbers : List Place → List ℕ
place_numbers [] = []
place_numbers (p ∷ ps) = p.transaction ∷ outcome_number p.committed ∷ place_numbers ps

point_numbers : List Point → List ℕ
point_numbers [] = []
point_numbers (p ∷ ps) = p.event ∷ p.gap ∷ point_numbers ps

marking_numbers : Marking → List ℕ
unfolding place_numbers point_numbers
marking_numbers m = length m.places ∷ place_numbers m.places ++ point_numbers m.points

equal : List ℕ → List ℕ → Bool
equal [] [] = true
equal [] (y ∷ ys) = false
equal (x ∷ xs) [] = false
equal (x ∷ xs) (y ∷ ys) = eqb x y and equal xs ys

-- what a found order says, and false where none is found
found : List Event → (Marking → Bool) → Option (List Place) → Bool
found h test none = false
found h test (some J) = test (marked h J)

-- a marking's content is readable for a history
readable_for : List Event → Marking → Bool
unfolding equal
readable_for h m =
    is_order (begins h) m.places
    and equal (map (λ p. p.event) m.points) (store_reads h)
    and all (λ p. leb p.gap (begins h)) m.points

-- two answers say the same
said_numbers : Said → List ℕ
said_numbers (done vs) = 0 ∷ vs
said_numbers nothing = 1 ∷ []
said_numbers (faulted e w) = 2 ∷ e ∷ w ∷ []
said_numbers (broken r e t) = 3 ∷ r ∷ e ∷ t ∷ []
said_numbers (at_event q e) = 4 ∷ q ∷ e ∷ []
said_numbers (at_byte q b) = 5 ∷ q ∷ b ∷ []

same : Said → Said → Bool
unfolding equal said_numbers
same a b = equal (said_numbers a) (said_numbers b)

pub record Case : Type 0 where
  pub edition : ℕ
  pub starts : List ℕ
  pub history : List Event
  pub claim : Claim

-- the history in columns
in_columns : Case → Columns
in_columns c = filled_with c.history (columns [] [] [] [] [])

-- what the questions of a call say: 17, 3, and each event's own
asked : Case → Said
unfolding in_columns
asked c = said (history_answer c.edition c.starts (in_columns c) (length c.history))

-- what the checker says of a marking file
checked_file : Case → List ℕ → Said
unfolding in_columns
checked_file c file = check_said (verdict_answer c.edition c.starts (in_columns c) (length c.history) file)

-- what the reader says of a history file, with room for eight events
read_log : List ℕ → Said
read_log file = read_said (read_answer file (columns (replicate 8 0) (replicate 8 0) (replicate 8 0) (replicate 8 0) (replicate 8 0))).result

-- a note in numbers, and nothing for none
note_numbers : Answer Note → List ℕ
note_numbers None = []
note_numbers (Some n) = n.events ∷ n.start ∷ n.size ∷ []

holds : Case → (ℕ → ℕ) → List Event → Claim → Bool
unfolding equal same marking_numbers found readable_for asked checked_file read_log note_numbers
holds c start h (scanned a) = same (scanned_said (scan start h)) (scanned_said a)
holds c start h (lowest_is m) = found h (λ n. equal (marking_numbers n) (marking_numbers m)) (lowest_of start h)
holds c start h (file_is s) = found h (λ n. equal (marking_bytes n) s) (lowest_of start h)
holds c start h (checked m v) = readable_for h m and same (verdict_said (verdict start h m)) (verdict_said v)
holds c start h (file_says s a) = same (checked_file c s) a
holds c start h (straight m n moved v) =
    readable_for h m
    and equal (marking_numbers (straightened start h m)) (marking_numbers n)
    and equal (moved_events start h m) moved
    and same (verdict_said (verdict start h (straightened start h m))) (verdict_said v)
holds c start h (runs J b) = eqb (outcome_number (runs_right start h J)) (outcome_number b)
holds c start h (counted e t r) = equal ((counts h).events ∷ (counts h).transactions ∷ (counts h).reads ∷ []) (e ∷ t ∷ r ∷ [])
holds c start h (tallied n a p l) = equal ((tally h).committed ∷ (tally h).aborted ∷ (tally h).pending ∷ (tally h).live ∷ []) (n ∷ a ∷ p ∷ l ∷ [])
holds c start h (refused_by q i) = same (asked c) (at_event q i)
holds c start h (log_says s a) = same (read_log s) a
holds c start h (bare_is s b) = equal (without_notes s) b
holds c start h (next_is s from n) = equal (note_numbers (next_note s from)) n

-- of a history of edition 1, and of one of edition 2 whose registers 0 and 1 start with these values
unfoldable pub says : List Event → Claim → Case
says h c = record { edition = 1; starts = no_starts; history = h; claim = c }

unfoldable pub starts_with : ℕ → ℕ → List ℕ
starts_with a b = a ∷ b ∷ replicate 30 0

unfoldable pub says_from : ℕ → ℕ → List Event → Claim → Case
unfolding starts_with
says_from a b h c = record { edition = 2; starts = starts_with a b; history = h; claim = c }

-- a refusal is that of a call; of any other case no question says no to a call, and what is said of it holds
unfoldable pub right : Case → Bool
unfolding holds asked same
right c = (is_refusal c.claim or same (asked c) (done [])) and holds c (start_of c.starts) c.history c.claim
  where
    is_refusal : Claim → Bool
    is_refusal (refused_by q i) = true
    is_refusal (scanned a) = false
    is_refusal (lowest_is m) = false
    is_refusal (file_is s) = false
    is_refusal (checked m v) = false
    is_refusal (file_says s a) = false
    is_refusal (straight m n moved v) = false
    is_refusal (runs J b) = false
    is_refusal (counted e t r) = false
    is_refusal (tallied n a p l) = false
    is_refusal (log_says s a) = false
    is_refusal (bare_is s b) = false
    is_refusal (next_is s from n) = false
