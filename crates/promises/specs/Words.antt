-- To be believed: the words in which the demands are stated that no crate below has.
-- Assumes nothing.
use Rattle.reader.specs.Reading.{reading}
use Rattle.std.specs.Prelude.{Ok}
use Rattle.std.specs.Prelude.{ℕ, ◌≤◌, ◌<◌, ◌≡◌, true, List, length, take}
use Rattle.events.specs.declared.event.Event.{Event}
use Rattle.records.specs.Bytes.{Bytes}
use Rattle.event_log.specs.Columns.{Columns, history}
use Rattle.events.specs.Events.{begins}
use Rattle.event_log.specs.Starts.{start_of}
use Rattle.event_log.specs.Answer.{history_answer}
use Rattle.opacity.specs.Explains.{Explains}
use Rattle.opacity.specs.Justification.{Place}
use Rattle.opacity.specs.Marking.{Marking, gap_of}
use Rattle.opacity.specs.Transactions.{is_store_read}
use Rattle.opacity.specs.Verdicts.{WriterBetween}
use Rattle.reader.specs.Reading.{events_in, read_answer}
use Rattle.finder.specs.Answer.{marking_size}
use Rattle.marking_reader.specs.File.{known, content, file_read}

-- no other committed writer of the register stands between a read's point and its reader
abbrev pub NoneBetween : List Event → Marking → Type 0
NoneBetween h m = (i : ℕ) → i < length h → is_store_read h i ≡ true → WriterBetween h m.places (gap_of m.points i) i → ⊥

-- The history in the columns and the marking in the file are readable, the marking's outcomes and order are a justification in the words
-- of the events, and no other committed writer stands between a read's point and its reader.
pub record Accepts (edition : ℕ) (starts : List ℕ) (c : Columns) (n : ℕ) (file : List ℕ) : Type 0 where
  pub fine : history_answer edition starts c n ≡ Ok tt
  pub marking : Marking
  pub holds : file_read (known (history c n)) file ≡ content marking
  pub explains : Explains (start_of starts) (history c n) marking.places
  pub between : NoneBetween (history c n) marking

-- every prefix of a history has a justification, in the words of the events
abbrev pub AllExplained : (ℕ → ℕ) → List Event → Type 0
AllExplained start h = (n : ℕ) → n ≤ length h → (J : List Place) × Explains start (take n h) J

-- A readable file, read into columns, of which a prefix of at most 10 transactions is judged, with an output as long as the paper says.
pub record FromFile (file : List ℕ) (c : Columns) (count prefix : ℕ) (output : List ℕ) : Type 0 where
  pub bytes : Bytes file
  pub read : reading (read_answer file c).result ≡ Ok count
  pub inside : prefix ≤ count
  pub few : begins (take prefix (events_in file)) ≤ 10
  pub room : marking_size (take prefix (events_in file)) ≤ length output
