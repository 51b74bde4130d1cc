-- To be believed: the answer of the straightening: the questions of the checker, then 15, then the verdict on the straightened marking.
-- Assumes nothing.
use Rattle.std.specs.Prelude.{ℕ, ◌≡◌, Bool, true, false, cond, List, [], ◌∷◌, Result, Ok, Err, leb, length}
use Rattle.events.specs.declared.event.Event.{Event}
use Rattle.event_log.specs.Checked.{Checked}
use Rattle.lists.specs.Lists.{◌and◌}
use Rattle.records.specs.Bytes.{over}
use Rattle.event_log.specs.Columns.{Columns, history}
use Rattle.event_log.specs.Starts.{start_of}
use Rattle.events.specs.Said.{Said, done, event_refused, byte_refused, refuse}
use Rattle.event_log.specs.Answer.{columns_answer, history_answer}
use Rattle.opacity.specs.declared.verdict.Verdict.{Verdict}
use Rattle.opacity.specs.declared.verdict.Verdict.TheVariants.{Accepted, Broken as Breaks}
use Rattle.opacity.specs.Transactions.{store_reads}
use Rattle.opacity.specs.Justification.{zeros}
use Rattle.opacity.specs.Marking.{Marking, marking_bytes, verdict}
use Rattle.marking_reader.specs.File.{known, FileRead, content, refused, file_read}
use Rattle.marking.specs.Answer.{verdict_said}
use Rattle.straighten.specs.declared.Straightened.{Straightened}
use Rattle.straighten.specs.declared.Unstraightened.{Unstraightened}
use Rattle.straighten.specs.declared.Unstraightened.TheVariants.{Broken, Refused, MarkingRefused}
use Rattle.straighten.specs.Straight.{straightened, moved_events}

-- Straightened, or why not.
abbrev pub Straightening : Type 0
Straightening = Result Straightened Unstraightened

-- the length of the marking, and how many points were moved
abbrev pub moved_to : ℕ → ℕ → Straightening
moved_to n k = Ok (record { length = n; moved = k })

-- What a call gives: its result, and the output and the list afterwards.
pub record Given : Type 0 where
  pub result : Straightening
  pub output : List ℕ
  pub list : List ℕ

abbrev pub gives : Straightening → List ℕ → List ℕ → Given
gives r o l = record { result = r; output = o; list = l }

-- Where no rule is broken, the marking is written from the output's first byte and the moved events from the list's first entry, and
-- nothing behind them changes; a broken rule leaves both alone.
abbrev pub after_verdict : List ℕ → List ℕ → List ℕ → List ℕ → Verdict → Given
after_verdict bytes moved output list Accepted = gives (moved_to (length bytes) (length moved)) (over bytes output) (over moved list)
after_verdict bytes moved output list (Breaks r e t) = gives (Err (Broken r e t)) output list

-- the verdict on the straightened marking
unfoldable pub judged : (ℕ → ℕ) → List Event → Marking → List ℕ → List ℕ → Given
judged start h m output list =
    after_verdict (marking_bytes (straightened start h m)) (moved_events start h m) output list (verdict start h (straightened start h m))

-- 15: the output is as long as the marking, and the list has an entry for every store read
unfoldable pub roomy : List Event → List ℕ → List ℕ → List ℕ → Bool
roomy h file output list = leb (length file) (length output) and leb (length (store_reads h)) (length list)

abbrev pub after_file : (ℕ → ℕ) → List Event → ℕ → List ℕ → List ℕ → List ℕ → FileRead → Given
after_file start h n file output list (refused q byte) = gives (Err (MarkingRefused (refuse q byte))) output list
after_file start h n file output list (content m) = cond (roomy h file output list) (judged start h m output list) (gives (Err (Refused (refuse 15 n))) output list)

abbrev pub after_columns : (ℕ → ℕ) → List Event → ℕ → List ℕ → List ℕ → List ℕ → Checked → Given
after_columns start h n file output list (Err r) = gives (Err (Refused r)) output list
after_columns start h n file output list (Ok u) = after_file start h n file output list (file_read (known h) file)

-- 17, 3 of the edition and the start values, and each event's own questions, then the marking's, then 15 with the count, then the rules
unfoldable pub straightened_answer : ℕ → List ℕ → Columns → ℕ → List ℕ → List ℕ → List ℕ → Given
straightened_answer edition starts c n file output list = after_columns (start_of starts) (history c n) n file output list (history_answer edition starts c n)

-- the answer of edition 1, where every register starts at 0, as it was before there were start values
unfoldable pub first_edition_answer : Columns → ℕ → List ℕ → List ℕ → List ℕ → Given
first_edition_answer c n file output list = after_columns zeros (history c n) n file output list (columns_answer 1 c n)

-- what the straightening says: the length of the marking and how many points were moved, or the rule with its event and transaction, or the
-- question about history or buffers with its event, or the marking's with its byte
unfoldable pub said : Straightening → Said
said (Ok s) = done (s.length ∷ s.moved ∷ [])
said (Err (Broken r e t)) = verdict_said (Breaks r e t)
said (Err (Refused r)) = event_refused r
said (Err (MarkingRefused r)) = byte_refused r

-- no question refuses the call, and m is what the file holds
pub record Passes (edition : ℕ) (starts : List ℕ) (c : Columns) (n : ℕ) (file output list : List ℕ) (m : Marking) : Type 0 where
  pub fine : history_answer edition starts c n ≡ Ok tt
  pub holds : file_read (known (history c n)) file ≡ content m
  pub room : roomy (history c n) file output list ≡ true

-- 15: history and file are readable, and the output or the list is too short
pub record Short (edition : ℕ) (starts : List ℕ) (c : Columns) (n : ℕ) (file output list : List ℕ) : Type 0 where
  pub fine : history_answer edition starts c n ≡ Ok tt
  pub marking : Marking
  pub holds : file_read (known (history c n)) file ≡ content marking
  pub room : roomy (history c n) file output list ≡ false
