-- To be believed: the words of the theorems about what the straightening writes.
-- Assumes nothing.
use Rattle.std.specs.Prelude.{ℕ, ◌≡◌, List, Ok, length, take, drop}
use Rattle.event_log.specs.Columns.{Columns, history}
use Rattle.event_log.specs.Starts.{start_of}
use Rattle.opacity.specs.declared.verdict.Verdict.TheVariants.{Accepted}
use Rattle.opacity.specs.Justification.{Justified}
use Rattle.opacity.specs.Marking.{Marking, ReadableFor, marking_bytes}
use Rattle.marking.specs.Answer.{verdict_answer}
use Rattle.straighten.specs.Straight.{Rises, straightened, moved_events}
use Rattle.straighten.specs.Answer.{straightened_answer, Passes}

-- The output begins with the bytes of the straightened marking, as many as the file has, and the list with the moved events, rising; behind
-- them both are as they were. The straightened marking is readable for the history, and the checker accepts exactly these bytes.
pub record Written (edition : ℕ) (starts : List ℕ) (c : Columns) (n : ℕ) (file output list : List ℕ) (k l : ℕ) : Type 0 where
  pub marking : Marking
  pub passes : Passes edition starts c n file output list marking
  pub justified : Justified (start_of starts) (history c n) marking.places
  pub size : k ≡ length file
  pub bytes : take k (straightened_answer edition starts c n file output list).output ≡ marking_bytes (straightened (start_of starts) (history c n) marking)
  pub behind-bytes : drop k (straightened_answer edition starts c n file output list).output ≡ drop k output
  pub moved : take l (straightened_answer edition starts c n file output list).list ≡ moved_events (start_of starts) (history c n) marking
  pub behind_moved : drop l (straightened_answer edition starts c n file output list).list ≡ drop l list
  pub rising : Rises (take l (straightened_answer edition starts c n file output list).list)
  pub readable : ReadableFor (history c n) (straightened (start_of starts) (history c n) marking)
  pub accepted : verdict_answer edition starts c n (take k (straightened_answer edition starts c n file output list).output) ≡ Ok Accepted
