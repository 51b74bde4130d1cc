-- To be believed: the words of the theorems about the finder's answer.
-- Assumes nothing.
use Rattle.std.specs.Prelude.{ℕ, ◌≡◌, List, length, take, drop, Ok}
use Rattle.event_log.specs.Columns.{Columns, history}
use Rattle.event_log.specs.Starts.{start_of}
use Rattle.opacity.specs.Justification.{Place}
use Rattle.opacity.specs.Lowest.{LowestJustified}
use Rattle.opacity.specs.declared.verdict.Verdict.TheVariants.{Accepted}
use Rattle.opacity.specs.Marking.{ReadableFor, marked, marking_bytes, verdict}
use Rattle.finder.specs.Answer.{find_refusal, found_answer}

-- no question says no to a call
abbrev pub Passes : ℕ → List ℕ → Columns → ℕ → ℕ → List ℕ → Type 0
Passes edition starts c count prefix output = find_refusal edition starts c count prefix (length output) ≡ Ok tt

-- n is the length of the marking of the lowest justification
pub record LowestSize (starts : List ℕ) (c : Columns) (count prefix n : ℕ) : Type 0 where
  pub order : List Place
  pub lowest : LowestJustified (start_of starts) (take prefix (history c count)) order
  pub size : length (marking_bytes (marked (take prefix (history c count)) order)) ≡ n

-- What is written is the marking of the lowest justification. It is readable for the prefix, the rules accept it, and nothing behind it has
-- changed.
pub record Written (edition : ℕ) (starts : List ℕ) (c : Columns) (count prefix : ℕ) (output : List ℕ) (n : ℕ) : Type 0 where
  pub passes : Passes edition starts c count prefix output
  pub order : List Place
  pub lowest : LowestJustified (start_of starts) (take prefix (history c count)) order
  pub bytes : take n (found_answer edition starts c count prefix output).output ≡ marking_bytes (marked (take prefix (history c count)) order)
  pub behind : drop n (found_answer edition starts c count prefix output).output ≡ drop n output
  pub readable : ReadableFor (take prefix (history c count)) (marked (take prefix (history c count)) order)
  pub accepted : verdict (start_of starts) (take prefix (history c count)) (marked (take prefix (history c count)) order) ≡ Accepted
