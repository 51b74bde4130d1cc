-- Vocabulary between crates: it need not be believed, the public contracts end in the paper's definitions.
-- What the finder answers of a log.
-- Assumes nothing.
use Rattle.std.specs.Prelude.{ℕ, List, length}
use Rattle.events.specs.declared.event.Event.{Event}
use Rattle.event_log.specs.Starts.{start_of}
use Rattle.finder.specs.Answer.{Given, prefix_refusal, lowest_marking, decided}

-- 31 and 32 of a history that comes with this count, and then what is found of it
unfoldable pub find_of : List ℕ → List Event → ℕ → List ℕ → Given
find_of starts h count output = decided (prefix_refusal h count (length output)) (lowest_marking (start_of starts) h) output
