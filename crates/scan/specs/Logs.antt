-- Vocabulary between crates: it need not be believed, the public contracts end in the paper's definitions.
-- What the scan of a log answers.
-- Assumes nothing.
use Rattle.std.specs.Prelude.{ℕ, List, length}
use Rattle.events.specs.declared.event.Event.{Event}
use Rattle.event_log.specs.Starts.{start_of}
use Rattle.opacity.specs.Scan.{scan}
use Rattle.scan.specs.Answer.{Scanning, size_refusal, decided}

-- 31 of a history, and then what its prefixes say, each with the start values of the whole
unfoldable pub scan_of : List ℕ → List Event → Scanning
scan_of starts h = decided (size_refusal h (length h)) (scan (start_of starts) h)
