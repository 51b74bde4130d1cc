-- To be believed: the counts of the report's first line (the paper, "Scan and report").
-- Assumes nothing.
use Rattle.std.specs.Prelude.{ℕ, Bool, true, false, List, length}
use Rattle.events.specs.declared.event.Event.{Event}
use Rattle.events.specs.Events.{begins}
use Rattle.opacity.specs.Transactions.{store_reads}

-- the counts of the report's first line
pub record Counts : Type 0 where
  pub events : ℕ
  pub transactions : ℕ
  pub reads : ℕ

unfoldable pub counts : List Event → Counts
counts h = record { events = length h; transactions = begins h; reads = length (store_reads h) }

-- as a number
abbrev pub one : Bool → ℕ
one true = 1
one false = 0
