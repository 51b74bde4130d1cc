-- To be believed: the tally of a history (change request 2), how many of its transactions are committed, aborted, pending and live.
-- Each is defined from the events alone, by the status of a transaction that justifications go by.
-- Assumes nothing.
use Rattle.std.specs.Prelude.{ℕ, Bool, List, eqb, length}
use Rattle.lists.specs.Lists.{keep, range}
use Rattle.events.specs.declared.event.Event.{Event}
use Rattle.events.specs.Events.{begins}
use Rattle.opacity.specs.Transactions.{Status, committed, aborted, pending, live, status_number, status}
use Rattle.counts.specs.declared.tally.Tally.{Tally}

-- a transaction has this status
abbrev pub has_status : Status → List Event → ℕ → Bool
has_status s h t = eqb (status_number (status h t)) (status_number s)

-- the transactions of a history that have it, rising
unfoldable pub of_status : Status → List Event → List ℕ
of_status s h = keep (has_status s h) (range (begins h))

unfoldable pub tally : List Event → Tally
tally h = record {
  committed = length (of_status committed h);
  aborted = length (of_status aborted h);
  pending = length (of_status pending h);
  live = length (of_status live h);
}

-- how often a number stands in a list
unfoldable pub times : ℕ → List ℕ → ℕ
times t xs = length (keep (λ u. eqb u t) xs)
