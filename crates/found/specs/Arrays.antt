-- Vocabulary between crates: it need not be believed, the public contracts end in the paper's definitions.
-- The order found in arrays, and the gaps of its points.
-- Assumes nothing.
use Rattle.std.specs.Prelude.{ℕ, ◌/◌, ◌%◌, List, get_or}
use Rattle.lists.specs.Filled.{Filled}
use Rattle.events.specs.declared.event.Event.{Event}
use Rattle.events.specs.Events.{event_at}
use Rattle.opacity.specs.Justification.{Place}
use Rattle.opacity.specs.Marking.{place_of, marked, marking_bytes}
use Rattle.places.specs.Places.{decode}

-- the first places of the codes: the transaction and the outcome of each
pub record Arrayed (codes : List ℕ) (count : ℕ) (order outcomes : List ℕ) : Type 0 where
  pub transactions : Filled 64 0 (λ k. get_or codes k 0 / 2) count order
  pub ends : Filled 64 0 (λ k. get_or codes k 0 % 2) count outcomes

-- each point stands at its reader's place
abbrev pub gap_at : List Event → List Place → ℕ → ℕ
gap_at h J i = place_of (event_at h i).transaction J

-- the marking of the order that codes say, as bytes
abbrev pub found_bytes : List Event → List ℕ → List ℕ
found_bytes h codes = marking_bytes (marked h (decode codes))
