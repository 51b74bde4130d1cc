-- Vocabulary between crates: it need not be believed, the public contracts end in the paper's definitions.
-- The tables by which points are moved, and the marking that stands in arrays, as bytes.
-- Assumes nothing.
use Rattle.std.specs.Prelude.{ℕ, ◌+◌, ◌*◌, ◌≤◌, ◌≡◌, Bool, false, not, cond, List, length, get_or}
use Rattle.events.specs.declared.event.Event.{Event}
use Rattle.lists.specs.Lists.{◌and◌, keep, range}
use Rattle.events.specs.Events.{event_at, begins}
use Rattle.opacity.specs.declared.verdict.Rule.{Rule}
use Rattle.opacity.specs.declared.verdict.Rule.TheVariants.{D, E}
use Rattle.opacity.specs.Transactions.{store_reads}
use Rattle.rules.specs.Judge.{content}
use Rattle.marking_reader.specs.State.{Kept}
use Rattle.straighten.specs.Straight.{straightened, moved_events}

-- whether the point of an event breaks D or E
abbrev pub breaks_by : (Rule → ℕ → Bool) → ℕ → Bool
breaks_by holds i = not (holds D i and holds E i)

-- the gap of an event's point: its reader's place, if it is moved
abbrev pub gap_by : List Event → List ℕ → List Bool → List ℕ → ℕ → ℕ
gap_by h place moves gaps i = cond (get_or moves i false) (get_or place (event_at h i).transaction 0) (get_or gaps i 0)

-- there is room for the marking of the history and for all its store reads
pub record Room (h : List Event) (output list : ℕ) : Type 0 where
  pub bytes : 6 + 8 * begins h + 10 * length (store_reads h) ≤ output
  pub entries : length (store_reads h) ≤ list

-- the events that a table says yes to, rising
abbrev pub listed : List Bool → ℕ → List ℕ
listed table n = keep (λ i. get_or table i false) (range n)

-- the points in the arrays after those that break D or E were moved, which a table says: they are those of the definition, and the marking
-- is as readable as it was
pub record Moved (start : ℕ → ℕ) (h : List Event) (order outcomes gaps straight : List ℕ) (moves : List Bool) : Type 0 where
  pub points : content h order outcomes straight ≡ straightened start h (content h order outcomes gaps)
  pub moved : listed moves (length h) ≡ moved_events start h (content h order outcomes gaps)
  pub kept : Kept h order outcomes straight
