-- To be believed: straightened read points (change request 1). Outcomes and order are kept, and so is every point that breaks neither D
-- nor E; each other one is moved to its reader's place. The start values are a parameter.
-- Assumes nothing.
use Rattle.std.specs.Prelude.{ℕ, suc, ◌<◌, ◌≡◌, Bool, true, false, not, cond, List, map, length, get_or}
use Rattle.events.specs.declared.event.Event.{Event}
use Rattle.lists.specs.Lists.{◌and◌, keep}
use Rattle.events.specs.Events.{event_at}
use Rattle.opacity.specs.declared.verdict.Rule.{Rule}
use Rattle.opacity.specs.declared.verdict.Rule.TheVariants.{D}
use Rattle.opacity.specs.Justification.{Place, legal}
use Rattle.opacity.specs.Marking.{Point, Marking, place_of, no_writer_between, value_at_gap, rule_number}
use Rattle.opacity.specs.Verdicts.{Holds}

-- the point breaks neither D nor E
unfoldable pub stays_put : (ℕ → ℕ) → List Event → List Place → Point → Bool
stays_put start h J p = no_writer_between h J p.gap p.event and value_at_gap start h J p.gap p.event

-- the point of the same read at its reader's place
abbrev pub at_reader : List Event → List Place → Point → Point
at_reader h J p = record { event = p.event; gap = place_of (event_at h p.event).transaction J }

unfoldable pub straight_point : (ℕ → ℕ) → List Event → List Place → Point → Point
straight_point start h J p = cond (stays_put start h J p) p (at_reader h J p)

unfoldable pub straightened : (ℕ → ℕ) → List Event → Marking → Marking
straightened start h m = record { places = m.places; points = map (straight_point start h m.places) m.points }

-- the events whose points are moved, in the order of the points
unfoldable pub moved_events : (ℕ → ℕ) → List Event → Marking → List ℕ
moved_events start h m = map (λ p. p.event) (keep (λ p. not (stays_put start h m.places p)) m.points)

-- ---- The words of the theorems.

-- each number is above the one before it
abbrev pub Rises : List ℕ → Type 0
Rises xs = (j : ℕ) → suc j < length xs → get_or xs j 0 < get_or xs (suc j) 0

-- A, B and C hold
abbrev pub OrderRulesHold : (ℕ → ℕ) → List Event → Marking → Type 0
OrderRulesHold start h m = (q : Rule) → rule_number q < rule_number D → Holds start h m q

-- i is the first store read that is not legal in the marking's order, whatever its points are, and A, B and C hold
pub record FirstIllegal (start : ℕ → ℕ) (h : List Event) (m : Marking) (i : ℕ) : Type 0 where
  pub inside : i < length h
  pub illegal : legal start h m.places i ≡ false
  pub lowest : (j : ℕ) → j < i → legal start h m.places j ≡ true
  pub earlier : OrderRulesHold start h m
