-- Vocabulary between crates: it need not be believed, the public contracts end in the paper's definitions.
-- The writes of each transaction, linked backwards, and what is found by following the links.
-- Assumes nothing.
use Rattle.std.specs.Prelude.{ℕ, zero, suc, cond, List, Option, Some, None, eqb, length, get_or}
use Rattle.std.proofs.Math.Option.{Option as Found, none, some}
use Rattle.events.specs.declared.event.Event.{Event}
use Rattle.events.specs.Events.{event_at}
use Rattle.links.specs.Tables.{write_noted, slot, past}
use Rattle.lists.specs.Filled.{Front}

-- each entry holds the last write of its event's transaction before that event
abbrev pub Links : List Event → ℕ → List (Option ℕ) → Type 0
Links h n link = Front None (λ i. slot None write_noted h (event_at h i).transaction i) n link

-- the links of a whole history
abbrev pub Linked : List Event → List (Option ℕ) → Type 0
Linked h link = Links h (length h) link

-- the value of the first write to r that is met from write j back
unfoldable pub following : List Event → List (Option ℕ) → ℕ → ℕ → Option ℕ → Found ℕ
following h link r zero j = none
following h link r (suc k) None = none
following h link r (suc k) (Some i) =
    let rest = following h link r k (get_or link i None) in
    cond (eqb (event_at h i).register r) (some (event_at h i).value) rest

-- no more steps are needed than there are events up to j
abbrev pub write_from : List Event → List (Option ℕ) → ℕ → Option ℕ → Found ℕ
write_from h link r j = following h link r (past j) j

-- what is found, as the code says it
abbrev pub given : Found ℕ → Option ℕ
given none = None
given (some v) = Some v
