-- Vocabulary between crates: it need not be believed, the public contracts end in the paper's definitions.
-- What the choosers of the search answer for a state of it: places in the tree of orders and outcomes.
-- Assumes nothing.
use Rattle.std.specs.Prelude.{ℕ, ◌-◌, ◌^◌}
use Rattle.std.specs.Int.Count.{ones}
use Rattle.lists.specs.Lists.{or_else}
use Rattle.places.specs.declared.state.Search.{Search}
use Rattle.lists.specs.Bits.{members}
use Rattle.places.specs.State.{placed_of}
use Rattle.places.specs.Tree.{Constraints, Completion, from_candidates, at_transaction}

-- the first completion of the places of s whose next transaction is one of the candidates c
abbrev pub among : Constraints → Search → ℕ → Completion
among D s c = from_candidates D (ones s.unplaced) (placed_of s) (members s.unplaced) (members c)

-- the first whose next transaction is t
abbrev pub with_next : Constraints → Search → ℕ → Completion
with_next D s t = at_transaction D (ones (s.unplaced - 2 ^ t)) (placed_of s) (members s.unplaced) t

-- the first whose next transaction is t, or else another of the candidates
abbrev pub from : Constraints → Search → ℕ → ℕ → Completion
from D s c t = or_else (with_next D s t) (among D s (c - 2 ^ t))
