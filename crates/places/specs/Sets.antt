-- Vocabulary between crates: it need not be believed, the public contracts end in the paper's definitions.
-- One step of a walk over the members of a set, lowest first.
-- Assumes nothing.
use Rattle.std.specs.Prelude.{◌≡◌, ℕ, ◌-◌, ◌^◌, ◌∷◌}
use Rattle.lists.specs.Bits.{bit_at, members}

-- t is the lowest member of the set, and rest is the set without it
pub record Lowest (set t rest : ℕ) : Type 0 where
  pub is_in : bit_at t set ≡ 1
  pub others : rest ≡ set - 2 ^ t
  pub first : members set ≡ t ∷ members rest
