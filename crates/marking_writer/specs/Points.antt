-- Vocabulary between crates: it need not be believed, the public contracts end in the paper's definitions.
-- The read points of a marking, as a writer goes through the events.
-- Assumes nothing.
use Rattle.std.specs.Prelude.{ℕ, zero, suc, Bool, not, cond, List, [], ◌++◌, eqb}
use Rattle.opacity.specs.Marking.{point_bytes}

-- a gap, and not what stands for none
abbrev pub is_gap : ℕ → Bool
is_gap g = not (eqb g 65535)

-- the point of event i, if that has one
abbrev pub read_bytes : Bool → ℕ → ℕ → List ℕ
read_bytes store i g = cond store (point_bytes (record { event = i; gap = g })) []

-- the points of the events below n
unfoldable pub points_to : (ℕ → Bool) → (ℕ → ℕ) → ℕ → List ℕ
points_to store gap zero = []
points_to store gap (suc i) = points_to store gap i ++ read_bytes (store i) i (gap i)
