-- Vocabulary between crates: it need not be believed, the public contracts end in the paper's definitions.
-- The order of a marking that stands in two arrays, of transactions and of outcomes by place.
-- Assumes nothing.
use Rattle.std.specs.Prelude.{ℕ, zero, suc, List, [], ◌∷◌, ◌++◌, eqb, get_or}
use Rattle.opacity.specs.Justification.{Place}

-- the place of a number: a transaction, and whether its outcome is 1
abbrev pub place_at : List ℕ → List ℕ → ℕ → Place
place_at order outcomes k = record { transaction = get_or order k 0; committed = eqb (get_or outcomes k 0) 1 }

-- the first k places
unfoldable pub places_of : List ℕ → List ℕ → ℕ → List Place
places_of order outcomes zero = []
places_of order outcomes (suc k) = places_of order outcomes k ++ (place_at order outcomes k ∷ [])
