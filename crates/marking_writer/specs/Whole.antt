-- Vocabulary between crates: it need not be believed, the public contracts end in the paper's definitions.
-- The marking that stands in arrays, as bytes.
-- Assumes nothing.
use Rattle.std.specs.Prelude.{ℕ, List, ◌++◌, length, get_or}
use Rattle.opacity.specs.Arrays.{places_of}
use Rattle.opacity.specs.Marking.{marking_head, place_bytes, flat}
use Rattle.marking_writer.specs.Points.{is_gap, points_to}

-- the points of the first n events
abbrev pub points_in : List ℕ → ℕ → List ℕ
points_in gaps n = points_to (λ i. is_gap (get_or gaps i 0)) (λ i. get_or gaps i 0) n

-- head, places and points
abbrev pub bytes_in : List ℕ → List ℕ → ℕ → List ℕ → List ℕ
bytes_in order outcomes b gaps = marking_head ++ (flat place_bytes (places_of order outcomes b) ++ points_in gaps (length gaps))
