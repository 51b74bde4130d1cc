-- Vocabulary between crates: it need not be believed, the public contracts end in the paper's definitions.
-- What the search is told, as the definitions have it.
-- Assumes nothing.
use Rattle.places.specs.declared.lookup
use Rattle.places.specs.Tree.{Constraints, asking}

abbrev pub told : lookup.Constraints.Constraints → Constraints
told c = asking c.starts.now c.facts.now c.asked
