-- `places::state::codes_of` meets its contract.
-- Assumes nothing.
use mathlib.Core.Path.{◌≡◌}
use lib.ListN.{length, take}
use Rattle.places.specs.Places.{codes_of}
use Rattle.places.proofs.state.codes_of.Given as goal

abbrev pub invariant-loop-i : goal.invariant-loop-i
invariant-loop-i l = record {
  long : length l.codes ≡ 10;
  same : take l.i l.codes ≡ take l.i (codes_of l.count l.order);
}
