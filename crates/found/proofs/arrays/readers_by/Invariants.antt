-- `found::arrays::readers_by` meets its contract: the transactions passed have their places. Assumes nothing.
use mathlib.Core.Path.{◌≡◌}
use lib.ListN.{length}
use Rattle.lists.specs.Filled.{Front}
use Rattle.opacity.specs.Marking.{place_of}
use Rattle.places.specs.Places.{decode}
use Rattle.found.proofs.arrays.readers_by.Given as goal

abbrev pub invariant-loop-t : goal.invariant-loop-t
invariant-loop-t l = record {
  long : length l.place-items ≡ length l.codes;
  placed : Front 0 (λ u. place_of u (decode l.codes)) l.t l.place-items;
}
