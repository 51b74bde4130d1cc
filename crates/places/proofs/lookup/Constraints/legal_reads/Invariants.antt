-- `places::lookup::Constraints::legal_reads` meets its contract: the reads of the registers passed are legal, so that those left decide.
-- Assumes nothing.
use mathlib.Core.Path.{◌≡◌}
use Prim.Native.Nat.{◌^◌, ◌<◌}
use Rattle.lists.specs.Lists.{all}
use Rattle.lists.specs.Bits.{members}
use Rattle.places.specs.State.{placed_of}
use Rattle.places.specs.Tree.{legal_reads, legal_at}
use Rattle.places.specs.Told.{told}
use Rattle.places.proofs.lookup.Constraints.legal_reads.Given as goal

abbrev pub invariant-loop-r : goal.invariant-loop-r
invariant-loop-r l = record {
  low : l.r-iterator.left < 2 ^ 32;
  decided : legal_reads (told l.self) (placed_of l.s) l.t ≡ all (legal_at l.self.starts.now l.self.facts.now (placed_of l.s) l.t) (members l.r-iterator.left);
}
