-- `starts_end` meets its contract: the loop's invariant is the length so far. Assumes nothing.
use Prim.Native.Nat.{◌+◌}
use mathlib.Core.Path.{◌≡◌}
use lib.ListN.{length}
use Rattle.writer.specs.Writing.{starts_to}
use Rattle.writer.proofs.starts.starts_end.Given as goal

abbrev pub invariant-loop-value : goal.invariant-loop-value
invariant-loop-value l = l.at ≡ 6 + length (starts_to l.starts l.value-index)
