-- `put_starts` meets its contract: the loop's invariant says what stands in the output so far. Assumes nothing.
use Prim.Native.Nat.{◌+◌}
use mathlib.Core.Path.{◌≡◌}
use lib.ListN.{length}
use Rattle.records.specs.Bytes.{placed}
use Rattle.writer.specs.Writing.{starts_to}
use Rattle.writer.proofs.starts.put_starts.Given as goal

abbrev pub invariant-loop-r : goal.invariant-loop-r
invariant-loop-r l = (l.at ≡ 6 + length (starts_to l.starts l.r)) × (l.out ≡ placed l.initial.out 6 (starts_to l.starts l.r))
